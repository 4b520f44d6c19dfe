-- Filters that fold their inputs: their parts, and what each part does (manual of jq 1.7, "reduce", "foreach", "inputs").
use Rattle.std.specs.Prelude.{ℕ, List, Option, Some, None}
use Rattle.jv_data.specs.Value.{Value}
use Rattle.jq_tree.specs.Tree.{Tree, Pattern}
use Rattle.jq_tree.specs.Tree as tree
use Rattle.jq_meaning.specs.Runs.{Item, Run, ended, none, bind}
use Rattle.jq_meaning.specs.Env.{Env, bound, function}
use Rattle.jq_meaning.specs.Folds.{reduced, each_of}
use Rattle.jq_meaning.specs.Continuations.{on_state}
use Rattle.jq_meaning.specs.Meaning.{below, meaning, bindings_with}
use Rattle.jq_folds.specs.Pieces.{stepped, Steps, pieces}

-- The parts of a fold over the inputs.
pub record Fold : Type 0 where
  pub pattern : Pattern
  pub start : Tree
  pub update : Tree
  pub extract : Option Tree  -- of `foreach`
  pub closing : Option Tree  -- the filter that the fold is piped into

abbrev pub a_reduce : Pattern → (start update : Tree) → (closing : Option Tree) → Fold
a_reduce p start update closing = record { pattern = p; start = start; update = update; extract = None; closing = closing }

abbrev pub a_foreach : Pattern → (start update extract : Tree) → (closing : Option Tree) → Fold
a_foreach p start update extract closing = record { pattern = p; start = start; update = update; extract = Some extract; closing = closing }

-- ---- the fold in a filter

-- A fold and the bindings in which its parts are.
pub record FoldAt : Type 0 where
  pub fold : Fold
  pub env : Env

abbrev pub fold_at : Fold → Env → FoldAt
fold_at f e = record { fold = f; env = e }

-- a fold that is piped into this filter, if there is one (its source is not looked at)
abbrev pub fold_before : (closing : Option Tree) → Tree → Env → Option FoldAt
fold_before closing (tree.reduce source p start update) e = Some (fold_at (a_reduce p start update closing) e)
fold_before closing (tree.foreach source p start update extract) e = Some (fold_at (a_foreach p start update extract closing) e)
fold_before closing t e = None

-- the fold of a filter: alone or piped into a filter, after any definitions
abbrev pub fold_in : Tree → Env → Option FoldAt
fold_in (tree.define n ps body rest) e = fold_in rest (bound (function n ps body) e)
fold_in (tree.pipe t g) e = fold_before (Some g) t e
fold_in t e = fold_before None t e

-- ---- what the parts do, at a depth, in their bindings, at a label level

-- the filter that the fold is piped into, `.` if there is none
abbrev pub closing_tree : Option Tree → Tree
closing_tree None = tree.identity
closing_tree (Some g) = g

-- the lists of bindings that the pattern makes of one input
abbrev pub bindings_of : ℕ → Env → ℕ → Fold → Value → Run Env
bindings_of d e k f v = bindings_with (below d) f.pattern k e v

-- the last state of the fold over all of these
abbrev pub states_of : ℕ → Env → ℕ → Fold → Item → Value → Run Item
states_of d e k f s v = reduced (on_state (meaning d f.update) k) (bindings_of d e k f v).items (bindings_of d e k f v).ending s

-- the outputs for one input: those of `foreach`, piped into the filter after it
abbrev pub outputs_of : ℕ → Env → ℕ → Fold → Option Tree → Item → Value → Run Item
outputs_of d e k f None s v = ended (states_of d e k f s v).ending
outputs_of d e k f (Some extract) s v =
    bind (each_of (on_state (meaning d f.update) k) (on_state (meaning d extract) k) (bindings_of d e k f v).items (bindings_of d e k f v).ending s)
    (meaning d (closing_tree f.closing) e k)

-- what follows a `reduce`
abbrev pub closed_by : ℕ → Env → ℕ → Fold → Option Tree → Item → Run Item
closed_by d e k f None s = meaning d (closing_tree f.closing) e k s
closed_by d e k f (Some extract) s = none

abbrev pub steps_of : ℕ → Env → ℕ → Fold → Steps
steps_of d e k f =
    record { step = λ s v. stepped (outputs_of d e k f f.extract s v) (states_of d e k f s v); close = closed_by d e k f f.extract }

-- the pieces of a fold that begins on an item, over these inputs
abbrev pub pieces_of : ℕ → Env → ℕ → Fold → Item → List Value → List (Run Item)
pieces_of d e k f x vs = pieces (steps_of d e k f) (meaning d f.start e k x) vs
