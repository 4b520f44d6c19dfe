-- What is proved about folds over the inputs.
use Rattle.std.specs.Prelude.{◌≡◌, ℕ, List, [], ◌∷◌, Some, true}
use Rattle.std.specs.List.{flat_map}
use Rattle.jv_data.specs.Value.{Value}
use Rattle.jq_tree.specs.Tree.{Tree}
use Rattle.jq_tree.specs.Inputs.{at_most_one, FoldShape, InputsInPlace}
use Rattle.jq_meaning.specs.Runs.{Item, Ending, Done, Raised, Broken, Stopped, Run, plain, none}
use Rattle.jq_meaning.specs.Env.{Env}
use Rattle.jq_meaning.specs.Meaning.{meaning}
use Rattle.jq_folds.specs.Pieces.{begun}
use Rattle.jq_folds.specs.Folding.{Fold, FoldAt, fold_in, pieces_of, steps_of}
use Rattle.jq_folds.specs.laws.Reading.{with_inputs, LeavesInputsAlone}
use Rattle.jq_folds.specs.laws.States.{states_from, IsValue, LeadsTo, EndsOnce}

-- ---- the pieces as one run

-- the first ending other than Done
abbrev pub first_end : Ending → Ending → Ending
first_end Done e = e
first_end (Raised v) e = Raised v
first_end (Broken k) e = Broken k
first_end (Stopped stop) e = Stopped stop

abbrev pub joined_ending : List (Run Item) → Ending
joined_ending [] = Done
joined_ending (r ∷ rs) = first_end r.ending (joined_ending rs)

-- the items one after the other, and the first ending other than Done
abbrev pub joined : List (Run Item) → Run Item
joined rs = record { items = flat_map (λ r. r.items) rs; ending = joined_ending rs }

-- ---- a filter as a fold

-- In these bindings the filter is a fold. Over any inputs its run is that of the fold's pieces one after the other, and the pieces
-- are made in bindings without inputs.
pub record IsFolded (t : Tree) (e : Env) : Type 0 where
  pub found : FoldAt
  pub parts : fold_in t (with_inputs none e) ≡ Some found
  pub single : at_most_one found.fold.start ≡ true
  pub run : (depth level : ℕ) (v : Value) (vs : List Value)
      → meaning depth t (with_inputs (record { items = vs; ending = Done }) e) level (plain v)
      ≡ joined (pieces_of depth found.env level found.fold (plain v) vs)

-- This holds for each accepted filter with the plan of a fold, if the bindings around it leave `inputs` alone.
abbrev pub FoldsAreFolded : Type 0
FoldsAreFolded = (t : Tree) (e : Env) → FoldShape [] t → InputsInPlace t → LeavesInputsAlone e → IsFolded t e

-- ---- states and endings

-- Each state of a fold that begins on a value is a value.
abbrev pub StatesAreValues : Type 0
StatesAreValues = (f : Fold) (e : Env) (depth level : ℕ) (v : Value) (vs : List Value)
    → IsValue (states_from (steps_of depth e level f) (begun (meaning depth f.start e level (plain v))).next vs)

-- So is the next state after such a state.
abbrev pub NextIsValue : Type 0
NextIsValue = (f : Fold) (e : Env) (depth level : ℕ) (v input : Value) → IsValue ((steps_of depth e level f).step (plain v) input).next

abbrev pub BeginLeads : Type 0
BeginLeads = (f : Fold) (e : Env) (depth level : ℕ) (v : Value) → at_most_one f.start ≡ true
    → LeadsTo (begun (meaning depth f.start e level (plain v))).run.ending (begun (meaning depth f.start e level (plain v))).next

abbrev pub StepLeads : Type 0
StepLeads = (f : Fold) (e : Env) (depth level : ℕ) (s : Item) (input : Value)
    → LeadsTo ((steps_of depth e level f).step s input).run.ending ((steps_of depth e level f).step s input).next

-- Only one piece has an ending other than Done, and nothing follows it.
abbrev pub PiecesEndOnce : Type 0
PiecesEndOnce = (f : Fold) (e : Env) (depth level : ℕ) (x : Item) (vs : List Value) → EndsOnce (pieces_of depth e level f x vs)
