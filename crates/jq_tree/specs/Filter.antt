-- The outcome of a filter's text: a tree, or the first fault in the order in which faults are looked for.
use Rattle.std.specs.Prelude.{◌≡◌, ℕ, List, [], ◌∷◌, Bool, true, false, not, nat_eq}
use Rattle.jq_tree.specs.Tree.{Name, Tree}
use Rattle.jq_tree.specs.Token.{Token, TooManyTokens, TooNested}
use Rattle.jq_tree.specs.Lexing.{Lexes, BadToken}
use Rattle.jq_tree.specs.Grammar.{Main}
use Rattle.jq_tree.specs.Prelude.{IsPrelude, followed_by}
use Rattle.jq_tree.specs.Names.{Reference}
use Rattle.jq_tree.specs.BoundTree.{BoundTree}
use Rattle.jq_tree.specs.Binders.{bound_filter, Closed, FirstUnbound}
use Rattle.jq_tree.specs.Inputs.{InputsInPlace, FoldShape, count}

-- What a filter is read with: the variables that the command line binds, and whether it runs once on null.
pub record Setting : Type 0 where
  pub variables : List Name
  pub on_null : Bool

abbrev pub names_of : {V : Type 0} → List (Name × V) → List Name
names_of [] = []
names_of (v ∷ vs) = v.0 ∷ names_of vs

-- The setting of the options: `-n`, and the variables of `--arg` and `--argjson` with their values, in the order of the
-- command. (No other option changes how a filter is read.)
abbrev pub setting_of : {V : Type 0} → (null : Bool) → (variables : List (Name × V)) → Setting
setting_of null variables = record { variables = names_of variables; on_null = null }

-- The filter has `inputs`.
abbrev pub reads : Tree → Bool
reads t = not (nat_eq (count [] t) 0)

pub data Outcome : Type 0 where
  accepted : Tree → Outcome  -- the filter's own tree; it runs after the prelude
  bad_token : (at_byte : ℕ) → Outcome
  too_many_tokens : Outcome
  too_nested : Outcome
  syntax_error : Outcome
  undefined : Reference → Outcome
  inputs_misplaced : Outcome
  inputs_without_null : Outcome

-- The tokens of a text within both limits. Only the tokens of the filter count, not those of the prelude.
pub record Within (text : List ℕ) (ts : List Token) : Type 0 where
  pub lexes : Lexes text ts
  pub few : ¬ TooManyTokens ts
  pub flat : ¬ TooNested ts

-- A text within the limits, and its tree.
pub record Spelt (text : List ℕ) (t : Tree) : Type 0 where
  pub tokens : List Token
  pub within : Within text tokens
  pub tree : Main tokens t

-- The outcome of a filter that is read after the definitions of this tree.
pub data BecomesAfter (prelude : Tree) (setting : Setting) (text : List ℕ) : Outcome → Type 0 where
  by_token : {at_byte : ℕ} → BadToken text at_byte → BecomesAfter prelude setting text (bad_token at_byte)
  by_count : (ts : List Token) → Lexes text ts → TooManyTokens ts → BecomesAfter prelude setting text too_many_tokens
  by_nesting : (ts : List Token) → Lexes text ts → ¬ TooManyTokens ts → TooNested ts → BecomesAfter prelude setting text too_nested
  by_grammar : (ts : List Token) → Within text ts → ((t : Tree) → ¬ Main ts t) → BecomesAfter prelude setting text syntax_error
  by_name : (t : Tree) {r : Reference} → Spelt text t → FirstUnbound setting.variables (followed_by prelude t) r
      → BecomesAfter prelude setting text (undefined r)
  by_place : (t : Tree) → Spelt text t → Closed setting.variables (followed_by prelude t) → ¬ InputsInPlace t
      → BecomesAfter prelude setting text inputs_misplaced
  by_option : (t : Tree) → Spelt text t → Closed setting.variables (followed_by prelude t) → InputsInPlace t → reads t ≡ true
      → setting.on_null ≡ false → BecomesAfter prelude setting text inputs_without_null
  as_tree : {t : Tree} → Spelt text t → Closed setting.variables (followed_by prelude t) → InputsInPlace t
      → (reads t ≡ true → setting.on_null ≡ true) → BecomesAfter prelude setting text (accepted t)

-- The outcome of a filter, which is read after the prelude.
abbrev pub Becomes : Setting → List ℕ → Outcome → Type 0
Becomes setting text o = (p : Tree) × IsPrelude p × BecomesAfter p setting text o

-- The tree that an accepted filter runs as, where p is the prelude's tree: the prelude and then the filter, each name with
-- its binder.
abbrev pub runs_as : (p : Tree) → Setting → Tree → BoundTree
runs_as p setting t = bound_filter setting.variables (followed_by p t)

-- ---- which runs a filter needs for its inputs

pub data Plan : Type 0 where
  per_input : Plan  -- one run for each input
  fold : Plan  -- one run on null, which folds the inputs
  once : Plan  -- any other single run

-- The tree is that of the filter alone, without the prelude.
pub data HasPlan : (null slurp : Bool) → Tree → Plan → Type 0 where
  plan_per_input : {t : Tree} → HasPlan false false t per_input
  plan_slurp : {t : Tree} → HasPlan false true t once
  plan_fold : {slurp : Bool} {t : Tree} → FoldShape [] t → HasPlan true slurp t fold
  plan_other_null : {slurp : Bool} {t : Tree} → ¬ FoldShape [] t → HasPlan true slurp t once
