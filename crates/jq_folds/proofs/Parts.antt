-- A fold over the inputs and where it is in its filter.
use Rattle.std.proofs.Common.{◌≡◌, ℕ, Option, Some, None, true, refl}
use Rattle.jq_tree.specs.Tree.{Name, Tree, no_trees, Pattern}
use Rattle.jq_tree.specs.Tree as tree
use Rattle.jq_tree.specs.Names.{Scope}
use Rattle.jq_tree.specs.Inputs.{inputs, at_most_one, count, count_pattern}
use Rattle.std.specs.Prelude.{List}
use Rattle.jq_meaning.specs.Env.{Env, bound, function, no_callee, find_callee, find_inputs}
use Rattle.jq_folds.specs.Folding.{Fold, a_reduce, a_foreach, fold_at, fold_in}
use Rattle.jq_folds.specs.laws.Reading.{Hides, NoneReads}

abbrev pub reduce_inputs : Pattern → (start update : Tree) → Tree
reduce_inputs p start update = tree.reduce (tree.call inputs no_trees) p start update

abbrev pub foreach_inputs : Pattern → (start update extract : Tree) → Tree
foreach_inputs p start update extract = tree.foreach (tree.call inputs no_trees) p start update extract

-- A filter in some bindings has these parts. They are in the second bindings, to which the filter's definitions are added.
pub data HasParts : Tree → Env → Fold → Env → Type 0 where
  reduce_alone : {e : Env} {p : Pattern} {start update : Tree} → HasParts (reduce_inputs p start update) e (a_reduce p start update None) e
  reduce_piped : {e : Env} {p : Pattern} {start update g : Tree} → HasParts (tree.pipe (reduce_inputs p start update) g) e (a_reduce p start update (Some g)) e
  foreach_alone : {e : Env} {p : Pattern} {start update extract : Tree}
      → HasParts (foreach_inputs p start update extract) e (a_foreach p start update extract None) e
  foreach_piped : {e : Env} {p : Pattern} {start update extract g : Tree}
      → HasParts (tree.pipe (foreach_inputs p start update extract) g) e (a_foreach p start update extract (Some g)) e
  after_definition : {e own : Env} {n : Name} {ps : List Name} {body rest : Tree} {f : Fold} → HasParts rest (bound (function n ps body) e) f own
      → HasParts (tree.define n ps body rest) e f own

pub parts-found : {t : Tree} {e own : Env} {f : Fold} → HasParts t e f own → fold_in t e ≡ Some (fold_at f own)
parts-found reduce_alone = refl
parts-found reduce_piped = refl
parts-found foreach_alone = refl
parts-found foreach_piped = refl
parts-found (after_definition q) = parts-found q

abbrev pub count_option : Scope → Option Tree → ℕ
count_option s None = 0
count_option s (Some t) = count s t

-- The parts do not call `inputs`, and nor does anything in the bindings.
pub record NoPartReads (s : Scope) (f : Fold) (own : Env) : Type 0 where
  pub pattern : count_pattern s f.pattern ≡ 0
  pub start : count s f.start ≡ 0
  pub update : count s f.update ≡ 0
  pub extract : count_option s f.extract ≡ 0
  pub closing : count_option s f.closing ≡ 0
  pub hides : Hides s own
  pub silent : NoneReads own

-- A filter in these bindings is a fold over the inputs of the language.
pub record Placed (t : Tree) (e : Env) : Type 0 where
  pub fold : Fold
  pub own : Env
  pub parts : HasParts t e fold own
  pub outer : find_callee inputs 0 own ≡ no_callee
  pub single : at_most_one fold.start ≡ true
  pub scope : Scope
  pub none_reads : NoPartReads scope fold own
  pub inputs : find_inputs own ≡ find_inputs e
