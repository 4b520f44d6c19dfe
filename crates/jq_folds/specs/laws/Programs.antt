-- Bindings after definitions that leave `inputs` alone.
use Rattle.std.specs.Prelude.{◌≡◌, List, [], ◌∷◌, false, length}
use Rattle.jv_data.specs.Value.{Value}
use Rattle.jq_tree.specs.Tree.{Name, Tree}
use Rattle.jq_tree.specs.Tree as tree
use Rattle.jq_tree.specs.Names.{Scope, to_function, is_bound}
use Rattle.jq_tree.specs.Inputs.{inputs, count}
use Rattle.jq_meaning.specs.Runs.{Run}
use Rattle.jq_meaning.specs.Env.{Env, outermost, bound, function, with_variables}
use Rattle.jq_folds.specs.laws.Reading.{LeavesInputsAlone}

-- the bindings after the definitions that a tree begins with
abbrev pub within : Tree → Env → Env
within (tree.define n ps f g) e = within g (bound (function n ps f) e)
within t e = e

-- what these definitions bind
abbrev pub scope_within : Tree → Scope → Scope
scope_within (tree.define n ps f g) s = scope_within g (to_function n (length ps) ∷ s)
scope_within t s = s

-- The definitions of this tree neither call `inputs` nor define a function of that name.
pub record HasNoInputs (p : Tree) : Type 0 where
  pub calls : count [] p ≡ 0
  pub names : is_bound (to_function inputs 0) (scope_within p []) ≡ false

-- Then the bindings after them leave `inputs` alone, with any variables around them.
abbrev pub DefinitionsLeaveInputsAlone : Type 0
DefinitionsLeaveInputsAlone = (p : Tree) (variables : List (Name × Value)) (i : Run Value) → HasNoInputs p
    → LeavesInputsAlone (within p (with_variables variables (outermost i)))
