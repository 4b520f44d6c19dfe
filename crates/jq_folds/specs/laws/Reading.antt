-- Filters that do not call `inputs`, and bindings in which no filter does.
use Rattle.std.specs.Prelude.{◌≡◌, ◌∷◌, true, length, ⊤}
use Rattle.jv_data.specs.Value.{Value}
use Rattle.jq_tree.specs.Names.{Scope, to_function, is_bound, with_parameters}
use Rattle.jq_tree.specs.Inputs.{inputs, count}
use Rattle.jq_meaning.specs.Runs.{Run}
use Rattle.jq_meaning.specs.Env.{Env, outermost, bound, value_of, function, closure, label_of, Callee, found_function, found_closure, no_callee, find_callee}

-- the bindings with other inputs, also in the bindings of the filters that were passed
abbrev pub with_inputs : Run Value → Env → Env
with_inputs r (outermost i) = outermost r
with_inputs r (bound (value_of n v) e) = bound (value_of n v) (with_inputs r e)
with_inputs r (bound (function n ps body) e) = bound (function n ps body) (with_inputs r e)
with_inputs r (bound (closure n body own) e) = bound (closure n body (with_inputs r own)) (with_inputs r e)
with_inputs r (bound (label_of n k) e) = bound (label_of n k) (with_inputs r e)

abbrev pub IsFound : Callee → Type 0
IsFound (found_function ps body own) = ⊤
IsFound (found_closure body own) = ⊤
IsFound no_callee = ⊥

-- If the scope binds a function `inputs`, so do the bindings.
abbrev pub Hides : Scope → Env → Type 0
Hides own e = is_bound (to_function inputs 0) own ≡ true → IsFound (find_callee inputs 0 e)

-- No function in these bindings calls the language's `inputs`, and no filter that was passed.
abbrev pub NoneReads : Env → Type 0
NoneReads (outermost i) = ⊤
NoneReads (bound (value_of n v) e) = NoneReads e
NoneReads (bound (function n ps body) e) =
    NoneReads e × (own : Scope) × (count (with_parameters ps (to_function n (length ps) ∷ own)) body ≡ 0) × Hides own e
NoneReads (bound (closure n body own) e) = NoneReads e × NoneReads own × (s : Scope) × (count s body ≡ 0) × Hides s own
NoneReads (bound (label_of n k) e) = NoneReads e

-- No function in these bindings calls `inputs`, and none has that name.
pub record LeavesInputsAlone (e : Env) : Type 0 where
  pub calls : NoneReads e
  pub names : find_callee inputs 0 e ≡ no_callee
