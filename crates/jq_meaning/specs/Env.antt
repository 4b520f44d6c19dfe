-- What names are bound to.
use Rattle.std.specs.Prelude.{ℕ, List, [], ◌∷◌, Bool, ◌&&◌, bytes_eq, nat_eq, length, if◌then◌else◌, Option, Some, None}
use Rattle.jv_data.specs.Value.{Value, null}
use Rattle.jq_tree.specs.Tree.{Name, Tree, Trees, no_trees, more_trees}
use Rattle.jq_meaning.specs.Runs.{Run}

-- A list of bindings by name, the innermost first. It ends with the run of `inputs`: the
-- values that it returns, and how it ends.
mutual
  pub data Env : Type 0 where
    outermost : (inputs : Run Value) → Env
    bound : Binding → Env → Env

  pub data Binding : Type 0 where
    value_of : Name → Value → Binding
    function : Name → (parameters : List Name) → (body : Tree) → Binding
    closure : Name → (body : Tree) → (own : Env) → Binding
    label_of : Name → (level : ℕ) → Binding

-- What a call finds: a function, with the bindings from its own one outwards; or a filter
-- that was passed, with the bindings of the call that passed it.
pub data Callee : Type 0 where
  found_function : (parameters : List Name) → (body : Tree) → (own : Env) → Callee
  found_closure : (body : Tree) → (own : Env) → Callee
  no_callee : Callee

-- (a name without a binding is null; no accepted filter has one)
abbrev pub find_value : Name → Env → Value
find_value n (outermost inputs) = null
find_value n (bound (value_of m v) e) = if bytes_eq n m then v else find_value n e
find_value n (bound (function m ps body) e) = find_value n e
find_value n (bound (closure m body own) e) = find_value n e
find_value n (bound (label_of m k) e) = find_value n e

-- the level of the innermost label of this name
abbrev pub find_level : Name → Env → Option ℕ
find_level n (outermost inputs) = None
find_level n (bound (value_of m v) e) = find_level n e
find_level n (bound (function m ps body) e) = find_level n e
find_level n (bound (closure m body own) e) = find_level n e
find_level n (bound (label_of m k) e) = if bytes_eq n m then Some k else find_level n e

-- the same name, and the same number of arguments
abbrev pub is_named : Name → ℕ → Name → ℕ → Bool
is_named n count m arity = bytes_eq n m && nat_eq count arity

-- the innermost function or parameter with this name and this number of arguments
abbrev pub find_callee : Name → ℕ → Env → Callee
find_callee n count (outermost inputs) = no_callee
find_callee n count (bound (value_of m v) e) = find_callee n count e
find_callee n count (bound (function m ps body) e) =
    if is_named n count m (length ps) then found_function ps body (bound (function m ps body) e) else find_callee n count e
find_callee n count (bound (closure m body own) e) =
    if is_named n count m 0 then found_closure body own else find_callee n count e
find_callee n count (bound (label_of m k) e) = find_callee n count e

-- the first callee, or the second where the first is `no_callee`
abbrev pub callee_or : Callee → Callee → Callee
callee_or (found_function ps body own) other = found_function ps body own
callee_or (found_closure body own) other = found_closure body own
callee_or no_callee other = other

-- The prelude's own function, whatever is defined later: the outermost one of this name,
-- since the prelude is outside of every filter.
abbrev pub find_in_prelude : Name → ℕ → Env → Callee
find_in_prelude n count (outermost inputs) = no_callee
find_in_prelude n count (bound (value_of m v) e) = find_in_prelude n count e
find_in_prelude n count (bound (function m ps body) e) =
    callee_or (find_in_prelude n count e) (if is_named n count m (length ps) then found_function ps body (bound (function m ps body) e) else no_callee)
find_in_prelude n count (bound (closure m body own) e) = find_in_prelude n count e
find_in_prelude n count (bound (label_of m k) e) = find_in_prelude n count e

-- what `inputs` returns
abbrev pub find_inputs : Env → Run Value
find_inputs (outermost inputs) = inputs
find_inputs (bound b e) = find_inputs e

-- the arguments as filters with the caller's bindings, bound in front of the callee's own bindings
abbrev pub with_arguments : List Name → Trees → Env → Env → Env
with_arguments [] ts caller own = own
with_arguments (p ∷ ps) no_trees caller own = own
with_arguments (p ∷ ps) (more_trees t ts) caller own = with_arguments ps ts caller (bound (closure p t caller) own)

-- the options' variables; the first one of a name is used
abbrev pub with_variables : List (Name × Value) → Env → Env
with_variables [] e = e
with_variables (p ∷ ps) e = bound (value_of p.0 p.1) (with_variables ps e)
