-- The program's own bindings as a list, and the search in it.
use Rattle.std.specs.Prelude.{◌≡◌, ℕ, suc, ◌<◌, ◌≤◌, List, Bool, true, false, bytes_eq, length, map, slice_get, Some}
use Rattle.jq_ast.specs.Named.{name_of}
use Rattle.jq_tree.specs.Tree.{Name}
use Rattle.jq_meaning.specs.Env.{Binding, value_of, function, closure, label_of, is_named}
use Rattle.jq_state.specs.Nodes.{program_binding}
use Rattle.jq_state.specs.declared.environments.ProgramBinding.{ProgramBinding}
use Rattle.jq_state.specs.declared.programs.ProgramBindings.{ProgramBindings}
use Rattle.jq_state.specs.declared.sought.Sought.{Sought}
use Rattle.jq_state.specs.declared.sought.Sought.TheVariants as sought

-- the outermost first
abbrev pub items_in : ProgramBindings → List ProgramBinding
items_in p = p.items.items

abbrev pub bindings_in : ProgramBindings → List Binding
bindings_in p = map program_binding (items_in p)

-- whether a call of this name with this number of arguments finds the binding
abbrev pub is_called : Name → (count : ℕ) → Binding → Bool
is_called n count (value_of m v) = false
is_called n count (function m ps t) = is_named n count m (length ps)
is_called n count (closure m t own) = is_named n count m 0
is_called n count (label_of m level) = false

-- whether a variable of this name finds the binding
abbrev pub is_variable : Name → Binding → Bool
is_variable n (value_of m v) = bytes_eq n m
is_variable n (function m ps t) = false
is_variable n (closure m t own) = false
is_variable n (label_of m level) = false

abbrev pub is_sought : Sought → Binding → Bool
is_sought (sought.Function name count) b = is_called (name_of name.now) count b
is_sought (sought.Variable name) b = is_variable (name_of name.now) b

-- ---- the first and the last binding in a list for which a test holds

abbrev pub NoneFrom : (holds : Binding → Bool) → List Binding → (start end : ℕ) → Type 0
NoneFrom holds bs start end = (j : ℕ) (b : Binding) → start ≤ j → j < end → slice_get bs j ≡ Some b → holds b ≡ false

-- the last one among the first `end`
pub record IsLastOf (holds : Binding → Bool) (bs : List Binding) (end place : ℕ) (b : Binding) : Type 0 where
  pub within : place < end
  pub is : slice_get bs place ≡ Some b
  pub held : holds b ≡ true
  pub others : NoneFrom holds bs (suc place) end

-- the first one among the first `end`
pub record IsFirstOf (holds : Binding → Bool) (bs : List Binding) (end place : ℕ) (b : Binding) : Type 0 where
  pub within : place < end
  pub is : slice_get bs place ≡ Some b
  pub held : holds b ≡ true
  pub others : NoneFrom holds bs 0 place
