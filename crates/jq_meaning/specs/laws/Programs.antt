-- A program's own bindings, read from its list by their places from the outside.
use Rattle.std.specs.Prelude.{◌≡◌, ℕ, ◌+◌, ◌-◌, ◌<◌, ◌≤◌, List, ◌++◌, map, reverse, length, slice_index_or}
use Rattle.jv_data.specs.Value.{Value}
use Rattle.jq_tree.specs.Tree.{Name, Tree, Trees}
use Rattle.jq_tree.specs.Tree as tree
use Rattle.jq_tree.specs.Prelude.{followed_by}
use Rattle.jq_tree.specs.Names.{Reference, Scope, to_function, to_variable, variables_of}
use Rattle.jq_tree.specs.BoundTree.{BoundTree, bound_at}
use Rattle.jq_tree.specs.BoundTree as bound_tree
use Rattle.jq_tree.specs.Binders.{binder, prelude_binder, bound_in, bound_filter}
use Rattle.jq_meaning.specs.Env.{Env, bound, Binding, value_of, function, find_value, find_callee, find_in_prelude, found_function, find_inputs, with_arguments}
use Rattle.jq_meaning.specs.Meaning.{meaning, run_of}
use Rattle.jq_meaning.specs.Runs.{Run, plain}
use Rattle.jq_meaning.specs.laws.Outwards.{from_place}
use Rattle.jq_meaning.specs.laws.Names.{name_of, scope_of, bindings_count}
use Rattle.jq_meaning.specs.Programs.{program_env, with_bindings}
use Rattle.jq_meaning.specs.laws.Added.{functions_before, program_bindings}
use Rattle.jq_meaning.specs.laws.Scopes.{Extends}

-- ---- the program

-- The environment of all of a program's bindings.
abbrev pub whole_program_env : (program : List Binding) → Run Value → Env
whole_program_env program inputs = program_env program (length program) inputs

-- A filter after the definitions that this tree begins with runs in the program's own bindings, with no others.
abbrev pub FiltersRunInTheProgram : Type 0
FiltersRunInTheProgram = (depth : ℕ) (variables : List (Name × Value)) (inputs : Run Value) (prelude t : Tree) (input : Value)
    → run_of depth variables inputs (followed_by prelude t) input
    ≡ meaning depth t (whole_program_env (program_bindings variables prelude) inputs) 0 (plain input)

-- The names of those bindings, the innermost first: those of the definitions, and outside them the options' variables.
abbrev pub ProgramsBindTheirNames : Type 0
ProgramsBindTheirNames = (variables : List (Name × Value)) (inputs : Run Value) (prelude : Tree)
    → scope_of (whole_program_env (program_bindings variables prelude) inputs)
    ≡ reverse (map name_of (functions_before prelude)) ++ variables_of (map (λ v. v.0) variables)

-- The part of a bound tree after the definitions that this tree begins with.
abbrev pub after_definitions_of : Tree → BoundTree → BoundTree
after_definitions_of (tree.define n ps f g) (bound_tree.define m qs body rest) = after_definitions_of g rest
after_definitions_of t b = b

-- The names of the filter have their places there.
abbrev pub FiltersKeepTheirPlaces : Type 0
FiltersKeepTheirPlaces = (variables : List (Name × Value)) (inputs : Run Value) (prelude t : Tree)
    → after_definitions_of prelude (bound_filter (map (λ v. v.0) variables) (followed_by prelude t))
    ≡ bound_in (scope_of (whole_program_env (program_bindings variables prelude) inputs)) t

-- Each binding is inside those before it.
abbrev pub ProgramsGrow : Type 0
ProgramsGrow = (program : List Binding) (k : ℕ) (inputs : Run Value) (d : Binding) → k < length program
    → program_env program (k + 1) inputs ≡ bound (slice_index_or program k d) (program_env program k inputs)

abbrev pub ProgramsCount : Type 0
ProgramsCount = (program : List Binding) (j : ℕ) (inputs : Run Value) → j ≤ length program → bindings_count (program_env program j inputs) ≡ j

-- ---- environments over the program

-- The environment is the program's first `j` bindings with others added.
pub record StandsOver (program : List Binding) (j : ℕ) (inputs : Run Value) (e : Env) : Type 0 where
  pub inner : List Binding
  pub is : e ≡ with_bindings inner (program_env program j inputs)

-- The program's own bindings are such an environment, and such an environment stays one: with one more binding, in a call,
-- with a pattern's variables, and after a walk that does not reach the program's bindings.
abbrev pub ProgramsBegin : Type 0
ProgramsBegin = (program : List Binding) (j : ℕ) (inputs : Run Value) → StandsOver program j inputs (program_env program j inputs)

abbrev pub BindingsStayOver : Type 0
BindingsStayOver = (program : List Binding) (j : ℕ) (inputs : Run Value) (e : Env) (b : Binding) → StandsOver program j inputs e
    → StandsOver program j inputs (bound b e)

abbrev pub CallsStayOver : Type 0
CallsStayOver = (program : List Binding) (j : ℕ) (inputs : Run Value) (ps : List Name) (ts : Trees) (caller own : Env)
    → StandsOver program j inputs own → StandsOver program j inputs (with_arguments ps ts caller own)

abbrev pub PatternsStayOver : Type 0
PatternsStayOver = (program : List Binding) (j : ℕ) (inputs : Run Value) (scope : Scope) (outer e : Env) → Extends scope outer e
    → StandsOver program j inputs outer → StandsOver program j inputs e

abbrev pub WalksStayOver : Type 0
WalksStayOver = (program : List Binding) (j : ℕ) (inputs : Run Value) (e : Env) (i : ℕ) → j ≤ length program → i + j ≤ bindings_count e
    → StandsOver program j inputs e → StandsOver program j inputs (from_place i e)

-- Each such environment has the inputs of the program.
abbrev pub ProgramsGiveInputs : Type 0
ProgramsGiveInputs = (program : List Binding) (j : ℕ) (inputs : Run Value) (e : Env) → StandsOver program j inputs e → find_inputs e ≡ inputs

-- ---- names

-- A name whose binder is at place k from the outside is the name of the list's item k, and finds that item.
abbrev pub NamesInTheProgram : Type 0
NamesInTheProgram = (program : List Binding) (j k : ℕ) (inputs : Run Value) (e : Env) (r : Reference) (d : Binding)
    → StandsOver program j inputs e → k < j → j ≤ length program → binder (scope_of e) r ≡ bound_at (bindings_count e - 1 - k)
    → name_of (slice_index_or program k d) ≡ r

abbrev pub ValuesInTheProgram : Type 0
ValuesInTheProgram = (program : List Binding) (j k : ℕ) (inputs : Run Value) (e : Env) (n : Name) (d : Binding)
    → StandsOver program j inputs e → k < j → j ≤ length program → binder (scope_of e) (to_variable n) ≡ bound_at (bindings_count e - 1 - k)
    → slice_index_or program k d ≡ value_of n (find_value n e)

-- A function's body sees the function and the items before it in the list.
abbrev pub FunctionsInTheProgram : Type 0
FunctionsInTheProgram = (program : List Binding) (j k : ℕ) (inputs : Run Value) (e : Env) (n : Name) (count : ℕ) (d : Binding)
    → StandsOver program j inputs e → k < j → j ≤ length program
    → binder (scope_of e) (to_function n count) ≡ bound_at (bindings_count e - 1 - k)
    → (m : Name) (parameters : List Name) (body : Tree) → slice_index_or program k d ≡ function m parameters body
    → find_callee n count e ≡ found_function parameters body (program_env program (k + 1) inputs)

abbrev pub PreludeFunctionsInTheProgram : Type 0
PreludeFunctionsInTheProgram = (program : List Binding) (j k : ℕ) (inputs : Run Value) (e : Env) (n : Name) (count : ℕ) (d : Binding)
    → StandsOver program j inputs e → k < j → j ≤ length program
    → prelude_binder (scope_of e) (to_function n count) ≡ bound_at (bindings_count e - 1 - k)
    → (m : Name) (parameters : List Name) (body : Tree) → slice_index_or program k d ≡ function m parameters body
    → find_in_prelude n count e ≡ found_function parameters body (program_env program (k + 1) inputs)
