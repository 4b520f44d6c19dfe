-- The names that the meaning binds are those of the scopes that give a tree's names their places.
use Rattle.std.specs.Prelude.{◌≡◌, ℕ, List, ◌∷◌, map, length}
use Rattle.std.specs.List.{All}
use Rattle.jv_data.specs.Value.{Value}
use Rattle.jq_tree.specs.Tree.{Name, Tree, Trees, trees_count, Pattern, Patterns, Parts}
use Rattle.jq_tree.specs.Tree as tree
use Rattle.jq_tree.specs.BoundTree as bound_tree
use Rattle.jq_tree.specs.Names.{Scope, to_function, with_parameters, with_pattern, with_patterns, with_parts, variables_of}
use Rattle.jq_tree.specs.Binders.{bound_in}
use Rattle.jq_meaning.specs.Continuations.{on_source}
use Rattle.jq_meaning.specs.Env.{Env, outermost, bound, Binding, function, label_of, with_arguments, with_variables, find_inputs}
use Rattle.jq_meaning.specs.Meaning.{Means, bindings_with, items_with, members_with}
use Rattle.jq_meaning.specs.Runs.{Item, Run, bind}
use Rattle.jq_meaning.specs.Programs.{with_bindings}
use Rattle.jq_meaning.specs.laws.Names.{scope_of}
use Rattle.jq_meaning.specs.laws.Added.{argument_bindings, variable_bindings}

-- ---- definitions and labels

-- The filter after a definition runs with the function bound, and its names have their places in that scope. So do the names
-- of the function's body, with the parameters inside.
abbrev pub DefinitionsBindTheirNames : Type 0
DefinitionsBindTheirNames = (n : Name) (ps : List Name) (body rest : Tree) (e : Env)
    → bound_in (scope_of e) (tree.define n ps body rest)
    ≡ bound_tree.define n ps (bound_in (with_parameters ps (scope_of (bound (function n ps body) e))) body)
    (bound_in (scope_of (bound (function n ps body) e)) rest)

-- The same for a label's body, for any level of the label.
abbrev pub LabelsBindTheirNames : Type 0
LabelsBindTheirNames = (n : Name) (f : Tree) (level : ℕ) (e : Env)
    → bound_in (scope_of e) (tree.label n f) ≡ bound_tree.label n (bound_in (scope_of (bound (label_of n level) e)) f)

-- ---- calls

-- A call binds the function's parameters, if it has the same number of arguments.
abbrev pub CallsBindParameters : Type 0
CallsBindParameters = (ps : List Name) (ts : Trees) (caller own : Env) → length ps ≡ trees_count ts
    → scope_of (with_arguments ps ts caller own) ≡ with_parameters ps (scope_of own)

-- So the names of the body have the places that they have in the function's definition.
abbrev pub BodiesKeepTheirPlaces : Type 0
BodiesKeepTheirPlaces = (n : Name) (ps : List Name) (body : Tree) (outer : Env) (ts : Trees) (caller : Env) → length ps ≡ trees_count ts
    → bound_in (scope_of (with_arguments ps ts caller (bound (function n ps body) outer))) body
    ≡ bound_in (with_parameters ps (to_function n (length ps) ∷ scope_of outer)) body

-- It adds the parameters to the function's own environment, each with its argument, which sees what the caller sees.
abbrev pub CallsAddArguments : Type 0
CallsAddArguments = (ps : List Name) (ts : Trees) (caller own : Env)
    → with_arguments ps ts caller own ≡ with_bindings (argument_bindings ps ts caller) own

-- ---- variables of the options

abbrev pub OptionsBindTheirNames : Type 0
OptionsBindTheirNames = (variables : List (Name × Value)) (inputs : Run Value)
    → scope_of (with_variables variables (outermost inputs)) ≡ variables_of (map (λ v. v.0) variables)

abbrev pub OptionsAddVariables : Type 0
OptionsAddVariables = (variables : List (Name × Value)) (e : Env) → with_variables variables e ≡ with_bindings (variable_bindings variables) e

-- ---- patterns

-- An environment with bindings added: it binds the names of this scope, and has the same inputs.
pub record Extends (scope : Scope) (outer e : Env) : Type 0 where
  pub names : scope_of e ≡ scope
  pub added : List Binding
  pub is : e ≡ with_bindings added outer
  pub inputs : find_inputs e ≡ find_inputs outer

-- Each environment that a pattern makes from a value is the environment from before with the pattern's variables added.
abbrev pub PatternsBindTheirNames : Type 0
PatternsBindTheirNames = (deeper : Means) (p : Pattern) (level : ℕ) (e : Env) (v : Value)
    → All (Extends (with_pattern p (scope_of e)) e) (bindings_with deeper p level e v).items

-- The same for the items of an array's pattern, from any index on, and for the members of an object's pattern.
abbrev pub ItemPatternsBindTheirNames : Type 0
ItemPatternsBindTheirNames = (deeper : Means) (ps : Patterns) (place level : ℕ) (v : Value) (e : Env)
    → All (Extends (with_patterns ps (scope_of e)) e) (items_with deeper ps place level v e).items

abbrev pub MemberPatternsBindTheirNames : Type 0
MemberPatternsBindTheirNames = (deeper : Means) (ps : Parts) (level : ℕ) (v : Value) (e : Env)
    → All (Extends (with_parts ps (scope_of e)) e) (members_with deeper ps level v e).items

-- The same for all values of a source, as in `f as P`, `reduce` and `foreach`.
abbrev pub SourcesBindTheirNames : Type 0
SourcesBindTheirNames = (deeper : Means) (p : Pattern) (level : ℕ) (e : Env) (source : Run Item)
    → All (Extends (with_pattern p (scope_of e)) e) (bind source (on_source (bindings_with deeper p level) e)).items
