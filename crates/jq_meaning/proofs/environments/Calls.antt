-- The names that calls, the options and the program bind.
use Rattle.std.proofs.Common.{◌≡◌, ℕ, List, [], ◌∷◌, ◌++◌, map, reverse, length, refl, sym, ap, ◌∙◌, append_assoc}
use Rattle.std.proofs.lemmas.List.{reverse-append}
use Rattle.jv_data.specs.Value.{Value}
use Rattle.jq_tree.specs.Tree.{Name, Tree, no_trees, more_trees, trees_count}
use Rattle.jq_tree.specs.Tree as tree
use Rattle.jq_tree.specs.Prelude.{followed_by}
use Rattle.jq_tree.specs.Names.{Scope, to_variable}
use Rattle.jq_tree.specs.Binders.{bound_in}
use Rattle.jq_meaning.specs.Env.{Env, outermost, bound, Binding, value_of, function, closure, find_inputs, with_variables}
use Rattle.jq_meaning.specs.Meaning.{meaning}
use Rattle.jq_meaning.specs.Runs.{Item, Run}
use Rattle.jq_meaning.specs.Programs.{with_bindings}
use Rattle.jq_meaning.specs.laws.Names.{name_of, scope_of}
use Rattle.jq_meaning.specs.laws.Places.{InputsStayInCalls}
use Rattle.jq_meaning.specs.laws.Added.{argument_bindings, variable_bindings, functions_before, program_bindings}
use Rattle.jq_meaning.specs.laws.Programs.{after_definitions_of}
use Rattle.jq_meaning.specs.laws.Scopes.{CallsBindParameters, BodiesKeepTheirPlaces, CallsAddArguments, OptionsBindTheirNames, OptionsAddVariables}
use Rattle.jq_meaning.proofs.environments.Walks.{with_append, inputs_inwards}

-- ---- calls

pub calls_bind : CallsBindParameters
calls_bind [] ts caller own h = refl
calls_bind (p ∷ ps) no_trees caller own h = absurd (cc h)
calls_bind (p ∷ ps) (more_trees t ts) caller own h =
    let l : length ps ≡ trees_count ts = cc h in calls_bind ps ts caller (bound (closure p t caller) own) l

pub bodies_keep : BodiesKeepTheirPlaces
bodies_keep n ps body outer ts caller h = ap (λ (s : Scope). bound_in s body) (calls_bind ps ts caller (bound (function n ps body) outer) h)

pub calls_add : CallsAddArguments
calls_add [] ts caller own = refl
calls_add (p ∷ ps) no_trees caller own = refl
calls_add (p ∷ ps) (more_trees t ts) caller own = calls_add ps ts caller (bound (closure p t caller) own)

pub inputs_in_calls : InputsStayInCalls
inputs_in_calls ps ts caller own = ap find_inputs (calls_add ps ts caller own) ∙ inputs_inwards (argument_bindings ps ts caller) own

-- ---- options

pub options_bind : OptionsBindTheirNames
options_bind [] inputs = refl
options_bind (v ∷ vs) inputs = ap (λ (s : Scope). to_variable v.0 ∷ s) (options_bind vs inputs)

pub options_add : OptionsAddVariables
options_add [] e = refl
options_add (v ∷ vs) e =
    ap (λ (o : Env). bound (value_of v.0 v.1) o) (options_add vs e) ∙ sym (with_append (variable_bindings vs) (value_of v.0 v.1 ∷ []) e)

-- ---- the program

pub in_program : (variables : List (Name × Value)) (inputs : Run Value) (p : Tree)
    → with_bindings (functions_before p) (with_variables variables (outermost inputs)) ≡ with_bindings (program_bindings variables p) (outermost inputs)
in_program variables inputs p =
    ap (λ (e : Env). with_bindings (functions_before p) e) (options_add variables (outermost inputs))
    ∙ sym (with_append (variable_bindings variables) (functions_before p) (outermost inputs))

pub after_definitions_run : (depth : ℕ) (p t : Tree) (e : Env) (level : ℕ) (x : Item)
    → meaning depth (followed_by p t) e level x ≡ meaning depth t (with_bindings (functions_before p) e) level x
after_definitions_run depth (tree.define n ps f g) t e level x = after_definitions_run depth g t (bound (function n ps f) e) level x
after_definitions_run depth p t e level x = refl

pub after_definitions_bound : (p t : Tree) (e : Env)
    → after_definitions_of p (bound_in (scope_of e) (followed_by p t)) ≡ bound_in (scope_of (with_bindings (functions_before p) e)) t
after_definitions_bound (tree.define n ps f g) t e = after_definitions_bound g t (bound (function n ps f) e)
after_definitions_bound p t e = refl

pub names_added : (bs : List Binding) (e : Env) → scope_of (with_bindings bs e) ≡ reverse (map name_of bs) ++ scope_of e
names_added [] e = refl
names_added (b ∷ bs) e =
    let names = map name_of bs in
    names_added bs (bound b e) ∙ sym (append_assoc (reverse names) (name_of b ∷ []) (scope_of e))
    ∙ ap (λ (s : Scope). s ++ scope_of e) (sym (reverse-append (name_of b ∷ []) names))
