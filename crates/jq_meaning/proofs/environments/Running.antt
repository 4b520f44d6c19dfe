-- Environments over the bindings of a program.
use Rattle.std.proofs.Common.{◌≡◌, ℕ, ◌+◌, ◌-◌, ◌<◌, ◌≤◌, List, [], ◌∷◌, ◌++◌, map, reverse, length, take, slice_index_or, refl, sym, ap, ◌∙◌, arith}
use Rattle.std.proofs.lemmas.List.{get_or-take, length-take-le, take-take, take_all, take_more}
use Rattle.jv_data.specs.Value.{Value}
use Rattle.jq_tree.specs.Binders.{bound_in}
use Rattle.jq_tree.specs.Names.{Scope}
use Rattle.jq_tree.specs.Prelude.{followed_by}
use Rattle.jq_tree.specs.Tree.{Name, Tree}
use Rattle.jq_meaning.specs.Env.{Env, outermost, bound, Binding, value_of, function, found_function, find_callee, find_value, find_inputs, with_arguments, with_variables}
use Rattle.jq_meaning.specs.Meaning.{meaning}
use Rattle.jq_meaning.specs.Runs.{Run, plain}
use Rattle.jq_meaning.specs.laws.Outwards.{from_place}
use Rattle.jq_meaning.specs.laws.Names.{name_of, scope_of, bindings_count, from_outside}
use Rattle.jq_meaning.specs.Programs.{program_env, with_bindings}
use Rattle.jq_meaning.specs.laws.Added.{argument_bindings, functions_before, program_bindings}
use Rattle.jq_meaning.specs.laws.Lookups.{CalleeAt, function_at, closure_at}
use Rattle.jq_meaning.specs.laws.Programs.{StandsOver, whole_program_env, FiltersRunInTheProgram, ProgramsBindTheirNames, after_definitions_of, FiltersKeepTheirPlaces, ProgramsGrow, ProgramsCount, ProgramsBegin, BindingsStayOver, CallsStayOver, PatternsStayOver, WalksStayOver, ProgramsGiveInputs, NamesInTheProgram, ValuesInTheProgram, FunctionsInTheProgram, PreludeFunctionsInTheProgram}
use Rattle.jq_meaning.proofs.environments.Calls.{calls_add, options_bind, in_program, after_definitions_run, after_definitions_bound, names_added}
use Rattle.jq_meaning.proofs.environments.Found.{bindings_named, value_found, callee_found, prelude_found}
use Rattle.jq_meaning.proofs.environments.Parts.{list_gives_outermost, inner_walks}
use Rattle.jq_meaning.proofs.environments.Walks.{with_append, counts_add, inputs_inwards}

-- ---- the program

whole_program : (variables : List (Name × Value)) (inputs : Run Value) (p : Tree)
    → with_bindings (functions_before p) (with_variables variables (outermost inputs)) ≡ whole_program_env (program_bindings variables p) inputs
whole_program variables inputs p =
    let program = program_bindings variables p in
    let l : length program ≤ length program = omega arith in
    in_program variables inputs p ∙ ap (λ (bs : List Binding). with_bindings bs (outermost inputs)) (sym (take_all (length program) program l))

pub filters_run : FiltersRunInTheProgram
filters_run depth variables inputs p t input =
    after_definitions_run depth p t (with_variables variables (outermost inputs)) 0 (plain input)
    ∙ ap (λ (e : Env). meaning depth t e 0 (plain input)) (whole_program variables inputs p)

pub programs_bind : ProgramsBindTheirNames
programs_bind variables inputs p =
    ap scope_of (sym (whole_program variables inputs p)) ∙ names_added (functions_before p) (with_variables variables (outermost inputs))
    ∙ ap (λ (s : Scope). reverse (map name_of (functions_before p)) ++ s) (options_bind variables inputs)

pub filters_keep : FiltersKeepTheirPlaces
filters_keep variables inputs p t =
    ap (λ (s : Scope). after_definitions_of p (bound_in s (followed_by p t))) (sym (options_bind variables inputs))
    ∙ after_definitions_bound p t (with_variables variables (outermost inputs))
    ∙ ap (λ (e : Env). bound_in (scope_of e) t) (whole_program variables inputs p)

pub programs_grow : ProgramsGrow
programs_grow program k inputs d h =
    ap (λ (bs : List Binding). with_bindings bs (outermost inputs)) (take_more program k d h)
    ∙ with_append (take k program) (slice_index_or program k d ∷ []) (outermost inputs)

pub programs_count : ProgramsCount
programs_count program j inputs h =
    let n : length (take j program) ≡ j = length-take-le j program h in
    let m = counts_add (take j program) (outermost inputs) in
    omega (arith, n, m)

-- ---- environments over the program

pub programs_begin : ProgramsBegin
programs_begin program j inputs = record { inner = []; is = refl }

added_over : (program : List Binding) (j : ℕ) (inputs : Run Value) (outer e : Env) (added : List Binding) → e ≡ with_bindings added outer
    → StandsOver program j inputs outer → StandsOver program j inputs e
added_over program j inputs outer e added p s = record {
  inner = s.inner ++ added;
  is = p ∙ ap (λ (o : Env). with_bindings added o) s.is ∙ sym (with_append s.inner added (program_env program j inputs));
}

pub bindings_stay : BindingsStayOver
bindings_stay program j inputs e b s = added_over program j inputs e (bound b e) (b ∷ []) refl s

pub calls_stay : CallsStayOver
calls_stay program j inputs ps ts caller own s =
    added_over program j inputs own (with_arguments ps ts caller own) (argument_bindings ps ts caller) (calls_add ps ts caller own) s

pub patterns_stay : PatternsStayOver
patterns_stay program j inputs scope outer e h s = added_over program j inputs outer e h.added h.is s

pub walks_stay : WalksStayOver
walks_stay program j inputs e i h l s =
    let n : bindings_count e ≡ length s.inner + bindings_count (program_env program j inputs) =
    ap (λ (o : Env). bindings_count o) s.is ∙ counts_add s.inner (program_env program j inputs) in
    let m : bindings_count (program_env program j inputs) ≡ j = programs_count program j inputs h in
    let k : i ≤ length s.inner = omega (arith, l, n, m) in
    record {
      inner = take (length s.inner - i) s.inner;
      is = ap (λ (o : Env). from_place i o) s.is ∙ inner_walks i s.inner (program_env program j inputs) k;
    }

pub programs_give : ProgramsGiveInputs
programs_give program j inputs e s =
    ap find_inputs s.is ∙ inputs_inwards s.inner (program_env program j inputs) ∙ inputs_inwards (take j program) (outermost inputs)

-- ---- names

in_list : (program : List Binding) (j k : ℕ) (inputs : Run Value) (e : Env) (d : Binding) → StandsOver program j inputs e → k < j → j ≤ length program
    → from_outside k e ≡ bound (slice_index_or program k d) (program_env program k inputs)
in_list program j k inputs e d s l h =
    let n : length (take j program) ≡ j = length-take-le j program h in
    let m : k < length (take j program) = omega (arith, l, n) in
    let o : k ≤ j = omega (arith, l) in
    ap (λ (f : Env). from_outside k f) s.is ∙ list_gives_outermost k (take j program) s.inner inputs d m
    ∙ ap (λ (b : Binding). bound b (with_bindings (take k (take j program)) (outermost inputs))) (get_or-take j program k d l)
    ∙ ap (λ (bs : List Binding). bound (slice_index_or program k d) (with_bindings bs (outermost inputs))) (take-take k j program o)

pub names_in_program : NamesInTheProgram
names_in_program program j k inputs e r d s l h at =
    let w = bindings_named e r (bindings_count e - 1 - k) at in
    let p : bound w.0 w.1 ≡ bound (slice_index_or program k d) (program_env program k inputs) = sym w.2 ∙ in_list program j k inputs e d s l h in
    let q : slice_index_or program k d ≡ w.0 = cc p in ap name_of q ∙ w.3

pub values_in_program : ValuesInTheProgram
values_in_program program j k inputs e n d s l h at =
    let w = value_found e n (bindings_count e - 1 - k) at in
    let p : bound (value_of n (find_value n e)) w.0 ≡ bound (slice_index_or program k d) (program_env program k inputs) =
    sym w.1 ∙ in_list program j k inputs e d s l h in
    cc p

-- the function at place k, with what its body sees
at_place : (program : List Binding) (j k : ℕ) (inputs : Run Value) (e : Env) (d : Binding) → StandsOver program j inputs e → k < j → j ≤ length program
    → (m : Name) (ps : List Name) (body : Tree) → slice_index_or program k d ≡ function m ps body
    → (from_outside k e ≡ bound (function m ps body) (program_env program k inputs))
    × (bound (function m ps body) (program_env program k inputs) ≡ program_env program (k + 1) inputs)
at_place program j k inputs e d s l h m ps body is =
    let o : k < length program = omega (arith, l, h) in
    let p : bound (slice_index_or program k d) (program_env program k inputs) ≡ bound (function m ps body) (program_env program k inputs) =
    ap (λ (b : Binding). bound b (program_env program k inputs)) is in
    (in_list program j k inputs e d s l h ∙ p, sym (programs_grow program k inputs d o ∙ p))

function_there : (e : Env) (n : Name) (count i : ℕ) → CalleeAt n count e i → (m : Name) (ps : List Name) (body : Tree) (outer : Env)
    → from_place i e ≡ bound (function m ps body) outer → find_callee n count e ≡ found_function ps body (bound (function m ps body) outer)
function_there e n count i (function_at qs inside further at c found) m ps body outer p =
    let w : bound (function n qs inside) further ≡ bound (function m ps body) outer = sym at ∙ p in
    let same_parameters : qs ≡ ps = cc w in
    let same_body : inside ≡ body = cc w in
    let same : found_function qs inside (bound (function n qs inside) further) ≡ found_function ps body (bound (function m ps body) outer) =
    cc (same_parameters, same_body, w) in
    found ∙ same
function_there e n count i (closure_at inside own further at c found) m ps body outer p = absurd (cc (at, p))

pub functions_in_program : FunctionsInTheProgram
functions_in_program program j k inputs e n count d s l h at m ps body is =
    let w = at_place program j k inputs e d s l h m ps body is in
    function_there e n count (bindings_count e - 1 - k) (callee_found e n count (bindings_count e - 1 - k) at) m ps body (program_env program k inputs) w.0
    ∙ ap (λ (o : Env). found_function ps body o) w.1

pub prelude_in_program : PreludeFunctionsInTheProgram
prelude_in_program program j k inputs e n count d s l h at m ps body is =
    let w = at_place program j k inputs e d s l h m ps body is in
    prelude_found e n count (bindings_count e - 1 - k) at m ps body (program_env program k inputs) w.0 ∙ ap (λ (o : Env). found_function ps body o) w.1
