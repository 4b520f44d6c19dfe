-- A filter that calls no function that halts never halts.
use Rattle.std.proofs.Common.{◌≡◌, ◌∙◌, ℕ, zero, suc, List, [], ◌∷◌, ◌++◌, Bool, true, false, ◌&&◌, ◌||◌, not, length, codes, refl, sym, ap, subst, inl, inr, ◌⊎◌, arith, pos}
use Rattle.std.specs.Prelude.{⊤, Option, Some, None, if◌then◌else◌, nat_eq, bytes_eq, map}
use Rattle.std.specs.Option.{option_or}
use Rattle.std.proofs.lemmas.Bool.{and_parts, or_left, or_right, cases_Bool}
use Rattle.std.proofs.lemmas.Bool.Decides.{Decides-eqb}
use Rattle.jv_arith.specs.Arith.{neg_of}
use Rattle.jv_data.specs.Members.{put}
use Rattle.jv_data.specs.Value.{Value, null, number, string, array, items_of, Members, no_members}
use Rattle.jv_text.specs.Stream.{Values, StreamEnd, clean, open_text, fault}
use Rattle.jv_value.specs.Index.{index_of, slice_key}
use Rattle.jv_value.specs.Parts.{parts_of}
use Rattle.jq_natives.specs.declared.native.Native.{Native}
use Rattle.jq_natives.specs.Natives.{native_named}
use Rattle.jq_tree.specs.Tree.{Name, Tree, Trees, no_trees, more_trees, trees_count, Pieces, Entries, Pattern, Patterns, Parts}
use Rattle.jq_tree.specs.Tree as tree
use Rattle.jq_tree.specs.Names.{Scope, to_function, to_variable, to_label, same_reference, is_bound, with_parameters, with_pattern, with_patterns, with_part, with_parts}
use Rattle.jq_tree.specs.Binders.{binder, prelude_binder, bound_in, trees_in, pieces_in, entries_in, pattern_in, patterns_in, parts_in}
use Rattle.jq_tree.specs.Prelude.{followed_by}
use Rattle.jq_tree.proofs.shared.References.{same_is}
use Rattle.jq_inputs.specs.Halting.{halting, CallsNoHalt}
use Rattle.jq_inputs.proofs.shared.Outside.{parameters_inside, pattern_inside, part_inside, binder_told, prelude_binder_told}
use Rattle.jq_inputs.proofs.shared.Injective as part
use Rattle.jq_meaning.specs.Builtins.{Builtin, no_outputs, paths, range, all_inputs, halts, native_or_unknown, builtin_named, builtin_run}
use Rattle.jq_meaning.specs.Env.{Env, outermost, bound, value_of, function, closure, label_of, Callee, found_function, found_closure, no_callee, is_named, find_value, find_level, find_callee, callee_or, find_in_prelude, find_inputs, with_arguments, with_variables}
use Rattle.jq_meaning.specs.Folds.{reduced, each_of}
use Rattle.jq_meaning.specs.Continuations.{value_of_literal, text_item, put_between, format_of, part_at, on_target, on_key, on_end, on_start, on_left, on_right, on_conjunct, on_disjunct, negated, on_test, on_error, on_inserted, on_back, on_entry, on_entry_key, on_own_key, on_part, on_part_key, on_named_part, on_source, in_bindings, on_state}
use Rattle.jq_meaning.specs.Meaning.{Means, meaning, meaning_with, below, called, arguments_with, pieces_with, entries_with, bindings_with, items_with, members_with}
use Rattle.jq_meaning.specs.Runs.{Item, plain, value_in, Run, none, one, bind, gathered}
use Rattle.jq_meaning.specs.Steps.{each_part, operator_of}
use Rattle.jq_ast.specs.Named.{named}
use Rattle.jq_syntax.specs.laws.OfThePrelude.{OneTree, DefinitionsCallNoHalt, OnlyHaltErrorHalts}
use Rattle.jq_filters.specs.Outcomes.{Mode, on_each, on_null, on_all, Job, halt_status, first_halt, up_to_halt, inputs_ending, inputs_in, run_on_all, runs_in}
use Rattle.jq_filters.specs.Unhalted.{NeverHalts}
use Rattle.jq_filters.specs.laws.Unhalted.{NeverHaltsAfterThePrelude, NeverHaltsInItsBindings}
use Rattle.jq_filters.proofs.Around.{runs_as_whole}
use Rattle.jq_filters.proofs.shared.Halting.{one_halt, none_halts}
use Rattle.jq_filters.proofs.Unhalted.{Unhalted, Each, IsHalt, each_trivial, each_bind, then_run-unhalted, bind_each-unhalted, bind-unhalted, answered-unhalted, without_path-unhalted, gathered-unhalted, catch-unhalted, alternative-unhalted, labelled-unhalted, broken-unhalted, reduced-unhalted, each_of-unhalted, step-unhalted, all_parts-unhalted, put_between-unhalted, on_conjunct-unhalted, on_disjunct-unhalted, on_test-unhalted, with_key-unhalted, builtin_run-unhalted}

-- ---- trees whose names refer to no function that halts, inside what is bound in a scope

abbrev Quiet : Scope → Tree → Type 0
Quiet s t = bound_in (s ++ halting) t ≡ bound_in s t

abbrev QuietTrees : Scope → Trees → Type 0
QuietTrees s ts = trees_in (s ++ halting) ts ≡ trees_in s ts

abbrev QuietPieces : Scope → Pieces → Type 0
QuietPieces s ps = pieces_in (s ++ halting) ps ≡ pieces_in s ps

abbrev QuietEntries : Scope → Entries → Type 0
QuietEntries s es = entries_in (s ++ halting) es ≡ entries_in s es

abbrev QuietPattern : Scope → Pattern → Type 0
QuietPattern s p = pattern_in (s ++ halting) p ≡ pattern_in s p

abbrev QuietPatterns : Scope → Patterns → Type 0
QuietPatterns s ps = patterns_in (s ++ halting) ps ≡ patterns_in s ps

abbrev QuietParts : Scope → Parts → Type 0
QuietParts s ps = parts_in (s ++ halting) ps ≡ parts_in s ps

quiet_body : (ps : List Name) (s : Scope) (t : Tree) → bound_in (with_parameters ps (s ++ halting)) t ≡ bound_in (with_parameters ps s) t → Quiet (with_parameters ps s) t
quiet_body ps s t q = subst (λ (o : Scope). bound_in o t ≡ bound_in (with_parameters ps s) t) (parameters_inside ps s halting) q

quiet_inside : (p : Pattern) (s : Scope) (t : Tree) → bound_in (with_pattern p (s ++ halting)) t ≡ bound_in (with_pattern p s) t → Quiet (with_pattern p s) t
quiet_inside p s t q = subst (λ (o : Scope). bound_in o t ≡ bound_in (with_pattern p s) t) (pattern_inside p s halting) q

quiet_patterns : (p : Pattern) (s : Scope) (ps : Patterns) → patterns_in (with_pattern p (s ++ halting)) ps ≡ patterns_in (with_pattern p s) ps → QuietPatterns (with_pattern p s) ps
quiet_patterns p s ps q = subst (λ (o : Scope). patterns_in o ps ≡ patterns_in (with_pattern p s) ps) (pattern_inside p s halting) q

quiet_parts : (p : tree.Part) (s : Scope) (ps : Parts) → parts_in (with_part p (s ++ halting)) ps ≡ parts_in (with_part p s) ps → QuietParts (with_part p s) ps
quiet_parts p s ps q = subst (λ (o : Scope). parts_in o ps ≡ parts_in (with_part p s) ps) (part_inside p s halting) q

-- ---- names that may be called

-- If the name is that of a function that halts, the scope binds it.
abbrev MayCall : Name → ℕ → Scope → Type 0
MayCall n count s = is_bound (to_function n count) halting ≡ true → is_bound (to_function n count) s ≡ true

may_call : (n : Name) (count : ℕ) (s : Scope) → binder (s ++ halting) (to_function n count) ≡ binder s (to_function n count) → MayCall n count s
may_call n count s q e = elim (cases_Bool (is_bound (to_function n count) s)) [
  | inl b ↦ b
  | inr b ↦ absurd ((binder_told (to_function n count) s halting).1 (bound_only (is_bound (to_function n count) halting) (is_bound (to_function n count) s) e b) q)
]
  where
    bound_only : (x y : Bool) → x ≡ true → y ≡ false → (x && not y) ≡ true
    bound_only true true e f = absurd (cc f)
    bound_only true false e f = refl
    bound_only false y e f = absurd (cc e)

no_halt : (n : Name) (count : ℕ) (s : Scope) → prelude_binder (s ++ halting) (to_function n count) ≡ prelude_binder s (to_function n count) → is_bound (to_function n count) halting ≡ true → ⊥
no_halt n count s q e = (prelude_binder_told (to_function n count) s halting).1 e q

passed : (b : Bool) (x y : Builtin) → (IsHalt x → ⊥) → IsHalt (if b then x else y) → IsHalt y
passed true x y n h = absurd (n h)
passed false x y n h = h

halts_or : (b : Bool) (y : Builtin) → IsHalt (if b then halts else y) → (b ≡ true) ⊎ IsHalt y
halts_or true y h = inl refl
halts_or false y h = inr h

no_native : (o : Option Native) → IsHalt (native_or_unknown o) → ⊥
no_native (Some f) h = h
no_native None h = h

halting_named : (n : Name) (count : ℕ) → IsHalt (builtin_named n count) → is_bound (to_function n count) halting ≡ true
halting_named n count h0 =
    let last : Builtin = native_or_unknown (native_named n count) in
    let y6 : Builtin = if is_named n count (codes "halt_error") 1 then halts else last in
    let y5 : Builtin = if is_named n count (codes "halt") 0 then halts else y6 in
    let y4 : Builtin = if is_named n count (codes "inputs") 0 then all_inputs else y5 in
    let y3 : Builtin = if is_named n count (codes "range") 3 then range else y4 in
    let y2 : Builtin = if is_named n count (codes "range") 2 then range else y3 in
    let y1 : Builtin = if is_named n count (codes "path") 1 then paths else y2 in
    let h1 : IsHalt y1 = passed (is_named n count (codes "empty") 0) no_outputs y1 (λ i. i) h0 in
    let h2 : IsHalt y2 = passed (is_named n count (codes "path") 1) paths y2 (λ i. i) h1 in
    let h3 : IsHalt y3 = passed (is_named n count (codes "range") 2) range y3 (λ i. i) h2 in
    let h4 : IsHalt y4 = passed (is_named n count (codes "range") 3) range y4 (λ i. i) h3 in
    let h5 : IsHalt y5 = passed (is_named n count (codes "inputs") 0) all_inputs y5 (λ i. i) h4 in
    let one = same_reference (to_function n count) (to_function (codes "halt") 0) in
    let two = same_reference (to_function n count) (to_function (codes "halt_error") 0) in
    let three = same_reference (to_function n count) (to_function (codes "halt_error") 1) in
    elim (halts_or (is_named n count (codes "halt") 0) y6 h5) [
      | inl e ↦ or_left one (two || (three || false)) e
      | inr h6 ↦ elim (halts_or (is_named n count (codes "halt_error") 1) last h6) [
        | inl e ↦ or_right one (two || (three || false)) (or_right two (three || false) (or_left three false e))
        | inr h7 ↦ absurd (no_native (native_named n count) h7)
      ]
    ]

-- ---- bindings

-- The bodies in these bindings, and in those of their closures, call no function that halts. The scope has the names of the bindings
-- that stand in front; others are around it.
data Fits : Scope → Env → Type 0 where
  at_end : {inputs : Run Value} → Unhalted inputs → Fits [] (outermost inputs)
  with_value : {s : Scope} {e : Env} (n : Name) (v : Value) → Fits s e → Fits (to_variable n ∷ s) (bound (value_of n v) e)
  with_label : {s : Scope} {e : Env} (n : Name) (level : ℕ) → Fits s e → Fits (to_label n ∷ s) (bound (label_of n level) e)
  with_function : {s : Scope} {e : Env} (n : Name) (ps : List Name) (body : Tree) → Fits s e → Quiet (with_parameters ps (to_function n (length ps) ∷ s)) body
      → Fits (to_function n (length ps) ∷ s) (bound (function n ps body) e)
  with_closure : {s outer : Scope} {e own : Env} (n : Name) (body : Tree) → Fits s e → Fits outer own → Quiet outer body → Fits (to_function n 0 ∷ s) (bound (closure n body own) e)
  around_value : {s : Scope} {e : Env} (n : Name) (v : Value) → Fits s e → Fits s (bound (value_of n v) e)
  around_function : {s : Scope} {e : Env} (n : Name) (ps : List Name) (body : Tree) → Fits s e → Quiet (with_parameters ps (to_function n (length ps) ∷ s)) body
      → Fits s (bound (function n ps body) e)
  around_halt : {s : Scope} {e : Env} (n : Name) (ps : List Name) (body : Tree) → Fits s e → is_bound (to_function n (length ps)) halting ≡ true
      → is_bound (to_function n (length ps)) s ≡ false → Fits s (bound (function n ps body) e)

fitting_inputs : {s : Scope} {e : Env} → Fits s e → Unhalted (find_inputs e)
fitting_inputs (at_end h) = h
fitting_inputs (with_value n v f) = fitting_inputs f
fitting_inputs (with_label n level f) = fitting_inputs f
fitting_inputs (with_function n ps body f q) = fitting_inputs f
fitting_inputs (with_closure n body f g q) = fitting_inputs f
fitting_inputs (around_value n v f) = fitting_inputs f
fitting_inputs (around_function n ps body f q) = fitting_inputs f
fitting_inputs (around_halt n ps body f h i) = fitting_inputs f

-- A function with so many parameters, and a filter that was passed, of which no run halts.
record CallsFunction (count : ℕ) (ps : List Name) (body : Tree) (own : Env) : Type 0 where
  same : length ps ≡ count
  scope : Scope
  fits : Fits scope own
  quiet : Quiet (with_parameters ps scope) body

record CallsClosure (body : Tree) (own : Env) : Type 0 where
  scope : Scope
  fits : Fits scope own
  quiet : Quiet scope body

-- A callee of this name and this number of arguments.
abbrev Calls : Name → ℕ → Callee → Type 0
Calls n count (found_function ps body own) = CallsFunction count ps body own
Calls n count (found_closure body own) = CallsClosure body own
Calls n count no_callee = is_bound (to_function n count) halting ≡ true → ⊥

found_or : (n : Name) (count : ℕ) (c d : Callee) (b : Bool) → (b ≡ true → Calls n count c) → (b ≡ false → Calls n count d) → Calls n count (if b then c else d)
found_or n count c d true h i = h refl
found_or n count c d false h i = i refl

same_count : (n m : Name) (count arity : ℕ) → is_named n count m arity ≡ true → arity ≡ count
same_count n m count arity e = sym ((Decides-eqb count arity).0 (and_parts (bytes_eq n m) (nat_eq count arity) e).1)

in_front : (x y : Bool) → x ≡ false → (x || y) ≡ true → y ≡ true
in_front true y e f = absurd (cc e)
in_front false y e f = f

-- a function that halts, and that may not be called
not_called : (n m : Name) (count arity : ℕ) (s : Scope) → is_named n count m arity ≡ true → is_bound (to_function m arity) halting ≡ true → is_bound (to_function m arity) s ≡ false → MayCall n count s → ⊥
not_called n m count arity s e h i may =
    let same : to_function n count ≡ to_function m arity = same_is (to_function n count) (to_function m arity) e in
    let there : is_bound (to_function n count) s ≡ true = may (ap (λ r. is_bound r halting) same ∙ h) in
    let clash : true ≡ false = sym there ∙ ap (λ r. is_bound r s) same ∙ i in
    cc clash

found_callee : {s : Scope} {e : Env} → Fits s e → (n : Name) (count : ℕ) → MayCall n count s → Calls n count (find_callee n count e)
found_callee (at_end h) n count may = λ e. absurd (cc (may e))
found_callee (with_value m v f) n count may = found_callee f n count may
found_callee (with_label m level f) n count may = found_callee f n count may
found_callee (with_function {s} {e} m ps body f q) n count may =
    found_or n count (found_function ps body (bound (function m ps body) e)) (find_callee n count e) (is_named n count m (length ps))
    (λ same. record { same = same_count n m count (length ps) same; scope = to_function m (length ps) ∷ s; fits = with_function m ps body f q; quiet = q })
    (λ other. found_callee f n count (λ h. in_front (is_named n count m (length ps)) (is_bound (to_function n count) s) other (may h)))
found_callee (with_closure {s} {outer} {e} {own} m body f g q) n count may =
    found_or n count (found_closure body own) (find_callee n count e) (is_named n count m 0)
    (λ same. record { scope = outer; fits = g; quiet = q })
    (λ other. found_callee f n count (λ h. in_front (is_named n count m 0) (is_bound (to_function n count) s) other (may h)))
found_callee (around_value m v f) n count may = found_callee f n count may
found_callee (around_function {s} {e} m ps body f q) n count may =
    found_or n count (found_function ps body (bound (function m ps body) e)) (find_callee n count e) (is_named n count m (length ps))
    (λ same. record { same = same_count n m count (length ps) same; scope = to_function m (length ps) ∷ s; fits = with_function m ps body f q; quiet = q })
    (λ other. found_callee f n count may)
found_callee (around_halt {s} {e} m ps body f h i) n count may =
    found_or n count (found_function ps body (bound (function m ps body) e)) (find_callee n count e) (is_named n count m (length ps))
    (λ same. absurd (not_called n m count (length ps) s same h i may))
    (λ other. found_callee f n count may)

-- A callee of the prelude: `otherwise` has no outputs, so nothing is known if there is none.
abbrev CallsThePreludes : ℕ → Callee → Type 0
CallsThePreludes count (found_function ps body own) = CallsFunction count ps body own
CallsThePreludes count (found_closure body own) = CallsClosure body own
CallsThePreludes count no_callee = ⊤

outer_or : (count : ℕ) (c d : Callee) → CallsThePreludes count c → CallsThePreludes count d → CallsThePreludes count (callee_or c d)
outer_or count (found_function ps body own) d h i = h
outer_or count (found_closure body own) d h i = h
outer_or count no_callee d h i = i

found_or_none : (count : ℕ) (c : Callee) (b : Bool) → (b ≡ true → CallsThePreludes count c) → CallsThePreludes count (if b then c else no_callee)
found_or_none count c true h = h refl
found_or_none count c false h = tt

found_in_prelude : {s : Scope} {e : Env} → Fits s e → (n : Name) (count : ℕ) → (is_bound (to_function n count) halting ≡ true → ⊥) → CallsThePreludes count (find_in_prelude n count e)
found_in_prelude (at_end h) n count outside = tt
found_in_prelude (with_value m v f) n count outside = found_in_prelude f n count outside
found_in_prelude (with_label m level f) n count outside = found_in_prelude f n count outside
found_in_prelude (with_function {s} {e} m ps body f q) n count outside =
    outer_or count (find_in_prelude n count e) (if is_named n count m (length ps) then found_function ps body (bound (function m ps body) e) else no_callee) (found_in_prelude f n count outside)
    (found_or_none count (found_function ps body (bound (function m ps body) e)) (is_named n count m (length ps))
    (λ same. record { same = same_count n m count (length ps) same; scope = to_function m (length ps) ∷ s; fits = with_function m ps body f q; quiet = q }))
found_in_prelude (with_closure m body f g q) n count outside = found_in_prelude f n count outside
found_in_prelude (around_value m v f) n count outside = found_in_prelude f n count outside
found_in_prelude (around_function {s} {e} m ps body f q) n count outside =
    outer_or count (find_in_prelude n count e) (if is_named n count m (length ps) then found_function ps body (bound (function m ps body) e) else no_callee) (found_in_prelude f n count outside)
    (found_or_none count (found_function ps body (bound (function m ps body) e)) (is_named n count m (length ps))
    (λ same. record { same = same_count n m count (length ps) same; scope = to_function m (length ps) ∷ s; fits = with_function m ps body f q; quiet = q }))
found_in_prelude (around_halt {s} {e} m ps body f h i) n count outside =
    outer_or count (find_in_prelude n count e) (if is_named n count m (length ps) then found_function ps body (bound (function m ps body) e) else no_callee) (found_in_prelude f n count outside)
    (found_or_none count (found_function ps body (bound (function m ps body) e)) (is_named n count m (length ps))
    (λ same. absurd (not_called n m count (length ps) s same h i (λ j. absurd (outside j)))))

fitting_arguments : (ps : List Name) (ts : Trees) {s outer : Scope} {caller own : Env} → length ps ≡ trees_count ts → Fits outer caller → QuietTrees outer ts → Fits s own
    → Fits (with_parameters ps s) (with_arguments ps ts caller own)
fitting_arguments [] ts e f q g = g
fitting_arguments (p ∷ ps) no_trees e f q g = absurd (omega (arith, e))
fitting_arguments (p ∷ ps) (more_trees t ts) e f q g =
    let h = part.in_trees q in fitting_arguments ps ts (omega (arith, e)) f h.1 (with_closure p t g f h.0)

fitting_variables : (vs : List (Name × Value)) (inputs : Run Value) → Unhalted inputs → Fits [] (with_variables vs (outermost inputs))
fitting_variables [] inputs h = at_end h
fitting_variables (v ∷ vs) inputs h = around_value v.0 v.1 (fitting_variables vs inputs h)

-- ---- the meaning

abbrev Safe : Means → Type 0
Safe m = (s : Scope) (t : Tree) (e : Env) (k : ℕ) (x : Item) → Fits s e → Quiet s t → Unhalted (m t e k x)

-- The run does not halt, and each of its lists of bindings fits.
abbrev Good : Scope → Run Env → Type 0
Good s r = Unhalted r × Each (Fits s) r.items

good_bind : {A : Type 0} (s : Scope) (P : A → Type 0) (r : Run A) (g : A → Run Env) → Unhalted r → Each P r.items → ((x : A) → P x → Good s (g x)) → Good s (bind r g)
good_bind s P r g h all i =
    (bind_each-unhalted P r g h all (λ x j. (i x j).0), each_bind P (Fits s) r.items r.ending g all (λ x j. (i x j).1))

good_items : (s : Scope) (r : Run Item) (g : Item → Run Env) → Unhalted r → ((x : Item) → Good s (g x)) → Good s (bind r g)
good_items s r g h i = good_bind s (λ x. ⊤) r g h (each_trivial r.items) (λ x j. i x)

module _ (deeper : Means) (safe : Safe deeper) where
  called_safe : (n : Name) (c : Callee) (ts : Trees) {s : Scope} (caller : Env) (k : ℕ) (x : Item) (otherwise : Run Item) → Calls n (trees_count ts) c → Fits s caller → QuietTrees s ts
      → ((is_bound (to_function n (trees_count ts)) halting ≡ true → ⊥) → Unhalted otherwise) → Unhalted (called deeper c ts caller k x otherwise)
  called_safe n (found_function ps body own) ts caller k x otherwise h f q i = safe (with_parameters ps h.scope) body (with_arguments ps ts caller own) k x (fitting_arguments ps ts h.same f q h.fits) h.quiet
  called_safe n (found_closure body own) ts caller k x otherwise h f q i = safe h.scope body own k x h.fits h.quiet
  called_safe n no_callee ts caller k x otherwise h f q i = i h

  prelude_called_safe : (c : Callee) (ts : Trees) {s : Scope} (caller : Env) (k : ℕ) (x : Item) → CallsThePreludes (trees_count ts) c → Fits s caller → QuietTrees s ts
      → Unhalted (called deeper c ts caller k x none)
  prelude_called_safe (found_function ps body own) ts caller k x h f q = safe (with_parameters ps h.scope) body (with_arguments ps ts caller own) k x (fitting_arguments ps ts h.same f q h.fits) h.quiet
  prelude_called_safe (found_closure body own) ts caller k x h f q = safe h.scope body own k x h.fits h.quiet
  prelude_called_safe no_callee ts caller k x h f q = refl

  mutual
    unfolding on_target on_key on_end on_start on_left on_right negated on_error in_bindings on_state on_source on_back on_inserted on_entry on_entry_key on_own_key on_part on_part_key on_named_part

    tree_safe : {s : Scope} (t : Tree) (e : Env) (k : ℕ) (x : Item) → Fits s e → Quiet s t → Unhalted (meaning_with deeper t e k x)
    tree_safe tree.identity e k x f q = refl
    tree_safe tree.empty e k x f q = refl
    tree_safe (tree.literal v) e k x f q = without_path-unhalted x (one (plain (value_of_literal v))) refl
    tree_safe {s} (tree.text format ps) e k x f q =
        without_path-unhalted x (bind (pieces_with deeper ps format e k (plain (value_in x))) text_item)
        (bind-unhalted (pieces_with deeper ps format e k (plain (value_in x))) text_item (pieces_safe ps format e k (plain (value_in x)) f (part.in_text q)) (λ s. refl))
    tree_safe (tree.format n) e k x f q =
        without_path-unhalted x (bind (put_between [] [] (format_of n (value_in x))) text_item)
        (bind-unhalted (put_between [] [] (format_of n (value_in x))) text_item (put_between-unhalted [] [] (format_of n (value_in x))) (λ s. refl))
    tree_safe (tree.variable n) e k x f q = without_path-unhalted x (one (plain (find_value n e))) refl
    tree_safe (tree.field t key guarded) e k x f q =
        bind-unhalted (meaning_with deeper t e k x) (on_target guarded (string key)) (tree_safe t e k x f (part.in_field q)) (λ y. step-unhalted guarded y (string key))
    tree_safe (tree.index t key guarded) e k x f q = let c = part.in_index q in
        bind-unhalted (meaning_with deeper key e k (plain (value_in x))) (on_key guarded (meaning_with deeper t e k x)) (tree_safe key e k (plain (value_in x)) f c.1)
        (λ i. bind-unhalted (meaning_with deeper t e k x) (on_target guarded (value_in i)) (tree_safe t e k x f c.0) (λ y. step-unhalted guarded y (value_in i)))
    tree_safe (tree.slice t from to guarded) e k x f q = let c = part.in_slice q in
        bind-unhalted (meaning_with deeper from e k (plain (value_in x))) (on_start guarded (meaning_with deeper to e k (plain (value_in x))) (meaning_with deeper t e k x))
        (tree_safe from e k (plain (value_in x)) f c.1)
        (λ a. bind-unhalted (meaning_with deeper to e k (plain (value_in x))) (on_end guarded (meaning_with deeper t e k x) (value_in a)) (tree_safe to e k (plain (value_in x)) f c.2)
        (λ b. bind-unhalted (meaning_with deeper t e k x) (on_target guarded (slice_key (value_in a) (value_in b))) (tree_safe t e k x f c.0)
        (λ y. step-unhalted guarded y (slice_key (value_in a) (value_in b)))))
    tree_safe (tree.iterate t guarded) e k x f q =
        bind-unhalted (meaning_with deeper t e k x) (each_part guarded) (tree_safe t e k x f (part.in_iterate q)) (λ y. all_parts-unhalted guarded y (parts_of (value_in y)))
    tree_safe (tree.pipe g h) e k x f q = let c = part.in_pipe q in
        bind-unhalted (meaning_with deeper g e k x) (meaning_with deeper h e k) (tree_safe g e k x f c.0) (λ y. tree_safe h e k y f c.1)
    tree_safe (tree.comma g h) e k x f q = let c = part.in_comma q in
        then_run-unhalted (meaning_with deeper g e k x) (meaning_with deeper h e k x) (tree_safe g e k x f c.0) (tree_safe h e k x f c.1)
    tree_safe (tree.binary op g h) e k x f q = let c = part.in_binary q in
        without_path-unhalted x (bind (meaning_with deeper h e k (plain (value_in x))) (on_right op (meaning_with deeper g e k (plain (value_in x)))))
        (bind-unhalted (meaning_with deeper h e k (plain (value_in x))) (on_right op (meaning_with deeper g e k (plain (value_in x)))) (tree_safe h e k (plain (value_in x)) f c.1)
        (λ b. bind-unhalted (meaning_with deeper g e k (plain (value_in x))) (on_left op (value_in b)) (tree_safe g e k (plain (value_in x)) f c.0)
        (λ a. answered-unhalted plain (operator_of op (value_in a) (value_in b)))))
    tree_safe (tree.conjunction g h) e k x f q = let c = part.in_conjunction q in
        without_path-unhalted x (bind (meaning_with deeper g e k (plain (value_in x))) (on_conjunct (meaning_with deeper h e k) (plain (value_in x))))
        (bind-unhalted (meaning_with deeper g e k (plain (value_in x))) (on_conjunct (meaning_with deeper h e k) (plain (value_in x))) (tree_safe g e k (plain (value_in x)) f c.0)
        (λ a. on_conjunct-unhalted (meaning_with deeper h e k) (plain (value_in x)) a (tree_safe h e k (plain (value_in x)) f c.1)))
    tree_safe (tree.disjunction g h) e k x f q = let c = part.in_disjunction q in
        without_path-unhalted x (bind (meaning_with deeper g e k (plain (value_in x))) (on_disjunct (meaning_with deeper h e k) (plain (value_in x))))
        (bind-unhalted (meaning_with deeper g e k (plain (value_in x))) (on_disjunct (meaning_with deeper h e k) (plain (value_in x))) (tree_safe g e k (plain (value_in x)) f c.0)
        (λ a. on_disjunct-unhalted (meaning_with deeper h e k) (plain (value_in x)) a (tree_safe h e k (plain (value_in x)) f c.1)))
    tree_safe (tree.alternative g h) e k x f q = let c = part.in_alternative q in
        alternative-unhalted (meaning_with deeper g e k x) (meaning_with deeper h e k) x (tree_safe g e k x f c.0) (tree_safe h e k x f c.1)
    tree_safe (tree.negation g) e k x f q =
        without_path-unhalted x (bind (meaning_with deeper g e k (plain (value_in x))) negated)
        (bind-unhalted (meaning_with deeper g e k (plain (value_in x))) negated (tree_safe g e k (plain (value_in x)) f (part.in_negation q)) (λ v. answered-unhalted plain (neg_of (value_in v))))
    tree_safe (tree.array g) e k x f q =
        without_path-unhalted x (gathered (meaning_with deeper g e k (plain (value_in x)))) (gathered-unhalted (meaning_with deeper g e k (plain (value_in x))) (tree_safe g e k (plain (value_in x)) f (part.in_array q)))
    tree_safe (tree.object es) e k x f q =
        without_path-unhalted x (entries_with deeper es e k (value_in x) no_members) (entries_safe es e k (value_in x) no_members f (part.in_object q))
    tree_safe (tree.choice g h i) e k x f q = let c = part.in_choice q in
        bind-unhalted (meaning_with deeper g e k (plain (value_in x))) (on_test (meaning_with deeper h e k) (meaning_with deeper i e k) x) (tree_safe g e k (plain (value_in x)) f c.0)
        (λ b. on_test-unhalted (meaning_with deeper h e k) (meaning_with deeper i e k) x b (tree_safe h e k x f c.1) (tree_safe i e k x f c.2))
    tree_safe (tree.try_catch g h) e k x f q = let c = part.in_try q in
        catch-unhalted (meaning_with deeper g e k x) (on_error (meaning_with deeper h e k) x) (tree_safe g e k x f c.0)
        (λ v. without_path-unhalted x (meaning_with deeper h e k (plain v)) (tree_safe h e k (plain v) f c.1))
    tree_safe (tree.label n g) e k x f q =
        labelled-unhalted k (meaning_with deeper g (bound (label_of n k) e) (suc k) x) (tree_safe g (bound (label_of n k) e) (suc k) x (with_label n k f) (part.in_label q))
    tree_safe (tree.break n) e k x f q = broken-unhalted (find_level n e)
    tree_safe {s} (tree.bind_as t p g) e k x f q =
        let c = part.in_bind_as q in
        let r : Run Item = meaning_with deeper t e k (plain (value_in x)) in
        let good : Good (with_pattern p s) (bind r (on_source (bindings_with deeper p k) e)) =
        good_items (with_pattern p s) r (on_source (bindings_with deeper p k) e) (tree_safe t e k (plain (value_in x)) f c.0) (λ v. bindings_safe p k e (value_in v) f c.1) in
        bind_each-unhalted (Fits (with_pattern p s)) (bind r (on_source (bindings_with deeper p k) e)) (in_bindings (meaning_with deeper g) k x) good.0 good.1
        (λ e' f'. tree_safe g e' k x f' (quiet_inside p s g c.2))
    tree_safe {s} (tree.reduce t p start update) e k x f q =
        let c = part.in_reduce q in
        let r : Run Item = meaning_with deeper t e k (plain (value_in x)) in
        let sources : Run Env = bind r (on_source (bindings_with deeper p k) e) in
        let good : Good (with_pattern p s) sources =
        good_items (with_pattern p s) r (on_source (bindings_with deeper p k) e) (tree_safe t e k (plain (value_in x)) f c.0) (λ v. bindings_safe p k e (value_in v) f c.1) in
        bind-unhalted (meaning_with deeper start e k x) (reduced (on_state (meaning_with deeper update) k) sources.items sources.ending) (tree_safe start e k x f c.2)
        (λ a. reduced-unhalted (Fits (with_pattern p s)) (on_state (meaning_with deeper update) k) sources.items sources.ending a good.0 good.1
        (λ e' f' y. tree_safe update e' k y f' (quiet_inside p s update c.3)))
    tree_safe {s} (tree.foreach t p start update extract) e k x f q =
        let c = part.in_foreach q in
        let r : Run Item = meaning_with deeper t e k (plain (value_in x)) in
        let sources : Run Env = bind r (on_source (bindings_with deeper p k) e) in
        let good : Good (with_pattern p s) sources =
        good_items (with_pattern p s) r (on_source (bindings_with deeper p k) e) (tree_safe t e k (plain (value_in x)) f c.0) (λ v. bindings_safe p k e (value_in v) f c.1) in
        bind-unhalted (meaning_with deeper start e k x) (each_of (on_state (meaning_with deeper update) k) (on_state (meaning_with deeper extract) k) sources.items sources.ending) (tree_safe start e k x f c.2)
        (λ a. each_of-unhalted (Fits (with_pattern p s)) (on_state (meaning_with deeper update) k) (on_state (meaning_with deeper extract) k) sources.items sources.ending a good.0 good.1
        (λ e' f' y. tree_safe update e' k y f' (quiet_inside p s update c.3)) (λ e' f' y. tree_safe extract e' k y f' (quiet_inside p s extract c.4)))
    tree_safe {s} (tree.define n ps body rest) e k x f q =
        let c = part.in_define q in
        let own : Quiet (with_parameters ps (to_function n (length ps) ∷ s)) body = quiet_body ps (to_function n (length ps) ∷ s) body c.0 in
        tree_safe rest (bound (function n ps body) e) k x (with_function n ps body f own) c.1
    tree_safe {s} (tree.call n ts) e k x f q =
        let c = part.in_call q in
        called_safe n (find_callee n (trees_count ts) e) ts e k x (builtin_run (builtin_named n (trees_count ts)) (arguments_with deeper ts e k) (find_inputs e) x)
        (found_callee f n (trees_count ts) (may_call n (trees_count ts) s c.0)) f c.1
        (λ outside. builtin_run-unhalted (builtin_named n (trees_count ts)) (arguments_with deeper ts e k) (find_inputs e) x (λ h. outside (halting_named n (trees_count ts) h))
        (λ y. arguments_safe ts e k y f c.1) (fitting_inputs f))
    tree_safe {s} (tree.prelude_call n ts) e k x f q =
        let c = part.in_prelude_call q in
        prelude_called_safe (find_in_prelude n (trees_count ts) e) ts e k x (found_in_prelude f n (trees_count ts) (no_halt n (trees_count ts) s c.0)) f c.1

    arguments_safe : {s : Scope} (ts : Trees) (e : Env) (k : ℕ) (x : Item) → Fits s e → QuietTrees s ts → Each Unhalted (arguments_with deeper ts e k x)
    arguments_safe no_trees e k x f q = tt
    arguments_safe (more_trees t ts) e k x f q = let c = part.in_trees q in (tree_safe t e k x f c.0, arguments_safe ts e k x f c.1)

    pieces_safe : {s : Scope} (ps : Pieces) (format : Name) (e : Env) (k : ℕ) (x : Item) → Fits s e → QuietPieces s ps → Unhalted (pieces_with deeper ps format e k x)
    pieces_safe (tree.last_piece s) format e k x f q = refl
    pieces_safe (tree.more_pieces s t ps) format e k x f q = let c = part.in_pieces q in
        bind-unhalted (pieces_with deeper ps format e k x) (on_back format s (meaning_with deeper t e k x)) (pieces_safe ps format e k x f c.1)
        (λ back. bind-unhalted (meaning_with deeper t e k x) (on_inserted format s back) (tree_safe t e k x f c.0) (λ v. put_between-unhalted s back (format_of format (value_in v))))

    entries_safe : {s : Scope} (es : Entries) (e : Env) (k : ℕ) (v : Value) (made : Members) → Fits s e → QuietEntries s es → Unhalted (entries_with deeper es e k v made)
    entries_safe tree.no_entries e k v made f q = refl
    entries_safe (tree.more_entries (tree.named key t) es) e k v made f q = let c = part.in_entries q in
        bind-unhalted (meaning_with deeper t e k (plain v)) (on_entry (entries_with deeper es e k v) made key) (tree_safe t e k (plain v) f (part.in_named c.0))
        (λ w. entries_safe es e k v (put key (value_in w) made) f c.1)
    entries_safe (tree.more_entries (tree.computed key t) es) e k v made f q = let c = part.in_entries q in let d = part.in_computed c.0 in
        bind-unhalted (meaning_with deeper key e k (plain v)) (on_entry_key (meaning_with deeper t e k (plain v)) (entries_with deeper es e k v) made) (tree_safe key e k (plain v) f d.0)
        (λ name. with_key-unhalted (meaning_with deeper t e k (plain v)) (entries_with deeper es e k v) made (value_in name) (tree_safe t e k (plain v) f d.1) (λ ms. entries_safe es e k v ms f c.1))
    entries_safe (tree.more_entries (tree.own key) es) e k v made f q = let c = part.in_entries q in
        bind-unhalted (meaning_with deeper key e k (plain v)) (on_own_key v (entries_with deeper es e k v) made) (tree_safe key e k (plain v) f (part.in_own c.0))
        (λ name. with_key-unhalted (part_at v (value_in name)) (entries_with deeper es e k v) made (value_in name) (answered-unhalted plain (index_of v (value_in name))) (λ ms. entries_safe es e k v ms f c.1))

    bindings_safe : {s : Scope} (p : Pattern) (k : ℕ) (e : Env) (v : Value) → Fits s e → QuietPattern s p → Good (with_pattern p s) (bindings_with deeper p k e v)
    bindings_safe (tree.whole n) k e v f q = (refl, (with_value n v f, tt))
    bindings_safe (tree.items ps) k e v f q = items_safe ps 0 k v e f (part.in_items q)
    bindings_safe (tree.members ps) k e v f q = members_safe ps k v e f (part.in_members q)

    items_safe : {s : Scope} (ps : Patterns) (i : ℕ) (k : ℕ) (v : Value) (e : Env) → Fits s e → QuietPatterns s ps → Good (with_patterns ps s) (items_with deeper ps i k v e)
    items_safe tree.no_patterns i k v e f q = (refl, (f, tt))
    items_safe {s} (tree.more_patterns p ps) i k v e f q = let c = part.in_patterns q in
        good_items (with_patterns ps (with_pattern p s)) (part_at v (number (pos i))) (on_part (bindings_with deeper p k) e (items_with deeper ps (suc i) k v)) (answered-unhalted plain (index_of v (number (pos i))))
        (λ w. let inner : Good (with_pattern p s) (bindings_with deeper p k e (value_in w)) = bindings_safe p k e (value_in w) f c.0 in
        good_bind (with_patterns ps (with_pattern p s)) (Fits (with_pattern p s)) (bindings_with deeper p k e (value_in w)) (items_with deeper ps (suc i) k v) inner.0 inner.1
        (λ e' f'. items_safe ps (suc i) k v e' f' (quiet_patterns p s ps c.1)))

    members_safe : {s : Scope} (ps : Parts) (k : ℕ) (v : Value) (e : Env) → Fits s e → QuietParts s ps → Good (with_parts ps s) (members_with deeper ps k v e)
    members_safe tree.no_parts k v e f q = (refl, (f, tt))
    members_safe {s} (tree.more_parts (tree.keyed key p) ps) k v e f q = let c = part.in_parts q in let d = part.in_keyed c.0 in
        good_items (with_parts ps (with_pattern p s)) (meaning_with deeper key e k (plain v)) (on_part_key v (bindings_with deeper p k) e (members_with deeper ps k v)) (tree_safe key e k (plain v) f d.0)
        (λ name. good_items (with_parts ps (with_pattern p s)) (part_at v (value_in name)) (on_part (bindings_with deeper p k) e (members_with deeper ps k v)) (answered-unhalted plain (index_of v (value_in name)))
        (λ w. let inner : Good (with_pattern p s) (bindings_with deeper p k e (value_in w)) = bindings_safe p k e (value_in w) f d.1 in
        good_bind (with_parts ps (with_pattern p s)) (Fits (with_pattern p s)) (bindings_with deeper p k e (value_in w)) (members_with deeper ps k v) inner.0 inner.1
        (λ e' f'. members_safe ps k v e' f' (quiet_parts (tree.keyed key p) s ps c.1))))
    members_safe {s} (tree.more_parts (tree.keyed_variable n p) ps) k v e f q = let c = part.in_parts q in
        good_items (with_parts ps (with_pattern p (to_variable n ∷ s))) (part_at v (string n)) (on_named_part n (bindings_with deeper p k) e (members_with deeper ps k v)) (answered-unhalted plain (index_of v (string n)))
        (λ w. let inner : Good (with_pattern p (to_variable n ∷ s)) (bindings_with deeper p k (bound (value_of n (value_in w)) e) (value_in w)) =
        bindings_safe p k (bound (value_of n (value_in w)) e) (value_in w) (with_value n (value_in w) f) (part.in_keyed_variable c.0) in
        good_bind (with_parts ps (with_pattern p (to_variable n ∷ s))) (Fits (with_pattern p (to_variable n ∷ s))) (bindings_with deeper p k (bound (value_of n (value_in w)) e) (value_in w)) (members_with deeper ps k v) inner.0 inner.1
        (λ e' f'. members_safe ps k v e' f' (quiet_parts (tree.keyed_variable n p) s ps c.1)))

below_safe : (depth : ℕ) → Safe (below depth)
below_safe zero = λ s t e k x f q. refl
below_safe (suc depth) = λ s t e k x f q. tree_safe (below depth) (below_safe depth) t e k x f q

-- ---- a filter after the prelude

quiet_definition : (n : Name) (ps : List Name) (f : Tree) → CallsNoHalt (tree.define n ps f tree.identity) → Quiet (with_parameters ps (to_function n (length ps) ∷ [])) f
quiet_definition n ps f q = let c = part.in_define q in quiet_body ps (to_function n (length ps) ∷ []) f c.0

fitting_definition : (n : Name) (ps : List Name) (f : Tree) {e : Env} → Fits [] e
    → CallsNoHalt (tree.define n ps f tree.identity) ⊎ (to_function n (length ps) ≡ to_function (codes "halt_error") 0) → Fits [] (bound (function n ps f) e)
fitting_definition n ps f h (inl c) = around_function n ps f h (quiet_definition n ps f c)
fitting_definition n ps f h (inr s) = around_halt n ps f h (ap (λ r. is_bound r halting) s) refl

after_definitions : (depth : ℕ) (p t : Tree) (e : Env) (k : ℕ) (x : Item) → DefinitionsCallNoHalt p → CallsNoHalt t → Fits [] e → Unhalted (meaning depth (followed_by p t) e k x)
after_definitions depth (tree.define n ps f g) t e k x d q h = after_definitions depth g t (bound (function n ps f) e) k x d.1 q (fitting_definition n ps f h d.0)
after_definitions depth p t e k x d q h = tree_safe (below depth) (below_safe depth) t e k x h q

pub after_the_prelude : OneTree → OnlyHaltErrorHalts → NeverHaltsAfterThePrelude
after_the_prelude one only p t d vs h q inputs v i =
    after_definitions d p t (with_variables vs (outermost inputs)) 0 (plain v) (subst DefinitionsCallNoHalt (sym (one p h)) only) q (fitting_variables vs inputs i)

pub in_its_bindings : OneTree → OnlyHaltErrorHalts → NeverHaltsInItsBindings
in_its_bindings one only p d vs fs t bs h n b q inputs v i =
    ap (λ (r : Run Item). halt_status r.ending) (runs_as_whole d vs fs t bs inputs (plain v) b ∙ ap (λ (u : Tree). meaning d u (with_variables vs (outermost inputs)) 0 (plain v)) n)
    ∙ after_the_prelude one only p (named t) d vs h q inputs v i

-- ---- all runs of a job that never halts

neither : (o p : Option ℕ) → o ≡ None → p ≡ None → option_or o p ≡ None
neither o p e f = rw (e, f) refl

none_of_each : (run : Value → Run Item) (vs : List Value) → ((v : Value) → Unhalted (run v)) → first_halt (map run vs) ≡ None
none_of_each run [] h = refl
none_of_each run (v ∷ vs) h = neither (halt_status (run v).ending) (first_halt (map run vs)) (h v) (none_of_each run vs h)

inputs_do_not_halt : (e : StreamEnd) → halt_status (inputs_ending e) ≡ None
inputs_do_not_halt clean = refl
inputs_do_not_halt open_text = refl
inputs_do_not_halt (fault f) = refl

on_all_inputs : (job : Job) (vs : List Value) (e : StreamEnd) → NeverHalts job.run → first_halt (run_on_all job vs e) ≡ None
on_all_inputs job vs clean h = one_halt (job.run none (array (items_of vs))) ∙ h none (array (items_of vs)) refl
on_all_inputs job vs open_text h = one_halt (job.run none (array (items_of vs))) ∙ h none (array (items_of vs)) refl
on_all_inputs job vs (fault f) h = refl

pub no_run_halts : (mode : Mode) (job : Job) (found : Values) → NeverHalts job.run → first_halt (runs_in mode job found) ≡ None
no_run_halts on_each job found h = none_of_each (job.run none) found.values (λ v. h none v refl)
no_run_halts (on_null true) job found h = one_halt (job.run (inputs_in found) null) ∙ h (inputs_in found) null (inputs_do_not_halt found.end)
no_run_halts (on_null false) job found h = one_halt (job.run none null) ∙ h none null refl
no_run_halts on_all job found h = on_all_inputs job found.values found.end h

pub all_runs_made : (mode : Mode) (job : Job) (found : Values) → NeverHalts job.run → up_to_halt (runs_in mode job found) ≡ runs_in mode job found
all_runs_made mode job found h = none_halts (runs_in mode job found) (no_run_halts mode job found h)
