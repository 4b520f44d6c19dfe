-- The binding that a name finds is the one at its place.
use Rattle.std.proofs.Common.{◌≡◌, ℕ, zero, suc, ◌<◌, List, Bool, true, false, nat_eq, length, if◌then◌else◌, refl, sym, ap, ◌∙◌, arith}
use Rattle.std.specs.Prelude.{bytes_eq, Option, Some}
use Rattle.jv_data.specs.Value.{Value}
use Rattle.std.proofs.lemmas.Bool.{and_parts, cond-true, cond-false, or_parts}
use Rattle.std.proofs.lemmas.Bool.Decides.{Decides-eqb}
use Rattle.std.proofs.lemmas.Slice.Eq.{bytes_eq-Decides}
use Rattle.jq_tree.specs.Tree.{Name, Tree}
use Rattle.jq_tree.specs.Names.{Reference, to_function, to_variable, to_label, same_reference, is_bound, language}
use Rattle.jq_tree.specs.BoundTree.{Binder, bound_at, in_language, nowhere}
use Rattle.jq_tree.specs.Binders.{binder, prelude_binder, from_inside}
use Rattle.jq_tree.proofs.shared.References.{same_is}
use Rattle.jq_meaning.specs.Env.{Env, outermost, bound, Binding, value_of, function, closure, label_of, Callee, found_function, found_closure, no_callee, callee_or, is_named, find_value, find_level, find_callee, find_in_prelude}
use Rattle.jq_meaning.specs.laws.Outwards.{from_place}
use Rattle.jq_meaning.specs.laws.Names.{name_of, scope_of, bindings_count}
use Rattle.jq_meaning.specs.laws.Lookups.{BindingsHaveTheirNames, ValuesStandAtTheirPlaces, LevelsStandAtTheirPlaces, CalleeAt, function_at, closure_at, CalleesStandAtTheirPlaces, LanguageNamesFindNothing, PreludeFunctionsStandAtTheirPlaces, UnboundPreludeNamesFindNothing}
use Rattle.jq_meaning.proofs.environments.Binders.{not_inside, not_first, place_inside, language_inside, nowhere_unbound}

-- ---- the binding at a place

abbrev Named : Env → Reference → ℕ → Type 0
Named e r i = (b : Binding) × (outer : Env) × (from_place i e ≡ bound b outer) × (name_of b ≡ r) × (i < bindings_count e)

pub bindings_named : BindingsHaveTheirNames
bindings_named (outermost inputs) r i h = absurd (not_inside (is_bound r language) i h)
bindings_named (bound b e) r zero h = first (same_reference r (name_of b)) refl h
  where
    first : (t : Bool) → same_reference r (name_of b) ≡ t → (if t then bound_at 0 else from_inside (binder (scope_of e) r)) ≡ bound_at 0 → Named (bound b e) r 0
    first true s k = (b, e, refl, sym (same_is r (name_of b) s), omega arith)
    first false s k = absurd (not_first (binder (scope_of e) r) k)
bindings_named (bound b e) r (suc i) h = later (same_reference r (name_of b)) h (bindings_named e r i)
  where
    later : (t : Bool) → (if t then bound_at 0 else from_inside (binder (scope_of e) r)) ≡ bound_at (suc i) → (binder (scope_of e) r ≡ bound_at i → Named e r i) → Named (bound b e) r (suc i)
    later true k there = let l : 0 ≡ suc i = cc k in absurd (cc l)
    later false k there = let w = there (place_inside (binder (scope_of e) r) i k) in (w.0, w.1, w.2, w.3, omega (arith, w.4))

-- ---- variables and labels

abbrev ValueAt : Env → Name → Value → ℕ → Type 0
ValueAt e n v i = (outer : Env) × (from_place i e ≡ bound (value_of n v) outer)

pub value_found : ValuesStandAtTheirPlaces
value_found (outermost inputs) n i h = absurd (not_inside (is_bound (to_variable n) language) i h)
value_found (bound (value_of m v) e) n i h = go (bytes_eq n m) refl i h (λ j k. value_found e n j k)
  where
    go : (t : Bool) → bytes_eq n m ≡ t → (i : ℕ) → (if t then bound_at 0 else from_inside (binder (scope_of e) (to_variable n))) ≡ bound_at i
        → ((j : ℕ) → binder (scope_of e) (to_variable n) ≡ bound_at j → ValueAt e n (find_value n e) j)
        → ValueAt (bound (value_of m v) e) n (if t then v else find_value n e) i
    go true s zero k there = (e, ap (λ (w : Name). bound (value_of w v) e) (sym ((bytes_eq-Decides n m).0 s)))
    go true s (suc i) k there = let l : 0 ≡ suc i = cc k in absurd (cc l)
    go false s zero k there = absurd (not_first (binder (scope_of e) (to_variable n)) k)
    go false s (suc i) k there = there i (place_inside (binder (scope_of e) (to_variable n)) i k)
value_found (bound (function m ps body) e) n zero h = absurd (not_first (binder (scope_of e) (to_variable n)) h)
value_found (bound (function m ps body) e) n (suc i) h = value_found e n i (place_inside (binder (scope_of e) (to_variable n)) i h)
value_found (bound (closure m body own) e) n zero h = absurd (not_first (binder (scope_of e) (to_variable n)) h)
value_found (bound (closure m body own) e) n (suc i) h = value_found e n i (place_inside (binder (scope_of e) (to_variable n)) i h)
value_found (bound (label_of m k) e) n zero h = absurd (not_first (binder (scope_of e) (to_variable n)) h)
value_found (bound (label_of m k) e) n (suc i) h = value_found e n i (place_inside (binder (scope_of e) (to_variable n)) i h)

abbrev LevelAt : Env → Name → Option ℕ → ℕ → Type 0
LevelAt e n found i = (level : ℕ) × (outer : Env) × (from_place i e ≡ bound (label_of n level) outer) × (found ≡ Some level)

pub level_found : LevelsStandAtTheirPlaces
level_found (outermost inputs) n i h = absurd (not_inside (is_bound (to_label n) language) i h)
level_found (bound (label_of m level) e) n i h = go (bytes_eq n m) refl i h (λ j k. level_found e n j k)
  where
    go : (t : Bool) → bytes_eq n m ≡ t → (i : ℕ) → (if t then bound_at 0 else from_inside (binder (scope_of e) (to_label n))) ≡ bound_at i
        → ((j : ℕ) → binder (scope_of e) (to_label n) ≡ bound_at j → LevelAt e n (find_level n e) j)
        → LevelAt (bound (label_of m level) e) n (if t then Some level else find_level n e) i
    go true s zero k there = (level, e, ap (λ (w : Name). bound (label_of w level) e) (sym ((bytes_eq-Decides n m).0 s)), refl)
    go true s (suc i) k there = let l : 0 ≡ suc i = cc k in absurd (cc l)
    go false s zero k there = absurd (not_first (binder (scope_of e) (to_label n)) k)
    go false s (suc i) k there = there i (place_inside (binder (scope_of e) (to_label n)) i k)
level_found (bound (value_of m v) e) n zero h = absurd (not_first (binder (scope_of e) (to_label n)) h)
level_found (bound (value_of m v) e) n (suc i) h = level_found e n i (place_inside (binder (scope_of e) (to_label n)) i h)
level_found (bound (function m ps body) e) n zero h = absurd (not_first (binder (scope_of e) (to_label n)) h)
level_found (bound (function m ps body) e) n (suc i) h = level_found e n i (place_inside (binder (scope_of e) (to_label n)) i h)
level_found (bound (closure m body own) e) n zero h = absurd (not_first (binder (scope_of e) (to_label n)) h)
level_found (bound (closure m body own) e) n (suc i) h = level_found e n i (place_inside (binder (scope_of e) (to_label n)) i h)

-- ---- functions and parameters

further : (b : Binding) (e : Env) (n : Name) (count i : ℕ) → find_callee n count (bound b e) ≡ find_callee n count e
    → CalleeAt n count e i → CalleeAt n count (bound b e) (suc i)
further b e n count i same (function_at ps body outer at c found) = function_at ps body outer at c (same ∙ found)
further b e n count i same (closure_at body own outer at c found) = closure_at body own outer at c (same ∙ found)

pub callee_found : CalleesStandAtTheirPlaces
callee_found (outermost inputs) n count i h = absurd (not_inside (is_bound (to_function n count) language) i h)
callee_found (bound (function m ps body) e) n count i h = go (is_named n count m (length ps)) refl i h (λ j k. callee_found e n count j k)
  where
    go : (t : Bool) → is_named n count m (length ps) ≡ t → (i : ℕ)
        → (if t then bound_at 0 else from_inside (binder (scope_of e) (to_function n count))) ≡ bound_at i
        → ((j : ℕ) → binder (scope_of e) (to_function n count) ≡ bound_at j → CalleeAt n count e j)
        → CalleeAt n count (bound (function m ps body) e) i
    go true s zero k there =
        let w = and_parts (bytes_eq n m) (nat_eq count (length ps)) s in
        let q : n ≡ m = (bytes_eq-Decides n m).0 w.0 in
        function_at ps body e (ap (λ (x : Name). bound (function x ps body) e) (sym q)) (sym ((Decides-eqb count (length ps)).0 w.1))
        (cond-true (is_named n count m (length ps)) (found_function ps body (bound (function m ps body) e)) (find_callee n count e) s
        ∙ ap (λ (x : Name). found_function ps body (bound (function x ps body) e)) (sym q))
    go true s (suc i) k there = let l : 0 ≡ suc i = cc k in absurd (cc l)
    go false s zero k there = absurd (not_first (binder (scope_of e) (to_function n count)) k)
    go false s (suc i) k there =
        further (function m ps body) e n count i
        (cond-false (is_named n count m (length ps)) (found_function ps body (bound (function m ps body) e)) (find_callee n count e) s)
        (there i (place_inside (binder (scope_of e) (to_function n count)) i k))
callee_found (bound (closure m body own) e) n count i h = go (is_named n count m 0) refl i h (λ j k. callee_found e n count j k)
  where
    go : (t : Bool) → is_named n count m 0 ≡ t → (i : ℕ)
        → (if t then bound_at 0 else from_inside (binder (scope_of e) (to_function n count))) ≡ bound_at i
        → ((j : ℕ) → binder (scope_of e) (to_function n count) ≡ bound_at j → CalleeAt n count e j)
        → CalleeAt n count (bound (closure m body own) e) i
    go true s zero k there =
        let w = and_parts (bytes_eq n m) (nat_eq count 0) s in
        closure_at body own e (ap (λ (x : Name). bound (closure x body own) e) (sym ((bytes_eq-Decides n m).0 w.0))) ((Decides-eqb count 0).0 w.1)
        (cond-true (is_named n count m 0) (found_closure body own) (find_callee n count e) s)
    go true s (suc i) k there = let l : 0 ≡ suc i = cc k in absurd (cc l)
    go false s zero k there = absurd (not_first (binder (scope_of e) (to_function n count)) k)
    go false s (suc i) k there =
        further (closure m body own) e n count i (cond-false (is_named n count m 0) (found_closure body own) (find_callee n count e) s)
        (there i (place_inside (binder (scope_of e) (to_function n count)) i k))
callee_found (bound (value_of m v) e) n count zero h = absurd (not_first (binder (scope_of e) (to_function n count)) h)
callee_found (bound (value_of m v) e) n count (suc i) h =
    further (value_of m v) e n count i refl (callee_found e n count i (place_inside (binder (scope_of e) (to_function n count)) i h))
callee_found (bound (label_of m k) e) n count zero h = absurd (not_first (binder (scope_of e) (to_function n count)) h)
callee_found (bound (label_of m k) e) n count (suc i) h =
    further (label_of m k) e n count i refl (callee_found e n count i (place_inside (binder (scope_of e) (to_function n count)) i h))

either_language : (t : Bool) (b : Binder) (found c : Callee) → (if t then bound_at 0 else from_inside b) ≡ in_language → (b ≡ in_language → c ≡ no_callee)
    → (if t then found else c) ≡ no_callee
either_language true b found c h there = absurd (cc h)
either_language false b found c h there = there (language_inside b h)

pub language_found : LanguageNamesFindNothing
language_found (outermost inputs) n count h = refl
language_found (bound (value_of m v) e) n count h = language_found e n count (language_inside (binder (scope_of e) (to_function n count)) h)
language_found (bound (function m ps body) e) n count h =
    either_language (is_named n count m (length ps)) (binder (scope_of e) (to_function n count)) (found_function ps body (bound (function m ps body) e))
    (find_callee n count e) h (λ k. language_found e n count k)
language_found (bound (closure m body own) e) n count h =
    either_language (is_named n count m 0) (binder (scope_of e) (to_function n count)) (found_closure body own)
    (find_callee n count e) h (λ k. language_found e n count k)
language_found (bound (label_of m k) e) n count h = language_found e n count (language_inside (binder (scope_of e) (to_function n count)) h)

-- ---- the prelude's own functions

not_in_prelude : (e : Env) (n : Name) (count : ℕ) → is_bound (to_function n count) (scope_of e) ≡ false → find_in_prelude n count e ≡ no_callee
not_in_prelude (outermost inputs) n count h = refl
not_in_prelude (bound (value_of m v) e) n count h = not_in_prelude e n count h
not_in_prelude (bound (function m ps body) e) n count h =
    let w = or_parts (is_named n count m (length ps)) (is_bound (to_function n count) (scope_of e)) h in
    let f : Callee = found_function ps body (bound (function m ps body) e) in
    ap (λ (c : Callee). callee_or c (if is_named n count m (length ps) then f else no_callee)) (not_in_prelude e n count w.1)
    ∙ cond-false (is_named n count m (length ps)) f no_callee w.0
not_in_prelude (bound (closure m body own) e) n count h =
    not_in_prelude e n count (or_parts (is_named n count m 0) (is_bound (to_function n count) (scope_of e)) h).1
not_in_prelude (bound (label_of m k) e) n count h = not_in_prelude e n count h

pub still_found : (b : Binding) (e : Env) (n : Name) (count : ℕ) (ps : List Name) (body : Tree) (own : Env)
    → find_in_prelude n count e ≡ found_function ps body own → find_in_prelude n count (bound b e) ≡ found_function ps body own
still_found (value_of m v) e n count ps body own h = h
still_found (function m qs inside) e n count ps body own h =
    ap (λ (c : Callee). callee_or c (if is_named n count m (length qs) then found_function qs inside (bound (function m qs inside) e) else no_callee)) h
still_found (closure m inside its) e n count ps body own h = h
still_found (label_of m k) e n count ps body own h = h

first_found : (b : Binding) (e : Env) (n : Name) (count : ℕ) (m : Name) (ps : List Name) (body : Tree) (outer : Env)
    → is_bound (to_function n count) (scope_of e) ≡ false → same_reference (to_function n count) (name_of b) ≡ true
    → bound b e ≡ bound (function m ps body) outer → find_in_prelude n count (bound b e) ≡ found_function ps body (bound (function m ps body) outer)
first_found (value_of l v) e n count m ps body outer u s p = absurd (cc s)
first_found (label_of l k) e n count m ps body outer u s p = absurd (cc s)
first_found (closure l inside its) e n count m ps body outer u s p = absurd (cc p)
first_found (function l qs inside) e n count m ps body outer u s p =
    let f : Callee = found_function qs inside (bound (function l qs inside) e) in
    let same_parameters : qs ≡ ps = cc p in
    let same_body : inside ≡ body = cc p in
    let same : f ≡ found_function ps body (bound (function m ps body) outer) = cc (same_parameters, same_body, p) in
    ap (λ (c : Callee). callee_or c (if is_named n count l (length qs) then f else no_callee)) (not_in_prelude e n count u)
    ∙ cond-true (is_named n count l (length qs)) f no_callee s ∙ same

pub prelude_found : PreludeFunctionsStandAtTheirPlaces
prelude_found (outermost inputs) n count i h m ps body outer p = absurd (cc h)
prelude_found (bound b e) n count i h m ps body outer p =
    further_out (is_bound (to_function n count) (scope_of e)) refl i h p (λ j k q. prelude_found e n count j k m ps body outer q)
  where
    here : (t : Bool) → same_reference (to_function n count) (name_of b) ≡ t → is_bound (to_function n count) (scope_of e) ≡ false → (i : ℕ)
        → (if t then bound_at 0 else nowhere) ≡ bound_at i → from_place i (bound b e) ≡ bound (function m ps body) outer
        → find_in_prelude n count (bound b e) ≡ found_function ps body (bound (function m ps body) outer)
    here true s u zero k p = first_found b e n count m ps body outer u s p
    here true s u (suc i) k p = let l : 0 ≡ suc i = cc k in absurd (cc l)
    here false s u i k p = absurd (cc k)

    further_out : (t : Bool) → is_bound (to_function n count) (scope_of e) ≡ t → (i : ℕ)
        → (if t then from_inside (prelude_binder (scope_of e) (to_function n count)) else if same_reference (to_function n count) (name_of b) then bound_at 0 else nowhere) ≡ bound_at i
        → from_place i (bound b e) ≡ bound (function m ps body) outer
        → ((j : ℕ) → prelude_binder (scope_of e) (to_function n count) ≡ bound_at j → from_place j e ≡ bound (function m ps body) outer
        → find_in_prelude n count e ≡ found_function ps body (bound (function m ps body) outer))
        → find_in_prelude n count (bound b e) ≡ found_function ps body (bound (function m ps body) outer)
    further_out true u zero k p there = absurd (not_first (prelude_binder (scope_of e) (to_function n count)) k)
    further_out true u (suc i) k p there =
        still_found b e n count ps body (bound (function m ps body) outer) (there i (place_inside (prelude_binder (scope_of e) (to_function n count)) i k) p)
    further_out false u i k p there = here (same_reference (to_function n count) (name_of b)) refl u i k p

pub prelude_unbound : UnboundPreludeNamesFindNothing
prelude_unbound e n count h = not_in_prelude e n count (nowhere_unbound (scope_of e) (to_function n count) h)
