-- The binder of a name after one more binding is added inside.
use Rattle.std.proofs.Common.{◌≡◌, ℕ, suc, [], ◌∷◌, Bool, true, false, ◌||◌, if◌then◌else◌, refl, sym, ap, ◌∙◌}
use Rattle.std.proofs.lemmas.Bool.{cond-true, cond-false, or_parts, or_from}
use Rattle.jq_tree.specs.Names.{Reference, Scope, is_bound, same_reference}
use Rattle.jq_tree.specs.BoundTree.{Binder, bound_at, in_language, nowhere}
use Rattle.jq_tree.specs.Binders.{prelude_binder, from_inside}

-- ---- no binding inside: no place

pub not_inside : (t : Bool) (i : ℕ) → (if t then in_language else nowhere) ≡ bound_at i → ⊥
not_inside true i e = cc e
not_inside false i e = cc e

pub not_first : (b : Binder) → from_inside b ≡ bound_at 0 → ⊥
not_first (bound_at n) e = let h : suc n ≡ 0 = cc e in cc h
not_first in_language e = cc e
not_first nowhere e = cc e

pub place_inside : (b : Binder) (i : ℕ) → from_inside b ≡ bound_at (suc i) → b ≡ bound_at i
place_inside (bound_at n) i e = let h : n ≡ i = cc e in ap bound_at h
place_inside in_language i e = absurd (cc e)
place_inside nowhere i e = absurd (cc e)

pub later_place : (t : Bool) (b : Binder) (i : ℕ) → (if t then bound_at 0 else from_inside b) ≡ bound_at (suc i) → b ≡ bound_at i
later_place true b i e = let h : 0 ≡ suc i = cc e in absurd (cc h)
later_place false b i e = place_inside b i e

pub language_inside : (b : Binder) → from_inside b ≡ in_language → b ≡ in_language
language_inside (bound_at n) e = absurd (cc e)
language_inside in_language e = refl
language_inside nowhere e = absurd (cc e)

-- ---- the prelude's

pub unbound_nowhere : (s : Scope) (r : Reference) (i : ℕ) → is_bound r s ≡ false → prelude_binder s r ≡ bound_at i → ⊥
unbound_nowhere [] r i n e = cc e
unbound_nowhere (b ∷ bs) r i n e = let h = or_parts (same_reference r b) (is_bound r bs) n in
    let k : nowhere ≡ bound_at i = sym (cond-false (is_bound r bs) (from_inside (prelude_binder bs r)) (if same_reference r b then bound_at 0 else nowhere) h.1
    ∙ cond-false (same_reference r b) (bound_at 0) nowhere h.0) ∙ e in cc k

nowhere_inside : (b : Binder) → from_inside b ≡ nowhere → b ≡ nowhere
nowhere_inside (bound_at n) e = absurd (cc e)
nowhere_inside in_language e = absurd (cc e)
nowhere_inside nowhere e = refl

pub nowhere_unbound : (s : Scope) (r : Reference) → prelude_binder s r ≡ nowhere → is_bound r s ≡ false
nowhere_unbound [] r e = refl
nowhere_unbound (b ∷ bs) r e = further (is_bound r bs) refl e (λ h. nowhere_unbound bs r h)
  where
    here : (t : Bool) → same_reference r b ≡ t → is_bound r bs ≡ false → (if t then bound_at 0 else nowhere) ≡ nowhere → (same_reference r b || is_bound r bs) ≡ false
    here true s n h = absurd (cc h)
    here false s n h = or_from (same_reference r b) (is_bound r bs) s n

    further : (t : Bool) → is_bound r bs ≡ t → (if t then from_inside (prelude_binder bs r) else if same_reference r b then bound_at 0 else nowhere) ≡ nowhere
        → (prelude_binder bs r ≡ nowhere → is_bound r bs ≡ false) → (same_reference r b || is_bound r bs) ≡ false
    further true s h there = let k : true ≡ false = sym s ∙ there (nowhere_inside (prelude_binder bs r) h) in absurd (cc k)
    further false s h there = here (same_reference r b) refl s h

-- one more binding inside moves the prelude's place
pub prelude_further_in : (s : Scope) (r b : Reference) (i : ℕ) → prelude_binder s r ≡ bound_at i → prelude_binder (b ∷ s) r ≡ bound_at (suc i)
prelude_further_in s r b i h = go (is_bound r s) refl
  where
    go : (t : Bool) → is_bound r s ≡ t → prelude_binder (b ∷ s) r ≡ bound_at (suc i)
    go true n = cond-true (is_bound r s) (from_inside (prelude_binder s r)) (if same_reference r b then bound_at 0 else nowhere) n ∙ ap from_inside h
    go false n = absurd (unbound_nowhere s r i n h)
