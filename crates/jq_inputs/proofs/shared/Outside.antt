-- Which names get another binder if more names are bound around a scope.
use Rattle.std.proofs.Common.{◌≡◌, ◌∙◌, ℕ, suc, List, [], ◌∷◌, ◌++◌, Bool, true, false, ◌&&◌, ◌||◌, not, if◌then◌else◌, refl, sym, ap, arith}
use Rattle.std.proofs.lemmas.Bool.{or_parts, and_parts, cond-false}
use Rattle.jq_tree.specs.Tree.{Name, Pattern, whole, Patterns, no_patterns, more_patterns, Part, Parts, no_parts, more_parts}
use Rattle.jq_tree.specs.Tree as tree
use Rattle.jq_tree.specs.Names.{Reference, to_function, to_variable, same_reference, Scope, is_bound, language, with_parameters, with_pattern, with_patterns, with_part, with_parts}
use Rattle.jq_tree.specs.BoundTree.{Binder, bound_at, in_language, nowhere}
use Rattle.jq_tree.specs.Binders.{from_inside, binder, prelude_binder}
use Rattle.jq_tree.proofs.shared.Binding.{bound_right, prelude_binder_nowhere}

-- The test is false exactly if the two are equal.
abbrev pub Tells : {A : Type 0} → Bool → A → A → Type 0
Tells b x y = (b ≡ false → x ≡ y) × (b ≡ true → x ≡ y → ⊥)

-- ---- scopes

pub parameters_inside : (ps : List Name) (s x : Scope) → with_parameters ps (s ++ x) ≡ with_parameters ps s ++ x
parameters_inside [] s x = refl
parameters_inside (p ∷ ps) s x = parameters_inside ps (to_function p 0 ∷ s) x

mutual
  pub pattern_inside : (p : Pattern) (s x : Scope) → with_pattern p (s ++ x) ≡ with_pattern p s ++ x
  pattern_inside (whole n) s x = refl
  pattern_inside (tree.items ps) s x = patterns_inside ps s x
  pattern_inside (tree.members ps) s x = parts_inside ps s x

  patterns_inside : (ps : Patterns) (s x : Scope) → with_patterns ps (s ++ x) ≡ with_patterns ps s ++ x
  patterns_inside no_patterns s x = refl
  patterns_inside (more_patterns p ps) s x = ap (with_patterns ps) (pattern_inside p s x) ∙ patterns_inside ps (with_pattern p s) x

  pub part_inside : (p : Part) (s x : Scope) → with_part p (s ++ x) ≡ with_part p s ++ x
  part_inside (tree.keyed key p) s x = pattern_inside p s x
  part_inside (tree.keyed_variable n p) s x = pattern_inside p (to_variable n ∷ s) x

  parts_inside : (ps : Parts) (s x : Scope) → with_parts ps (s ++ x) ≡ with_parts ps s ++ x
  parts_inside no_parts s x = refl
  parts_inside (more_parts p ps) s x = ap (with_parts ps) (part_inside p s x) ∙ parts_inside ps (with_part p s) x

mutual
  pub pattern_binds : (n : Name) (k : ℕ) (p : Pattern) (s : Scope) → is_bound (to_function n k) (with_pattern p s) ≡ is_bound (to_function n k) s
  pattern_binds n k (whole m) s = refl
  pattern_binds n k (tree.items ps) s = patterns_bind n k ps s
  pattern_binds n k (tree.members ps) s = parts_bind n k ps s

  patterns_bind : (n : Name) (k : ℕ) (ps : Patterns) (s : Scope) → is_bound (to_function n k) (with_patterns ps s) ≡ is_bound (to_function n k) s
  patterns_bind n k no_patterns s = refl
  patterns_bind n k (more_patterns p ps) s = patterns_bind n k ps (with_pattern p s) ∙ pattern_binds n k p s

  pub part_binds : (n : Name) (k : ℕ) (p : Part) (s : Scope) → is_bound (to_function n k) (with_part p s) ≡ is_bound (to_function n k) s
  part_binds n k (tree.keyed key p) s = pattern_binds n k p s
  part_binds n k (tree.keyed_variable m p) s = pattern_binds n k p (to_variable m ∷ s)

  parts_bind : (n : Name) (k : ℕ) (ps : Parts) (s : Scope) → is_bound (to_function n k) (with_parts ps s) ≡ is_bound (to_function n k) s
  parts_bind n k no_parts s = refl
  parts_bind n k (more_parts p ps) s = parts_bind n k ps (with_part p s) ∙ part_binds n k p s

bound_inside : (r : Reference) (s x : Scope) → is_bound r x ≡ false → is_bound r (s ++ x) ≡ is_bound r s
bound_inside r [] x e = e
bound_inside r (b ∷ bs) x e = ap (λ (z : Bool). same_reference r b || z) (bound_inside r bs x e)

-- ---- the innermost binder

abbrev is_place : Binder → Bool
is_place (bound_at n) = true
is_place in_language = false
is_place nowhere = false

further_place : (b : Binder) → is_place (from_inside b) ≡ is_place b
further_place (bound_at n) = refl
further_place in_language = refl
further_place nowhere = refl

no_place : (b : Bool) → is_place (if b then in_language else nowhere) ≡ false
no_place true = refl
no_place false = refl

place_step : (c y : Bool) (z : Binder) → is_place z ≡ y → is_place (if c then bound_at 0 else from_inside z) ≡ (c || y)
place_step true y z e = refl
place_step false y z e = further_place z ∙ e

place_if_bound : (s : Scope) (r : Reference) → is_place (binder s r) ≡ is_bound r s
place_if_bound [] r = no_place (is_bound r language)
place_if_bound (b ∷ bs) r = place_step (same_reference r b) (is_bound r bs) (binder bs r) (place_if_bound bs r)

own_step : (c y : Bool) (z w : Binder) → (y ≡ true → z ≡ w) → (c || y) ≡ true → (if c then bound_at 0 else from_inside z) ≡ (if c then bound_at 0 else from_inside w)
own_step true y z w h e = refl
own_step false y z w h e = ap from_inside (h e)

own_binder : (r : Reference) (s x : Scope) → is_bound r s ≡ true → binder (s ++ x) r ≡ binder s r
own_binder r [] x e = absurd (cc e)
own_binder r (b ∷ bs) x e = own_step (same_reference r b) (is_bound r bs) (binder (bs ++ x) r) (binder bs r) (own_binder r bs x) e

unmoved : (b : Bool) → from_inside (if b then in_language else nowhere) ≡ (if b then in_language else nowhere)
unmoved true = refl
unmoved false = refl

unbound_binder : (r : Reference) (x : Scope) → is_bound r x ≡ false → binder x r ≡ binder [] r
unbound_binder r [] e = refl
unbound_binder r (b ∷ bs) e = let h = or_parts (same_reference r b) (is_bound r bs) e in
    cond-false (same_reference r b) (bound_at 0) (from_inside (binder bs r)) h.0 ∙ ap from_inside (unbound_binder r bs h.1) ∙ unmoved (is_bound r language)

pub other_binder : (r : Reference) (s x : Scope) → is_bound r x ≡ false → binder (s ++ x) r ≡ binder s r
other_binder r [] x e = unbound_binder r x e
other_binder r (b ∷ bs) x e = ap (λ (z : Binder). if same_reference r b then bound_at 0 else from_inside z) (other_binder r bs x e)

same_unless : (r : Reference) (s x : Scope) (a b : Bool) → is_bound r x ≡ a → is_bound r s ≡ b → (a && not b) ≡ false → binder (s ++ x) r ≡ binder s r
same_unless r s x a true e f g = own_binder r s x f
same_unless r s x false false e f g = other_binder r s x e
same_unless r s x true false e f g = absurd (cc g)

differs_if : (r : Reference) (s x : Scope) → is_bound r x ≡ true → not (is_bound r s) ≡ true → binder (s ++ x) r ≡ binder s r → ⊥
differs_if r s x e f p =
    let inside : is_place (binder s r) ≡ is_bound r s = place_if_bound s r in
    let outside : is_place (binder (s ++ x) r) ≡ true = place_if_bound (s ++ x) r ∙ bound_right r s x e in
    let bound : is_bound r s ≡ true = sym inside ∙ ap is_place (sym p) ∙ outside in
    let unbound : not (is_bound r s) ≡ false = ap not bound in
    let clash : true ≡ false = sym f ∙ unbound in
    cc clash

-- The innermost binder of a name is another one exactly if the name is bound around the scope, and not in it.
pub binder_told : (r : Reference) (s x : Scope) → Tells (is_bound r x && not (is_bound r s)) (binder (s ++ x) r) (binder s r)
binder_told r s x = (
  λ e. same_unless r s x (is_bound r x) (is_bound r s) refl refl e,
  λ e p. let h = and_parts (is_bound r x) (not (is_bound r s)) e in differs_if r s x h.0 h.1 p,
)

-- ---- the outermost binder

same_prelude_binder : (r : Reference) (s x : Scope) → is_bound r x ≡ false → prelude_binder (s ++ x) r ≡ prelude_binder s r
same_prelude_binder r [] x e = prelude_binder_nowhere x r e
same_prelude_binder r (b ∷ bs) x e =
    ap (λ (y : Bool). if y then from_inside (prelude_binder (bs ++ x) r) else if same_reference r b then bound_at 0 else nowhere) (bound_inside r bs x e)
    ∙ ap (λ (z : Binder). if is_bound r bs then from_inside z else if same_reference r b then bound_at 0 else nowhere) (same_prelude_binder r bs x e)

prelude_step : (y c : Bool) (z : Binder) → is_place z ≡ y → is_place (if y then from_inside z else if c then bound_at 0 else nowhere) ≡ (c || y)
prelude_step true true z e = further_place z ∙ e
prelude_step true false z e = further_place z ∙ e
prelude_step false true z e = refl
prelude_step false false z e = refl

prelude_place_if_bound : (s : Scope) (r : Reference) → is_place (prelude_binder s r) ≡ is_bound r s
prelude_place_if_bound [] r = refl
prelude_place_if_bound (b ∷ bs) r = prelude_step (is_bound r bs) (same_reference r b) (prelude_binder bs r) (prelude_place_if_bound bs r)

same_place : (m n : ℕ) → bound_at (suc m) ≡ bound_at (suc n) → bound_at m ≡ bound_at n
same_place m n e = let f : suc m ≡ suc n = cc e in let g : m ≡ n = omega (arith, f) in ap bound_at g

no_first_place : (m : ℕ) → bound_at (suc m) ≡ bound_at 0 → ⊥
no_first_place m e = let f : suc m ≡ 0 = cc e in absurd (omega (arith, f))

still_differs : (y c : Bool) (z w : Binder) → is_place z ≡ true → (z ≡ w → ⊥) → from_inside z ≡ (if y then from_inside w else if c then bound_at 0 else nowhere) → ⊥
still_differs true c (bound_at m) (bound_at n) e h p = h (same_place m n p)
still_differs true c (bound_at m) in_language e h p = cc p
still_differs true c (bound_at m) nowhere e h p = cc p
still_differs false true (bound_at m) w e h p = no_first_place m p
still_differs false false (bound_at m) w e h p = cc p
still_differs y c in_language w e h p = absurd (cc e)
still_differs y c nowhere w e h p = absurd (cc e)

prelude_differs : (r : Reference) (s x : Scope) → is_bound r x ≡ true → prelude_binder (s ++ x) r ≡ prelude_binder s r → ⊥
prelude_differs r [] x e p = let clash : true ≡ false = sym e ∙ sym (prelude_place_if_bound x r) ∙ ap is_place p in cc clash
prelude_differs r (b ∷ bs) x e p =
    let f : is_bound r (bs ++ x) ≡ true = bound_right r bs x e in
    let first : prelude_binder (b ∷ (bs ++ x)) r ≡ from_inside (prelude_binder (bs ++ x) r) =
    ap (λ (y : Bool). if y then from_inside (prelude_binder (bs ++ x) r) else if same_reference r b then bound_at 0 else nowhere) f in
    still_differs (is_bound r bs) (same_reference r b) (prelude_binder (bs ++ x) r) (prelude_binder bs r) (prelude_place_if_bound (bs ++ x) r ∙ f) (prelude_differs r bs x e) (sym first ∙ p)

-- The outermost binder of a name is another one exactly if the name is bound around the scope.
pub prelude_binder_told : (r : Reference) (s x : Scope) → Tells (is_bound r x) (prelude_binder (s ++ x) r) (prelude_binder s r)
prelude_binder_told r s x = (λ e. same_prelude_binder r s x e, λ e p. prelude_differs r s x e p)
