-- The binder of a name in a scope, and that there is only one.
use Rattle.std.proofs.Common.{◌≡◌, [], ◌∷◌, ◌++◌, Bool, true, false, ◌||◌, length, if◌then◌else◌, refl, sym, ap, ◌∙◌, subst}
use Rattle.std.proofs.lemmas.Bool.{or_parts, or_from, or_left, or_right, cond-true, cond-false}
use Rattle.jq_tree.specs.Names.{Reference, same_reference, Scope, is_bound, language}
use Rattle.jq_tree.specs.BoundTree.{Binder, bound_at, in_language, nowhere}
use Rattle.jq_tree.specs.Binders.{from_inside, binder, prelude_binder}
use Rattle.jq_tree.specs.laws.OneBinder.{HasBinder, by_innermost, by_language, HasPreludeBinder, by_outermost}
use Rattle.jq_tree.proofs.shared.References.{same_is, same_self}

-- ---- bound names

left_more : (t x y : Bool) → (x ≡ true → y ≡ true) → (t || x) ≡ true → (t || y) ≡ true
left_more true x y h e = refl
left_more false x y h e = h e

pub bound_left : (r : Reference) (xs ys : Scope) → is_bound r xs ≡ true → is_bound r (xs ++ ys) ≡ true
bound_left r [] ys e = absurd (cc e)
bound_left r (x ∷ xs) ys e = left_more (same_reference r x) (is_bound r xs) (is_bound r (xs ++ ys)) (λ h. bound_left r xs ys h) e

pub bound_right : (r : Reference) (xs ys : Scope) → is_bound r ys ≡ true → is_bound r (xs ++ ys) ≡ true
bound_right r [] ys e = e
bound_right r (x ∷ xs) ys e = or_right (same_reference r x) (is_bound r (xs ++ ys)) (bound_right r xs ys e)

bound_there : (r : Reference) (inner outer : Scope) → is_bound r (inner ++ r ∷ outer) ≡ true
bound_there r inner outer = bound_right r inner (r ∷ outer) (or_left (same_reference r r) (is_bound r outer) (same_self r))

-- ---- the innermost binder

inside : (b r : Reference) (bs : Scope) (x : Binder) → same_reference r b ≡ false → HasBinder bs r x → HasBinder (b ∷ bs) r (from_inside x)
inside b r bs x s (by_innermost inner outer w n) =
    by_innermost (b ∷ inner) outer (ap (λ (l : Scope). b ∷ l) w) (or_from (same_reference r b) (is_bound r inner) s n)
inside b r bs x s (by_language n l) = by_language (or_from (same_reference r b) (is_bound r bs) s n) l

here_or_inside : (b r : Reference) (bs : Scope) (t x : Bool) → same_reference r b ≡ t → (x ≡ true → HasBinder bs r (binder bs r)) → (t || x) ≡ true
    → HasBinder (b ∷ bs) r (if t then bound_at 0 else from_inside (binder bs r))
here_or_inside b r bs true x s h e = let k : r ≡ b = same_is r b s in by_innermost [] bs (ap (λ (y : Reference). y ∷ bs) (sym k)) refl
here_or_inside b r bs false x s h e = inside b r bs (binder bs r) s (h e)

pub has_binder : (scope : Scope) (r : Reference) → is_bound r (scope ++ language) ≡ true → HasBinder scope r (binder scope r)
has_binder [] r e = subst (λ (x : Binder). HasBinder [] r x) (sym (cond-true (is_bound r language) in_language nowhere e)) (by_language refl e)
has_binder (b ∷ bs) r e = here_or_inside b r bs (same_reference r b) (is_bound r (bs ++ language)) refl (λ h. has_binder bs r h) e

pub has_binder_only : (scope : Scope) (r : Reference) (b : Binder) → HasBinder scope r b → is_bound r (scope ++ language) ≡ true
has_binder_only scope r b (by_innermost inner outer w n) =
    bound_left r scope language (ap (is_bound r) w ∙ bound_there r inner outer)
has_binder_only scope r b (by_language n l) = bound_right r scope language l

innermost_is : (r : Reference) (inner outer : Scope) → is_bound r inner ≡ false → binder (inner ++ r ∷ outer) r ≡ bound_at (length inner)
innermost_is r [] outer n = cond-true (same_reference r r) (bound_at 0) (from_inside (binder outer r)) (same_self r)
innermost_is r (b ∷ bs) outer n = let h = or_parts (same_reference r b) (is_bound r bs) n in
    cond-false (same_reference r b) (bound_at 0) (from_inside (binder (bs ++ r ∷ outer) r)) h.0 ∙ ap from_inside (innermost_is r bs outer h.1)

language_is : (r : Reference) (scope : Scope) → is_bound r scope ≡ false → is_bound r language ≡ true → binder scope r ≡ in_language
language_is r [] n l = cond-true (is_bound r language) in_language nowhere l
language_is r (b ∷ bs) n l = let h = or_parts (same_reference r b) (is_bound r bs) n in
    cond-false (same_reference r b) (bound_at 0) (from_inside (binder bs r)) h.0 ∙ ap from_inside (language_is r bs h.1 l)

binder_is : (scope : Scope) (r : Reference) (b : Binder) → HasBinder scope r b → binder scope r ≡ b
binder_is scope r b (by_innermost inner outer w n) = ap (λ (s : Scope). binder s r) w ∙ innermost_is r inner outer n
binder_is scope r b (by_language n l) = language_is r scope n l

pub one_binder : (scope : Scope) (r : Reference) (b c : Binder) → HasBinder scope r b → HasBinder scope r c → b ≡ c
one_binder scope r b c h k = sym (binder_is scope r b h) ∙ binder_is scope r c k

pub binder_nowhere : (scope : Scope) (r : Reference) → is_bound r (scope ++ language) ≡ false → binder scope r ≡ nowhere
binder_nowhere [] r e = cond-false (is_bound r language) in_language nowhere e
binder_nowhere (b ∷ bs) r e = let h = or_parts (same_reference r b) (is_bound r (bs ++ language)) e in
    cond-false (same_reference r b) (bound_at 0) (from_inside (binder bs r)) h.0 ∙ ap from_inside (binder_nowhere bs r h.1)

-- ---- the outermost binder

further_in : (b r : Reference) (bs : Scope) (x : Binder) → HasPreludeBinder bs r x → HasPreludeBinder (b ∷ bs) r (from_inside x)
further_in b r bs x (by_outermost inner outer w n) = by_outermost (b ∷ inner) outer (ap (λ (l : Scope). b ∷ l) w) n

pub only_left : (s t : Bool) → t ≡ false → (s || t) ≡ true → s ≡ true
only_left true t n e = refl
only_left false t n e = let k : true ≡ false = sym e ∙ n in absurd (cc k)

further_in_or_here : (b r : Reference) (bs : Scope) (t : Bool) → is_bound r bs ≡ t → (is_bound r bs ≡ true → HasPreludeBinder bs r (prelude_binder bs r))
    → (same_reference r b || is_bound r bs) ≡ true
    → HasPreludeBinder (b ∷ bs) r (if t then from_inside (prelude_binder bs r) else if same_reference r b then bound_at 0 else nowhere)
further_in_or_here b r bs true f h e = further_in b r bs (prelude_binder bs r) (h f)
further_in_or_here b r bs false f h e = let s = only_left (same_reference r b) (is_bound r bs) f e in let k : r ≡ b = same_is r b s in
    subst (λ (x : Binder). HasPreludeBinder (b ∷ bs) r x) (sym (cond-true (same_reference r b) (bound_at 0) nowhere s))
    (by_outermost [] bs (ap (λ (y : Reference). y ∷ bs) (sym k)) f)

pub has_prelude_binder : (scope : Scope) (r : Reference) → is_bound r scope ≡ true → HasPreludeBinder scope r (prelude_binder scope r)
has_prelude_binder [] r e = absurd (cc e)
has_prelude_binder (b ∷ bs) r e = further_in_or_here b r bs (is_bound r bs) refl (λ h. has_prelude_binder bs r h) e

pub outermost_is : (r : Reference) (inner outer : Scope) → is_bound r outer ≡ false → prelude_binder (inner ++ r ∷ outer) r ≡ bound_at (length inner)
outermost_is r [] outer n = cond-false (is_bound r outer) (from_inside (prelude_binder outer r)) (if same_reference r r then bound_at 0 else nowhere) n
    ∙ cond-true (same_reference r r) (bound_at 0) nowhere (same_self r)
outermost_is r (b ∷ bs) outer n =
    cond-true (is_bound r (bs ++ r ∷ outer)) (from_inside (prelude_binder (bs ++ r ∷ outer) r)) (if same_reference r b then bound_at 0 else nowhere) (bound_there r bs outer)
    ∙ ap from_inside (outermost_is r bs outer n)

prelude_binder_is : (scope : Scope) (r : Reference) (b : Binder) → HasPreludeBinder scope r b → prelude_binder scope r ≡ b
prelude_binder_is scope r b (by_outermost inner outer w n) = ap (λ (s : Scope). prelude_binder s r) w ∙ outermost_is r inner outer n

pub one_prelude_binder : (scope : Scope) (r : Reference) (b c : Binder) → HasPreludeBinder scope r b → HasPreludeBinder scope r c → b ≡ c
one_prelude_binder scope r b c h k = sym (prelude_binder_is scope r b h) ∙ prelude_binder_is scope r c k

pub prelude_binder_nowhere : (scope : Scope) (r : Reference) → is_bound r scope ≡ false → prelude_binder scope r ≡ nowhere
prelude_binder_nowhere [] r e = refl
prelude_binder_nowhere (b ∷ bs) r e = let h = or_parts (same_reference r b) (is_bound r bs) e in
    cond-false (is_bound r bs) (from_inside (prelude_binder bs r)) (if same_reference r b then bound_at 0 else nowhere) h.1
    ∙ cond-false (same_reference r b) (bound_at 0) nowhere h.0
