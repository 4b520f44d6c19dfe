-- The binder of a name by the position of the binder.
use Rattle.std.proofs.Common.{◌≡◌, ◌∙◌, ◌+◌, ◌-◌, ◌<◌, ℕ, zero, suc, List, [], ◌∷◌, ◌++◌, Bool, true, false, length, map, reverse, take, drop, get_or, nat_eq, if◌then◌else◌, ap, sym, refl, arith}
use Rattle.std.specs.Prelude.{◌&&◌, ◌||◌}
use Rattle.std.proofs.lemmas.List.{append_assoc, length-map, length-reverse, length-drop, map-append, reverse-append, take-append-drop, take-map, take_more}
use Rattle.std.proofs.Math.Seq.{drop-cons}
use Rattle.jv_data.proofs.shared.Texts.{bytes_eq-sym, same_characters}
use Rattle.jq_tree.specs.BoundTree.{bound_at, in_language, nowhere}
use Rattle.jq_tree.specs.Binders.{binder, prelude_binder, from_inside}
use Rattle.jq_tree.specs.Names.{Reference, to_format, same_reference, Scope, is_bound, language}
use Rattle.jq_resolver.proofs.Language.{is_bound_append, nat_eq-itself}
use Rattle.std.specs.Str.{IsUtf8, chars, bytes_eq}
use Rattle.std.proofs.lemmas.Bool.{or_parts}
use Rattle.jq_resolver.specs.private.Bindings.{named_in, reference_in, reference_of, references, referred}
use Rattle.jq_resolver.specs.private.Scopes.{bound_names}
use Rattle.jq_resolver.specs.declared.bindings.Kind.{Kind}
use Rattle.jq_resolver.specs.declared.bindings.Kind.TheVariants.{Function, Variable, Label}
use Rattle.jq_resolver.specs.declared.bindings.Bound.{Bound}
use Rattle.jq_resolver.specs.declared.scope.Scope as code

or_true : (a : Bool) → (a || true) ≡ true
or_true true = refl
or_true false = refl

stays : (b : Bool) → from_inside (if b then in_language else nowhere) ≡ (if b then in_language else nowhere)
stays true = refl
stays false = refl

-- the name of the binder at a position, with the binders outside it and those inside it
pub split_at : (ys : Scope) (i : ℕ) (d : Reference) → i < length ys → reverse ys ≡ reverse (drop (suc i) ys) ++ get_or ys i d ∷ reverse (take i ys)
split_at ys i d h =
    let whole : reverse ys ≡ reverse (drop i ys) ++ reverse (take i ys) = ap reverse (sym (take-append-drop i ys)) ∙ reverse-append (take i ys) (drop i ys) in
    let rest : reverse (drop i ys) ≡ reverse (drop (suc i) ys) ++ get_or ys i d ∷ [] = ap reverse (drop-cons ys i d h) ∙ reverse-append (get_or ys i d ∷ []) (drop (suc i) ys) in
    whole ∙ ap (λ z. z ++ reverse (take i ys)) rest ∙ append_assoc (reverse (drop (suc i) ys)) (get_or ys i d ∷ []) (reverse (take i ys))

innermost_at : (inner outer : Scope) (r q : Reference) → is_bound r inner ≡ false → same_reference r q ≡ true → binder (inner ++ q ∷ outer) r ≡ bound_at (length inner)
innermost_at [] outer r q e f = ap (λ b. if b then bound_at 0 else from_inside (binder outer r)) f
innermost_at (x ∷ inner) outer r q e f =
    let p = or_parts (same_reference r x) (is_bound r inner) e in
    ap (λ b. if b then bound_at 0 else from_inside (binder (inner ++ q ∷ outer) r)) p.0 ∙ ap from_inside (innermost_at inner outer r q p.1 f)

bound_last : (inner outer : Scope) (r q : Reference) → same_reference r q ≡ true → is_bound r (inner ++ q ∷ outer) ≡ true
bound_last [] outer r q f = ap (λ b. b || is_bound r outer) f
bound_last (x ∷ inner) outer r q f = ap (λ b. same_reference r x || b) (bound_last inner outer r q f) ∙ or_true (same_reference r x)

outermost_at : (inner outer : Scope) (r q : Reference) → is_bound r outer ≡ false → same_reference r q ≡ true → prelude_binder (inner ++ q ∷ outer) r ≡ bound_at (length inner)
outermost_at [] outer r q e f =
    ap (λ b. if b then from_inside (prelude_binder outer r) else if same_reference r q then bound_at 0 else nowhere) e ∙ ap (λ b. if b then bound_at 0 else nowhere) f
outermost_at (x ∷ inner) outer r q e f =
    ap (λ b. if b then from_inside (prelude_binder (inner ++ q ∷ outer) r) else if same_reference r x then bound_at 0 else nowhere) (bound_last inner outer r q f)
    ∙ ap from_inside (outermost_at inner outer r q e f)

pub unbound : (s : Scope) (r : Reference) → is_bound r s ≡ false → binder s r ≡ (if is_bound r language then in_language else nowhere)
unbound [] r e = refl
unbound (x ∷ s) r e =
    let p = or_parts (same_reference r x) (is_bound r s) e in
    ap (λ b. if b then bound_at 0 else from_inside (binder s r)) p.0 ∙ ap from_inside (unbound s r p.1) ∙ stays (is_bound r language)

count_in : (ys : Scope) (i : ℕ) → i < length ys → length (reverse (drop (suc i) ys)) ≡ length (reverse ys) - suc i
count_in ys i h = omega (arith, length-reverse ys, length-reverse (drop (suc i) ys), length-drop (suc i) ys)

pub innermost_found : (ys : Scope) (i : ℕ) (d r : Reference) → i < length ys → is_bound r (reverse (drop (suc i) ys)) ≡ false → same_reference r (get_or ys i d) ≡ true
    → binder (reverse ys) r ≡ bound_at (length (reverse ys) - suc i)
innermost_found ys i d r h e f =
    ap (λ s. binder s r) (split_at ys i d h) ∙ innermost_at (reverse (drop (suc i) ys)) (reverse (take i ys)) r (get_or ys i d) e f ∙ ap bound_at (count_in ys i h)

pub outermost_found : (ys : Scope) (i : ℕ) (d r : Reference) → i < length ys → is_bound r (reverse (take i ys)) ≡ false → same_reference r (get_or ys i d) ≡ true
    → prelude_binder (reverse ys) r ≡ bound_at (length (reverse ys) - suc i)
outermost_found ys i d r h e f =
    ap (λ s. prelude_binder s r) (split_at ys i d h) ∙ outermost_at (reverse (drop (suc i) ys)) (reverse (take i ys)) r (get_or ys i d) e f ∙ ap bound_at (count_in ys i h)

no_format_of : (n : List ℕ) (k : Kind) (bs : List ℕ) → same_reference (to_format n) (referred k bs) ≡ false
no_format_of n (Function a) bs = refl
no_format_of n Variable bs = refl
no_format_of n Label bs = refl

no_format_in : (n : List ℕ) (xs : List (Kind × List ℕ)) → is_bound (to_format n) (references xs) ≡ false
no_format_in n [] = refl
no_format_in n (x ∷ xs) = ap (λ b. b || is_bound (to_format n) (references xs)) (no_format_of n x.0 x.1) ∙ no_format_in n xs

pub no_format : (s : code.Scope) (n : List ℕ) → is_bound (to_format n) (bound_names s) ≡ false
no_format s n = no_format_in n s.bindings

-- the binders as references, before and after they are reversed
pub references_in : (xs : List Bound) → references (reverse (map named_in xs)) ≡ reverse (map reference_in xs)
references_in [] = refl
references_in (x ∷ xs) =
    ap references (reverse-append (named_in x ∷ []) (map named_in xs)) ∙ map-append reference_of (reverse (map named_in xs)) (named_in x ∷ [])
    ∙ ap (λ z. z ++ reference_in x ∷ []) (references_in xs) ∙ sym (reverse-append (reference_in x ∷ []) (map reference_in xs))

-- ---- in the list of a scope

drop-map : {A B : Type 0} (f : A → B) (n : ℕ) (xs : List A) → drop n (map f xs) ≡ map f (drop n xs)
drop-map f zero xs = refl
drop-map f (suc n) [] = refl
drop-map f (suc n) (x ∷ xs) = drop-map f n xs

get_or-map : {A B : Type 0} (f : A → B) (xs : List A) (i : ℕ) (d : A) → get_or (map f xs) i (f d) ≡ f (get_or xs i d)
get_or-map f [] i d = refl
get_or-map f (x ∷ xs) zero d = refl
get_or-map f (x ∷ xs) (suc i) d = get_or-map f xs i d

get_mapped : (xs : List Bound) (i : ℕ) (b : Bound) → i < length xs → get_or (map reference_in xs) i (reference_in b) ≡ reference_in (get_or xs i b)
get_mapped xs i b h = get_or-map reference_in xs i b

pub found_last : (xs : List Bound) (i : ℕ) (b : Bound) (r : Reference) → i < length xs → b ≡ get_or xs i b → same_reference r (reference_in b) ≡ true
    → is_bound r (reverse (map reference_in (drop (suc i) xs))) ≡ false
    → (i < length (reverse (map reference_in xs))) × (binder (reverse (map reference_in xs)) r ≡ bound_at (length (reverse (map reference_in xs)) - suc i))
found_last xs i b r h e f g =
    let ys = map reference_in xs in
    let inside : i < length ys = omega (arith, length-map xs reference_in) in
    let same : get_or ys i (reference_in b) ≡ reference_in b = get_mapped xs i b h ∙ ap reference_in (sym e) in
    let later : is_bound r (reverse (drop (suc i) ys)) ≡ false = ap (λ z. is_bound r (reverse z)) (drop-map reference_in (suc i) xs) ∙ g in
    (omega (arith, length-reverse ys), innermost_found ys i (reference_in b) r inside later (ap (same_reference r) same ∙ f))

pub found_first : (xs : List Bound) (i : ℕ) (b : Bound) (r : Reference) → i < length xs → b ≡ get_or xs i b → same_reference r (reference_in b) ≡ true
    → is_bound r (reverse (map reference_in (take i xs))) ≡ false
    → (i < length (reverse (map reference_in xs))) × (prelude_binder (reverse (map reference_in xs)) r ≡ bound_at (length (reverse (map reference_in xs)) - suc i))
found_first xs i b r h e f g =
    let ys = map reference_in xs in
    let inside : i < length ys = omega (arith, length-map xs reference_in) in
    let same : get_or ys i (reference_in b) ≡ reference_in b = get_mapped xs i b h ∙ ap reference_in (sym e) in
    let earlier : is_bound r (reverse (take i ys)) ≡ false = ap (λ z. is_bound r (reverse z)) (take-map reference_in i xs) ∙ g in
    (omega (arith, length-reverse ys), outermost_found ys i (reference_in b) r inside earlier (ap (same_reference r) same ∙ f))

-- one more binder that is another
pub passed_last : (xs : List Bound) (i : ℕ) (b : Bound) (r : Reference) → i < length xs → b ≡ get_or xs i b → same_reference r (reference_in b) ≡ false
    → is_bound r (reverse (map reference_in (drop (suc i) xs))) ≡ false → is_bound r (reverse (map reference_in (drop i xs))) ≡ false
passed_last xs i b r h e f g =
    let cut : drop i xs ≡ b ∷ drop (suc i) xs = drop-cons xs i b h ∙ ap (λ z. z ∷ drop (suc i) xs) (sym e) in
    ap (λ z. is_bound r (reverse (map reference_in z))) cut ∙ ap (is_bound r) (reverse-append (reference_in b ∷ []) (map reference_in (drop (suc i) xs)))
    ∙ is_bound_append r (reverse (map reference_in (drop (suc i) xs))) (reference_in b ∷ []) ∙ ap (λ z. z || (same_reference r (reference_in b) || false)) g ∙ ap (λ z. z || false) f

pub passed_first : (xs : List Bound) (i : ℕ) (b : Bound) (r : Reference) → i < length xs → b ≡ get_or xs i b → same_reference r (reference_in b) ≡ false
    → is_bound r (reverse (map reference_in (take i xs))) ≡ false → is_bound r (reverse (map reference_in (take (i + 1) xs))) ≡ false
passed_first xs i b r h e f g =
    let more : map reference_in (take (i + 1) xs) ≡ map reference_in (take i xs) ++ reference_in b ∷ [] =
    ap (map reference_in) (take_more xs i b h ∙ ap (λ z. take i xs ++ z ∷ []) (sym e)) ∙ map-append reference_in (take i xs) (b ∷ []) in
    ap (λ z. is_bound r (reverse z)) more ∙ ap (is_bound r) (reverse-append (map reference_in (take i xs)) (reference_in b ∷ []))
    ∙ ap (λ z. z || is_bound r (reverse (map reference_in (take i xs)))) f ∙ g

pub drop_all : {A : Type 0} (xs : List A) → drop (length xs) xs ≡ []
drop_all [] = refl
drop_all (x ∷ xs) = drop_all xs

-- ---- names by their bytes

chars_same : (xs ys : List ℕ) → IsUtf8 xs → IsUtf8 ys → bytes_eq (chars xs) (chars ys) ≡ bytes_eq ys xs
chars_same xs ys u v = sym (same_characters xs ys u v) ∙ bytes_eq-sym xs ys

and_true : (a b : Bool) → b ≡ true → (a && b) ≡ a
and_true true b e = e
and_true false b e = refl

pub binds_same : (k : Kind) (xs ys : List ℕ) → IsUtf8 xs → IsUtf8 ys → same_reference (referred k xs) (referred k ys) ≡ bytes_eq ys xs
binds_same (Function a) xs ys u v = and_true (bytes_eq (chars xs) (chars ys)) (nat_eq a a) (nat_eq-itself a) ∙ chars_same xs ys u v
binds_same Variable xs ys u v = chars_same xs ys u v
binds_same Label xs ys u v = chars_same xs ys u v
