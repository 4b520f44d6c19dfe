-- Prefixes and suffixes of texts, by their bytes and by their code points.
use Rattle.std.proofs.Common.{◌≡◌, ◌≢◌, ◌∙◌, ℕ, ◌-◌, List, ◌++◌, true, false, length, take, drop, Option, Some, None, sym, ap, arith}
use Rattle.std.proofs.Math.Seq.{take-append_seam, drop-append_seam}
use Rattle.std.proofs.lemmas.Bool.{false_from_ne_true}
use Rattle.std.proofs.lemmas.List.{take-append-drop, length-append}
use Rattle.std.proofs.lemmas.Slice.Eq.{bytes_eq-Decides}
use Rattle.std.proofs.lemmas.Str.{IsUtf8-take, chars-append, encodes-chars, encodes-append}
use Rattle.std.specs.Bool.{nat_eq}
use Rattle.std.specs.List.{starts_with, ends_with}
use Rattle.std.specs.Borrow.{Bor}
use Rattle.std.specs.Prelude.{MatchOption}
use Rattle.std.specs.Str.{chars, IsUtf8}
use Rattle.std.specs.Str.Pattern.{FindsTextPrefix, FindsTextSuffix, StripsPrefix, StripsSuffix}
use lib.Utf8.{encodes}

-- the part is a prefix
front_yes : (p s r : List ℕ) → IsUtf8 p → s ≡ p ++ r → (starts_with nat_eq (chars s) (chars p) ≡ true) × (chars r ≡ drop (length (chars p)) (chars s))
front_yes p s r up e =
    let seen : chars s ≡ chars p ++ chars r = ap chars e ∙ chars-append p r up in (
      (bytes_eq-Decides (chars p) (take (length (chars p)) (chars s))).1 (sym (ap (take (length (chars p))) seen ∙ take-append_seam (chars p) (chars r))),
      sym (ap (drop (length (chars p))) seen ∙ drop-append_seam (chars p) (chars r)),
    )

front_no : (p s : List ℕ) → IsUtf8 p → IsUtf8 s → ((r : List ℕ) → s ≢ p ++ r) → starts_with nat_eq (chars s) (chars p) ≡ false
front_no p s up us lacks = false_from_ne_true _ (λ e.
    let n = length (chars p) in
    let rest = drop n (chars s) in
    let seen : chars s ≡ chars p ++ rest = sym (take-append-drop n (chars s)) ∙ ap (λ f. f ++ rest) (sym ((bytes_eq-Decides (chars p) (take n (chars s))).0 e)) in
    lacks (encodes rest) (sym (encodes-chars s us) ∙ ap encodes seen ∙ encodes-append (chars p) rest ∙ ap (λ bs. bs ++ encodes rest) (encodes-chars p up)))

pub stripped_front : (o : Option (Bor (List ℕ))) (p s : List ℕ) → IsUtf8 p → IsUtf8 s → MatchOption o (FindsTextPrefix p s None) (λ x. StripsPrefix (FindsTextPrefix p) s x.now)
    → MatchOption o (starts_with nat_eq (chars s) (chars p) ≡ false) (λ x. (starts_with nat_eq (chars s) (chars p) ≡ true) × (chars x.now ≡ drop (length (chars p)) (chars s)))
stripped_front None p s up us lacks = front_no p s up us lacks
stripped_front (Some x) p s up us (n, found, is, len) = front_yes p s x.now up (found.1 ∙ ap (λ r. p ++ r) (sym is))

-- the part is a suffix
back_yes : (f p s : List ℕ) → IsUtf8 f → s ≡ f ++ p → (ends_with nat_eq (chars s) (chars p) ≡ true) × (chars f ≡ take (length (chars s) - length (chars p)) (chars s))
back_yes f p s uf e =
    let seen : chars s ≡ chars f ++ chars p = ap chars e ∙ chars-append f p uf in
    let n : length (chars s) - length (chars p) ≡ length (chars f) = omega (arith, ap length seen ∙ length-append (chars f) (chars p)) in (
      (bytes_eq-Decides (chars p) (drop (length (chars s) - length (chars p)) (chars s))).1
          (sym (ap (λ k. drop k (chars s)) n ∙ ap (drop (length (chars f))) seen ∙ drop-append_seam (chars f) (chars p))),
      sym (ap (λ k. take k (chars s)) n ∙ ap (take (length (chars f))) seen ∙ take-append_seam (chars f) (chars p)),
    )

back_no : (p s : List ℕ) → IsUtf8 p → IsUtf8 s → ((f : List ℕ) → s ≢ f ++ p) → ends_with nat_eq (chars s) (chars p) ≡ false
back_no p s up us lacks = false_from_ne_true _ (λ e.
    let n = length (chars s) - length (chars p) in
    let front = take n (chars s) in
    let seen : chars s ≡ front ++ chars p = sym (take-append-drop n (chars s)) ∙ ap (λ r. front ++ r) (sym ((bytes_eq-Decides (chars p) (drop n (chars s))).0 e)) in
    lacks (encodes front) (sym (encodes-chars s us) ∙ ap encodes seen ∙ encodes-append front (chars p) ∙ ap (λ bs. encodes front ++ bs) (encodes-chars p up)))

pub stripped_back : (o : Option (Bor (List ℕ))) (p s : List ℕ) → IsUtf8 p → IsUtf8 s → MatchOption o (FindsTextSuffix p s None) (λ x. StripsSuffix (FindsTextSuffix p) s x.now)
    → MatchOption o (ends_with nat_eq (chars s) (chars p) ≡ false) (λ x. (ends_with nat_eq (chars s) (chars p) ≡ true) × (chars x.now ≡ take (length (chars s) - length (chars p)) (chars s)))
stripped_back None p s up us lacks = back_no p s up us lacks
stripped_back (Some x) p s up us (n, found, is, len) =
    let front : IsUtf8 x.now = rw (is, found.0) (IsUtf8-take s (length s - length p) us found.2) in
    back_yes x.now p s front (found.1 ∙ ap (λ f. f ++ p) (sym is))
