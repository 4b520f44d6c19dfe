-- The parts of a string between the occurrences of a separator.
use Rattle.std.proofs.Common.{◌≡◌, ◌≢◌, ◌∙◌, ℕ, zero, suc, ◌+◌, ◌-◌, ◌<◌, ◌≤◌, inl, inr, List, [], ◌∷◌, ◌++◌, Bool, true, false, length, take, drop, map, None, refl, sym, ap, subst, arith, String, Global, string_bytes}
use Rattle.std.proofs.Math.Seq.{take-append_seam, drop-append_seam}
use Rattle.std.proofs.lemmas.Bool.{cases_lt}
use Rattle.std.proofs.lemmas.List.{take-append-drop, length-append, append-nil, map-append}
use Rattle.std.proofs.lemmas.Slice.Eq.{bytes_eq-Decides}
use Rattle.std.proofs.lemmas.Str.{IsUtf8-append, IsUtf8-take, IsUtf8-drop, IsCharBoundary-at_seam, IsUtf8-string_bytes, chars-append, chars_from_encodes, encodes-chars, encodes-append, length-le-encodes}
use Rattle.std.specs.Bool.{nat_eq}
use Rattle.std.specs.List.{starts_with}
use Rattle.std.specs.Str.{chars, IsUtf8, IsCharBoundary}
use Rattle.std.specs.Str.Pattern.{FindsText, LacksTextAt, SplitsAroundMatch}
use Rattle.jv_data.proofs.shared.Texts.{bytes_around}
use Rattle.jv_arith.specs.Strings.{parts_after, with_first, split_of, single}
use Rattle.jv_data.specs.Value.{Value, string}
use lib.Utf8.{encode, encodes}

pub data IsBool (b : Bool) : Type 0 where
  yes : b ≡ true → IsBool b
  no : b ≡ false → IsBool b

pub either : (b : Bool) → IsBool b
either true = yes refl
either false = no refl

-- `starts_with` says whether the text begins with sep
pub starts_yes : (sep r : List ℕ) → starts_with nat_eq (sep ++ r) sep ≡ true
starts_yes sep r = (bytes_eq-Decides sep (take (length sep) (sep ++ r))).1 (sym (take-append_seam sep r))

pub starts_rest : (s sep : List ℕ) → starts_with nat_eq s sep ≡ true → s ≡ sep ++ drop (length sep) s
starts_rest s sep e = sym (take-append-drop (length sep) s) ∙ ap (λ f. f ++ drop (length sep) s) (sym ((bytes_eq-Decides sep (take (length sep) s)).0 e))

skip_all : (sep xs r : List ℕ) → parts_after sep (length xs) (xs ++ r) ≡ parts_after sep zero r
skip_all sep [] r = refl
skip_all sep (x ∷ xs) r = skip_all sep xs r

at_sep : (d : ℕ) (ds r : List ℕ) → parts_after (d ∷ ds) zero (d ∷ (ds ++ r)) ≡ [] ∷ parts_after (d ∷ ds) zero r
at_sep d ds r =
    let less : length (d ∷ ds) - 1 ≡ length ds = omega arith in
    rw (starts_yes (d ∷ ds) r) (ap (λ n. [] ∷ parts_after (d ∷ ds) n (ds ++ r)) less ∙ ap (λ ps. [] ∷ ps) (skip_all (d ∷ ds) ds r))

at_other : (sep : List ℕ) (c : ℕ) (cs : List ℕ) → starts_with nat_eq (c ∷ cs) sep ≡ false → parts_after sep zero (c ∷ cs) ≡ with_first c (parts_after sep zero cs)
at_other sep c cs e = rw e refl

-- the first occurrence of the separator ends the first part
pub split_step : (d : ℕ) (ds p r : List ℕ) → ((q t : List ℕ) → p ++ ((d ∷ ds) ++ r) ≡ q ++ ((d ∷ ds) ++ t) → length p ≤ length q) → parts_after (d ∷ ds) zero (p ++ ((d ∷ ds) ++ r)) ≡ p ∷ parts_after (d ∷ ds) zero r
split_step d ds [] r first = at_sep d ds r
split_step d ds (c ∷ p) r first =
    let more = p ++ ((d ∷ ds) ++ r) in
    elim (either (starts_with nat_eq (c ∷ more) (d ∷ ds))) [
      | yes e ↦ absurd (let none : suc (length p) ≤ 0 = first [] (drop (length (d ∷ ds)) (c ∷ more)) (starts_rest (c ∷ more) (d ∷ ds) e) in omega arith)
      | no e ↦ at_other (d ∷ ds) c more e ∙ ap (with_first c) (split_step d ds p r (λ q t f. let h : suc (length p) ≤ suc (length q) = first (c ∷ q) t (ap (λ xs. c ∷ xs) f) in omega arith))
    ]

-- without an occurrence there is one part
pub split_none : (d : ℕ) (ds s : List ℕ) → ((q t : List ℕ) → s ≢ q ++ ((d ∷ ds) ++ t)) → parts_after (d ∷ ds) zero s ≡ s ∷ []
split_none d ds [] none = refl
split_none d ds (c ∷ s) none = elim (either (starts_with nat_eq (c ∷ s) (d ∷ ds))) [
  | yes e ↦ absurd (none [] (drop (length (d ∷ ds)) (c ∷ s)) (starts_rest (c ∷ s) (d ∷ ds) e))
  | no e ↦ at_other (d ∷ ds) c s e ∙ ap (with_first c) (split_none d ds s (λ q t f. none (c ∷ q) t (ap (λ xs. c ∷ xs) f)))
]

-- a shorter prefix of a list is a prefix of a longer one
strict_front : (q t f w : List ℕ) → f ++ w ≡ q ++ t → length q < length f → f ≡ q ++ drop (length q) f
strict_front [] t f w e h = refl
strict_front (x ∷ q) t [] w e h = absurd (omega arith)
strict_front (x ∷ q) t (y ∷ f) w e h =
    let same : y ≡ x = cc in
    let rest : f ++ w ≡ q ++ t = cc in
    rw same (ap (λ xs. x ∷ xs) (strict_front q t f w rest (omega arith)))

length_front : (q f : List ℕ) → f ≡ q ++ drop (length q) f → length q < length f → length (encodes q) < length (encodes f)
length_front q f e h =
    let rest = drop (length q) f in
    let parts : length f ≡ length q + length rest = ap length e ∙ length-append q rest in
    let bytes : length (encodes f) ≡ length (encodes q) + length (encodes rest) = ap (λ xs. length (encodes xs)) e ∙ ap length (encodes-append q rest) ∙ length-append (encodes q) (encodes rest) in
    let some : length rest ≤ length (encodes rest) = length-le-encodes rest in
    omega arith

front_first : (sep bs front back : List ℕ) → IsUtf8 sep → IsUtf8 bs → IsUtf8 front → chars bs ≡ chars front ++ (chars sep ++ chars back) → ((i : ℕ) → i < length front → LacksTextAt sep bs i)
    → (q t : List ℕ) → chars front ++ (chars sep ++ chars back) ≡ q ++ (chars sep ++ t) → length (chars front) ≤ length q
front_first sep bs front back us ub uf e first q t f = elim (cases_lt (length q) (length (chars front))) [
  | inr h ↦ h
  | inl h ↦
      let prefix = strict_front q (chars sep ++ t) (chars front) (chars sep ++ chars back) f h in
      let bytes : length (encodes q) < length (encodes (chars front)) = length_front q (chars front) prefix h in
      let whole : bs ≡ encodes q ++ (sep ++ encodes t) = bytes_around sep bs q t us ub (e ∙ f) in
      let shorter : length (encodes q) < length front = subst (λ xs. length (encodes q) < length xs) (encodes-chars front uf) bytes in
      absurd (first (length (encodes q)) shorter (encodes t) (ap (drop (length (encodes q))) whole ∙ drop-append_seam (encodes q) (sep ++ encodes t)))
]

step_from : (ss : List ℕ) (sep bs front back : List ℕ) → chars sep ≡ ss → ss ≢ [] → chars bs ≡ chars front ++ (ss ++ chars back) → ((q t : List ℕ) → chars front ++ (ss ++ chars back) ≡ q ++ (ss ++ t) → length (chars front) ≤ length q)
    → parts_after ss zero (chars bs) ≡ chars front ∷ parts_after ss zero (chars back)
step_from [] sep bs front back s some e first = absurd (some refl)
step_from (d ∷ ds) sep bs front back s some e first = ap (parts_after (d ∷ ds) zero) e ∙ split_step d ds (chars front) (chars back) first

some_chars : (sep : List ℕ) → IsUtf8 sep → sep ≢ [] → chars sep ≢ []
some_chars sep us some e = some (sym (encodes-chars sep us) ∙ ap encodes e)

pub around : (sep bs front back : List ℕ) → IsUtf8 sep → IsUtf8 bs → sep ≢ [] → SplitsAroundMatch (FindsText sep) bs front back
    → (parts_after (chars sep) zero (chars bs) ≡ chars front ∷ parts_after (chars sep) zero (chars back)) × IsUtf8 back
around sep bs front back us ub some (i, j, finds, is_front, is_back, le, front_len, back_len) =
    let stands = finds.1 in
    let split : bs ≡ front ++ (sep ++ back) = sym (take-append-drop i bs) ∙ rw (sym is_front, stands.split, sym is_back) refl in
    let later : IsUtf8 back = rw (is_back, stands.ends) (IsUtf8-drop bs (i + length sep) ub stands.after) in
    let both : IsUtf8 (sep ++ back) = IsUtf8-append sep back us later in
    let before : IsUtf8 front = rw is_front (IsUtf8-take bs i ub (subst (IsCharBoundary bs) front_len (IsCharBoundary-at_seam bs front (sep ++ back) split both))) in
    let e : chars bs ≡ chars front ++ (chars sep ++ chars back) = ap chars split ∙ chars-append front (sep ++ back) before ∙ ap (λ xs. chars front ++ xs) (chars-append sep back us) in
    let first : (k : ℕ) → k < length front → LacksTextAt sep bs k = λ k less. finds.0 k (omega arith) in
    (step_from (chars sep) sep bs front back refl (some_chars sep us some) e (front_first sep bs front back us ub before e first), later)

none_from : (ss sep bs : List ℕ) → chars sep ≡ ss → ss ≢ [] → ((q t : List ℕ) → chars bs ≢ q ++ (ss ++ t)) → parts_after ss zero (chars bs) ≡ chars bs ∷ []
none_from [] sep bs s some none = absurd (some refl)
none_from (d ∷ ds) sep bs s some none = split_none d ds (chars bs) none

pub nowhere : (sep bs : List ℕ) → IsUtf8 sep → IsUtf8 bs → sep ≢ [] → FindsText sep bs None → parts_after (chars sep) zero (chars bs) ≡ chars bs ∷ []
nowhere sep bs us ub some lacks = none_from (chars sep) sep bs refl (some_chars sep us some) (λ q t e.
    let whole : bs ≡ encodes q ++ (sep ++ encodes t) = bytes_around sep bs q t us ub e in
    let within : length (encodes q) ≤ length bs = omega (arith, ap length whole ∙ length-append (encodes q) (sep ++ encodes t)) in
    lacks (length (encodes q)) within (encodes t) (ap (drop (length (encodes q))) whole ∙ drop-append_seam (encodes q) (sep ++ encodes t)))

pub split_of_singles : (s : List ℕ) → split_of s [] ≡ map single s
split_of_singles [] = refl
split_of_singles (c ∷ cs) = refl

pub split_of_parts : (s sep : List ℕ) → s ≢ [] → sep ≢ [] → split_of s sep ≡ parts_after sep zero s
split_of_parts [] sep h k = absurd (h refl)
split_of_parts (c ∷ cs) [] h k = absurd (k refl)
split_of_parts (c ∷ cs) (d ∷ sep) h k = refl

pub some_text : (bs : List ℕ) → IsUtf8 bs → bs ≢ [] → chars bs ≢ []
some_text = some_chars

-- a text of one character
pub chars_of_one : (c : ℕ) (t : String Global) → string_bytes t ≡ encode c → chars (string_bytes t) ≡ single c
chars_of_one c t e = sym (chars_from_encodes (c ∷ []) (string_bytes t) (IsUtf8-string_bytes t) (append-nil (encode c) ∙ sym e))

pub singles_more : (done : List Value) (cs : List ℕ) (c : ℕ) (v : Value) → done ≡ map string (map single cs) → v ≡ string (single c) → done ++ v ∷ [] ≡ map string (map single (cs ++ c ∷ []))
singles_more done cs c v e f = rw (e, f) (sym (ap (map string) (map-append single cs (c ∷ [])) ∙ map-append string (map single cs) (single c ∷ [])))

pub some_bytes : (bs : List ℕ) → 0 < length bs → bs ≢ []
some_bytes [] h e = absurd (omega arith)
some_bytes (b ∷ bs) h e = cc
