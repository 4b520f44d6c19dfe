-- A name in quotes: its bytes are those of its code points in quotes.
use Rattle.std.proofs.Common.{◌≡◌, ℕ, zero, suc, ◌<◌, ◌≤◌, Bool, true, ◌&&◌, List, [], ◌∷◌, ◌++◌, length, get_or, inl, inr, refl, sym, ap, ap₂, ◌∙◌, append_assoc, arith}
use Rattle.std.proofs.lemmas.Bool.{and_parts, cases_eq, cases_lt}
use Rattle.std.proofs.lemmas.List.{append-nil}
use Rattle.std.proofs.lemmas.Slice.Eq.{bytes_eq-Decides}
use Rattle.std.proofs.lemmas.Str.{encode_ascii, encodes-append, encodes-chars, inside_one}
use Rattle.std.specs.Str.{bytes_eq, chars, IsUtf8}
use lib.Utf8.{encode, encodes}
use Rattle.json.specs.Print.{escape, escape_byte, quoted}

escape-append : (xs ys : List ℕ) → escape (xs ++ ys) ≡ escape xs ++ escape ys
escape-append [] ys = refl
escape-append (x ∷ xs) ys = ap (λ zs. escape_byte x ++ zs) (escape-append xs ys) ∙ sym (append_assoc (escape_byte x) (escape xs) (escape ys))

-- a byte that is no ASCII stands for itself
escape_byte_high : (x : ℕ) → 128 ≤ x → escape_byte x ≡ x ∷ []
unfolding escape_byte
escape_byte_high x h = grind arith

escape_high : (xs : List ℕ) → ((k : ℕ) → k < length xs → 128 ≤ get_or xs k 0) → escape xs ≡ xs
escape_high [] h = refl
escape_high (x ∷ xs) h = ap₂ (λ (a b : List ℕ). a ++ b) (escape_byte_high x (h 0 (omega arith))) (escape_high xs (λ k below. h (suc k) (omega arith)))

-- what stands for each of the characters below n is ASCII
abbrev are_plain_below : ℕ → Bool
are_plain_below zero = true
are_plain_below (suc n) = bytes_eq (encodes (escape_byte n)) (escape_byte n) && are_plain_below n

all_plain : are_plain_below 128 ≡ true
unfolding escape_byte encode
all_plain = refl

escape_byte_low : (n : ℕ) → are_plain_below n ≡ true → (c : ℕ) → c < n → encodes (escape_byte c) ≡ escape_byte c
escape_byte_low zero e c h = absurd (omega arith)
escape_byte_low (suc n) e c h =
    let parts = and_parts _ _ e in
    elim (cases_eq c n) [
      | inl same ↦ rw same ((bytes_eq-Decides (encodes (escape_byte n)) (escape_byte n)).0 parts.0)
      | inr other ↦ escape_byte_low n parts.1 c (omega arith)
    ]

-- a character that is no ASCII has no ASCII byte
encode_high : (c : ℕ) → 128 ≤ c → (k : ℕ) → k < length (encode c) → 128 ≤ get_or (encode c) k 0
encode_high c h k below = elim (cases_lt (get_or (encode c) k 0) 128) [
  | inl low ↦ absurd (omega (arith, inside_one c [] (encode c) k (sym (append-nil (encode c))) below low))
  | inr high ↦ high
]

escape_one : (c : ℕ) → encodes (escape_byte c) ≡ escape (encode c)
escape_one c = elim (cases_lt c 128) [
  | inl low ↦ rw (encode_ascii c low) (escape_byte_low 128 all_plain c low ∙ sym (append-nil (escape_byte c)))
  | inr high ↦ rw (escape_byte_high c high) (append-nil (encode c) ∙ sym (escape_high (encode c) (encode_high c high)))
]

escape_all : (cs : List ℕ) → encodes (escape cs) ≡ escape (encodes cs)
escape_all [] = refl
escape_all (c ∷ cs) = encodes-append (escape_byte c) (escape cs) ∙ ap₂ (λ (a b : List ℕ). a ++ b) (escape_one c) (escape_all cs) ∙ sym (escape-append (encode c) (encodes cs))

pub quoted_bytes : (s : List ℕ) → IsUtf8 s → encodes (quoted (chars s)) ≡ quoted s
unfolding encode
quoted_bytes s u =
    ap (λ zs. 34 ∷ zs) (encodes-append (escape (chars s)) (34 ∷ []) ∙ ap (λ zs. zs ++ 34 ∷ []) (escape_all (chars s) ∙ ap escape (encodes-chars s u)))
