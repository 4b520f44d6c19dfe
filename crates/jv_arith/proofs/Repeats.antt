-- A string, repeated.
use Rattle.std.proofs.Common.{◌≡◌, ◌∙◌, ℕ, zero, suc, ◌+◌, ◌*◌, ◌/◌, ◌<◌, ◌≤◌, inl, inr, pos, List, [], ◌∷◌, ◌++◌, Ok, length, refl, sym, ap, arith, append_assoc, add-one}
use Rattle.std.proofs.Math.Nat.{mul-zero, div-lt_iff_lt-mul}
use Rattle.std.proofs.lemmas.Bool.{cases_lt, le-ltb, lt-ltb}
use Rattle.std.proofs.lemmas.Str.{chars-append, chars-nil, encodes-chars}
use Rattle.std.specs.Prelude.{encode_utf8_all}
use Rattle.std.specs.Str.{chars, IsUtf8}
use Rattle.jv_data.specs.Fails.{raised}
use Rattle.jv_data.specs.Value.{string}
use Rattle.jv_arith.specs.Errors.{repeat_too_long}
use Rattle.jv_arith.specs.Strings.{copies, repeated, repeat_limit}

append_nil : (xs : List ℕ) → xs ++ [] ≡ xs
append_nil [] = refl
append_nil (x ∷ xs) = ap (λ ys. x ∷ ys) (append_nil xs)

copies-suc : (n : ℕ) (s : List ℕ) → copies (suc n) s ≡ copies n s ++ s
copies-suc zero s = append_nil s
copies-suc (suc n) s = ap (λ t. s ++ t) (copies-suc n s) ∙ sym (append_assoc s (copies n s) s)

pub copies_more : (n : ℕ) (s : List ℕ) → copies (n + 1) s ≡ copies n s ++ s
copies_more n s = rw add-one (copies-suc n s)

pub chars-copies : (n : ℕ) (s : List ℕ) → IsUtf8 s → chars (copies n s) ≡ copies n (chars s)
chars-copies zero s u = chars-nil
chars-copies (suc n) s u = chars-append s (copies n s) u ∙ ap (λ t. chars s ++ t) (chars-copies n s u)

copies_nil : (n : ℕ) → copies n [] ≡ []
copies_nil zero = refl
copies_nil (suc n) = copies_nil n

same_length : (bs : List ℕ) → IsUtf8 bs → length (encode_utf8_all (chars bs)) ≡ length bs
same_length bs u = ap length (encodes-chars bs u)

-- within the limit
pub repeated-short : (bs : List ℕ) (n : ℕ) → IsUtf8 bs → 0 < n → n * length bs ≤ repeat_limit → repeated (chars bs) (pos n) ≡ Ok (string (copies n (chars bs)))
repeated-short bs zero u h small = absurd (omega arith)
repeated-short bs (suc n) u h small = rw (same_length bs u, le-ltb repeat_limit (suc n * length bs) small) refl

-- beyond it
pub repeated-long : (bs : List ℕ) (n : ℕ) → IsUtf8 bs → 0 < n → repeat_limit < n * length bs → repeated (chars bs) (pos n) ≡ raised repeat_too_long
repeated-long bs zero u h large = absurd (omega arith)
repeated-long bs (suc n) u h large = rw (same_length bs u, lt-ltb repeat_limit (suc n * length bs) large) refl

-- the empty text, repeated
pub repeated_nil : (n : ℕ) → 0 < n → repeated [] (pos n) ≡ Ok (string [])
repeated_nil zero h = absurd (omega arith)
repeated_nil (suc n) h = rw (mul-zero (suc n), copies_nil n) refl

pub not_large : (n l : ℕ) → 0 < l → n ≤ repeat_limit / l → n * l ≤ repeat_limit
not_large n l some h = elim (cases_lt repeat_limit (n * l)) [ inl large ↦ absurd (let more : repeat_limit / l < n = (div-lt_iff_lt-mul some).1 large in omega arith) | inr small ↦ small ]
