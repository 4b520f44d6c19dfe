-- The text of a fault is ASCII.
use Rattle.std.proofs.Common.{◌≡◌, ℕ, zero, suc, List, [], ◌∷◌, ◌++◌, ◌+◌, ◌/◌, ◌%◌, ◌<◌, ◌==◌, Bool, true, false, if◌then◌else◌, Option, Some, None, codes, ap, ◌∙◌, refl, arith}
use Rattle.std.proofs.lemmas.Bool.{cond_both}
use Rattle.std.proofs.lemmas.Str.{chars-IsAscii, IsAscii-append}
use Rattle.std.proofs.lemmas.Str.Ascii.{IsAscii-cons, IsAscii-nil}
use Rattle.std.specs.Char.{is_ascii}
use Rattle.std.specs.Fmt.{decimal, digits, digits_onto, digit_glyph}
use Rattle.std.specs.List.{list_all}
use Rattle.std.specs.Str.{chars, IsAscii}
use Rattle.jv_data.proofs.shared.Ascii.{ascii_from_all}
use Rattle.jv_text.specs.FaultWords.{fault_place, fault_words, fault_text, placed}
use Rattle.jv_text.specs.declared.faults.Fault.{Fault}
use Rattle.jv_text.specs.declared.faults.Fault.TheVariants.{Malformed, Unfinished, NotWhole, TooDeep, TooLong, NoMemory}

-- ---- digits

small : (below_ten : Bool) (d : ℕ) → d < 10 → (if below_ten then 48 + d else (if false then 55 + d else 87 + d)) < 128
small true d h = omega arith
small false d h = omega arith

digits_ascii : (k n : ℕ) (after : List ℕ) → IsAscii after → IsAscii (digits_onto k 10 false n after)
digits_ascii zero n after h = h
digits_ascii (suc k) n after h =
    let more = IsAscii-cons (digit_glyph false (n % 10)) after (small _ (n % 10) (omega arith)) h in
    cond_both (n / 10 == 0) (digit_glyph false (n % 10) ∷ after) _ IsAscii (λ one. more) (λ others. digits_ascii k (n / 10) (digit_glyph false (n % 10) ∷ after) more)

decimal_ascii : (n : ℕ) → IsAscii (decimal n)
unfolding digits
decimal_ascii n = digits_ascii 64 n [] IsAscii-nil

-- ---- the text

words_ascii : (f : Fault) → list_all is_ascii (fault_words f) ≡ true
words_ascii (Malformed at) = refl
words_ascii (Unfinished at) = refl
words_ascii (NotWhole at) = refl
words_ascii (TooDeep at) = refl
words_ascii (TooLong at) = refl
words_ascii NoMemory = refl

placed_ascii : (place : Option ℕ) (words : List ℕ) → IsAscii words → IsAscii (placed place words)
placed_ascii (Some at) words h =
    IsAscii-append (codes "input at byte ") (decimal at ++ (codes ": " ++ words)) (ascii_from_all (codes "input at byte ") refl)
    (IsAscii-append (decimal at) (codes ": " ++ words) (decimal_ascii at) (IsAscii-append (codes ": ") words (ascii_from_all (codes ": ") refl) h))
placed_ascii None words h = h

pub fault_chars : (f : Fault) (bytes : List ℕ) → bytes ≡ fault_text f → chars bytes ≡ fault_text f
fault_chars f bytes e = ap chars e ∙ chars-IsAscii (fault_text f) (placed_ascii (fault_place f) (fault_words f) (ascii_from_all (fault_words f) (words_ascii f)))
