-- The bytes that `@uri` writes as escapes.
use Rattle.std.proofs.Common.{◌≡◌, ℕ, zero, suc, ◌<◌, Bool, true, ◌&&◌, List, [], ◌∷◌, ◌++◌, All, refl, ap₂}
use Rattle.std.proofs.lemmas.Bool.Decides.{Decides-below_and}
use Rattle.std.proofs.lemmas.List.Elements.{All-head, All-tail}
use Rattle.std.proofs.lemmas.Slice.Eq.{bytes_eq-Decides}
use Rattle.std.specs.Prelude.{bytes_eq, flat_map}
use Rattle.percent_encoding.specs.AsciiSet.{should_percent_encode}
use Rattle.percent_encoding.specs.Percent.{encode_byte, percent_encode, percent_encode_byte}
use Rattle.jv_text.specs.Formats.{uri_byte}
use Rattle.jv_text.specs.declared.formats.encodings.TheConstants.{RESERVED}

-- the bytes below n are written alike
abbrev alike_below : ℕ → Bool
alike_below zero = true
alike_below (suc n) = bytes_eq (encode_byte RESERVED n) (uri_byte n) && alike_below n

all_alike : alike_below 256 ≡ true
unfolding should_percent_encode percent_encode_byte
all_alike = refl

one_alike : (b : ℕ) → b < 256 → encode_byte RESERVED b ≡ uri_byte b
one_alike b h =
    (Decides-below_and (λ n. bytes_eq (encode_byte RESERVED n) (uri_byte n)) (λ n. encode_byte RESERVED n ≡ uri_byte n) alike_below (λ n. bytes_eq-Decides (encode_byte RESERVED n) (uri_byte n)) refl (λ n. refl) 256).0 all_alike b h

pub percent_encode-bytes : (bs : List ℕ) → All (λ b. b < 256) bs → percent_encode RESERVED bs ≡ flat_map uri_byte bs
unfolding percent_encode
percent_encode-bytes [] h = refl
percent_encode-bytes (b ∷ bs) h = ap₂ (λ (xs ys : List ℕ). xs ++ ys) (one_alike b (All-head (λ x. x < 256) b bs h)) (percent_encode-bytes bs (All-tail (λ x. x < 256) b bs h))
