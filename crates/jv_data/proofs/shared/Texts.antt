-- Texts by their bytes and by their code points.
use Rattle.std.proofs.Common.{◌≡◌, ◌∙◌, ℕ, List, [], ◌∷◌, ◌++◌, ap, sym, append_assoc, String, Global, string_bytes}
use Rattle.std.proofs.lemmas.Bool.Decides.{same_from_decides, Decides-like}
use Rattle.std.proofs.lemmas.List.{append-nil}
use Rattle.std.proofs.lemmas.Slice.Eq.{bytes_eq-Decides}
use Rattle.std.proofs.lemmas.Str.{chars_from_encodes, encodes-append, encodes-chars, IsUtf8-string_bytes}
use Rattle.std.specs.Str.{bytes_eq, chars, IsUtf8}
use lib.Utf8.{encode, encodes}

-- texts are compared in either order
pub bytes_eq-sym : (a b : List ℕ) → bytes_eq a b ≡ bytes_eq b a
bytes_eq-sym a b = same_from_decides _ _ (bytes_eq-Decides a b) (Decides-like (bytes_eq b a) (λ e. sym e) (λ e. sym e) (bytes_eq-Decides b a))

-- texts are equal exactly if their code points are
pub same_characters : (a b : List ℕ) → IsUtf8 a → IsUtf8 b → bytes_eq a b ≡ bytes_eq (chars a) (chars b)
same_characters a b u v = same_from_decides _ _ (bytes_eq-Decides a b)
    (Decides-like (bytes_eq (chars a) (chars b))
    (λ e. sym (encodes-chars a u) ∙ ap encodes e ∙ encodes-chars b v)
    (λ e. ap chars e)
    (bytes_eq-Decides (chars a) (chars b)))

-- one more code point was read
pub read_more : (text cs rest left : List ℕ) (c : ℕ) → text ≡ encodes cs ++ rest → rest ≡ encode c ++ left → text ≡ encodes (cs ++ c ∷ []) ++ left
read_more text cs rest left c e f =
    e ∙ ap (λ xs. encodes cs ++ xs) f ∙ sym (append_assoc (encodes cs) (encode c) left)
    ∙ ap (λ xs. xs ++ left) (sym (encodes-append cs (c ∷ []) ∙ ap (λ xs. encodes cs ++ xs) (append-nil (encode c))))

-- nothing is left to read
pub all_read : (text cs rest : List ℕ) → IsUtf8 text → text ≡ encodes cs ++ rest → rest ≡ [] → cs ≡ chars text
all_read text cs rest u e f = chars_from_encodes cs text u (sym (e ∙ ap (λ xs. encodes cs ++ xs) f ∙ append-nil (encodes cs)))

-- one more code point was written
pub written_more : (s t : String Global) (c : ℕ) → string_bytes t ≡ string_bytes s ++ encode c → chars (string_bytes t) ≡ chars (string_bytes s) ++ c ∷ []
written_more s t c e =
    let bytes : encodes (chars (string_bytes s) ++ c ∷ []) ≡ string_bytes t =
    encodes-append (chars (string_bytes s)) (c ∷ []) ∙ ap (λ xs. encodes (chars (string_bytes s)) ++ xs) (append-nil (encode c))
    ∙ ap (λ xs. xs ++ encode c) (encodes-chars (string_bytes s) (IsUtf8-string_bytes s)) ∙ sym e in
    sym (chars_from_encodes (chars (string_bytes s) ++ c ∷ []) (string_bytes t) (IsUtf8-string_bytes t) bytes)

-- the bytes of a text that has another one in it, before, in and after that one
pub bytes_around : (part bs q t : List ℕ) → IsUtf8 part → IsUtf8 bs → chars bs ≡ q ++ (chars part ++ t) → bs ≡ encodes q ++ (part ++ encodes t)
bytes_around part bs q t up ub e =
    sym (encodes-chars bs ub) ∙ ap encodes e ∙ encodes-append q (chars part ++ t) ∙ ap (λ xs. encodes q ++ xs) (encodes-append (chars part) t ∙ ap (λ xs. xs ++ encodes t) (encodes-chars part up))

-- a text was written out
pub text_is : (s : String Global) (cs : List ℕ) → string_bytes s ≡ encodes cs → chars (string_bytes s) ≡ cs
text_is s cs e = sym (chars_from_encodes cs (string_bytes s) (IsUtf8-string_bytes s) (sym e))
