-- Texts of ASCII, whose bytes are their code points.
use Rattle.std.proofs.Common.{◌≡◌, ◌∙◌, ℕ, List, ◌++◌, true, ap, sym, refl, String, Global, string_bytes}
use Rattle.std.proofs.lemmas.Bool.{ltb-true}
use Rattle.std.proofs.lemmas.List.Folds.{list_all-append}
use Rattle.std.proofs.lemmas.List.Sums.{AllPass-from_list_all}
use Rattle.std.proofs.lemmas.Str.{chars-IsAscii, encodes-append, encodes-IsAscii, IsUtf8-from_ascii}
use Rattle.std.proofs.lemmas.Str.Ascii.{IsAscii-from_all}
use Rattle.std.specs.Char.{is_ascii}
use Rattle.std.specs.List.{list_all}
use Rattle.std.specs.Str.{bytes_eq, chars, IsAscii, IsUtf8}
use Rattle.jv_data.proofs.shared.Texts.{same_characters, text_is}
use lib.Utf8.{encodes}

pub ascii_from_all : (bs : List ℕ) → list_all is_ascii bs ≡ true → IsAscii bs
ascii_from_all bs h = IsAscii-from_all bs (λ k d i. ltb-true _ _ (AllPass-from_list_all is_ascii bs h k d i))

pub both_ascii : (xs ys : List ℕ) → list_all is_ascii xs ≡ true → list_all is_ascii ys ≡ true → list_all is_ascii (xs ++ ys) ≡ true
both_ascii xs ys h g = rw (list_all-append is_ascii xs ys, h, g) refl

pub ascii_chars : (bs : List ℕ) → list_all is_ascii bs ≡ true → chars bs ≡ bs
ascii_chars bs h = chars-IsAscii bs (ascii_from_all bs h)

pub ascii_utf8 : (bs : List ℕ) → list_all is_ascii bs ≡ true → IsUtf8 bs
ascii_utf8 bs h = IsUtf8-from_ascii bs (ascii_from_all bs h)

-- a text is a known text of ASCII exactly if its code points are
pub same_as_ascii : (bs known : List ℕ) → IsUtf8 bs → list_all is_ascii known ≡ true → bytes_eq bs known ≡ bytes_eq (chars bs) known
same_as_ascii bs known u h = same_characters bs known u (ascii_utf8 known h) ∙ ap (bytes_eq (chars bs)) (ascii_chars known h)

pub ascii_same_as : (known bs : List ℕ) → list_all is_ascii known ≡ true → IsUtf8 bs → bytes_eq known bs ≡ bytes_eq known (chars bs)
ascii_same_as known bs h u = same_characters known bs (ascii_utf8 known h) u ∙ ap (λ (cs : List ℕ). bytes_eq cs (chars bs)) (ascii_chars known h)

-- a text of ASCII was written out, and then another text
pub text_after_ascii : (s : String Global) (bs cs : List ℕ) → list_all is_ascii bs ≡ true → string_bytes s ≡ bs ++ encodes cs → chars (string_bytes s) ≡ bs ++ cs
text_after_ascii s bs cs h e = text_is s (bs ++ cs) (e ∙ sym (encodes-append bs cs ∙ ap (λ xs. xs ++ encodes cs) (encodes-IsAscii bs (ascii_from_all bs h))))
