-- The text of a word as a string, and the token that it spells.
use Rattle.std.proofs.Common.{◌≡◌, ◌∙◌, ℕ, zero, suc, ◌+◌, ◌-◌, ◌<◌, ◌≤◌, List, [], ◌∷◌, ◌++◌, length, take, drop, get_or, map, Bool, true, false, ◌&&◌, ◌||◌, ltb, nat_eq, Option, Some, None, refl, sym, ap, subst, inl, inr, arith, add-one, length-append, length-drop, String, Global, string_bytes}
use Rattle.std.specs.Prelude.{bytes_eq, nat_le, if◌then◌else◌}
use Rattle.std.proofs.lemmas.Bool.{eqb-true, leb-true, lt-ltb, or_cases, and_from, cond-true, cond-false}
use Rattle.std.proofs.lemmas.List.{append-nil, take-append-drop, take_all}
use Rattle.std.proofs.lemmas.Slice.Eq.{bytes_eq-Decides}
use Rattle.std.proofs.lemmas.Str.{encodes-append}
use Rattle.jv_data.proofs.shared.Texts.{text_is}
use Rattle.jq_tree.specs.Token as token
use Rattle.jq_tree.specs.Words.{every, is_letter, is_digit, is_e, is_name, is_name_character, is_keyword, spells_one_of, Numeral, Mantissa, whole_alone, with_point, point_first, Exponent, no_exponent, unsigned, with_plus, with_minus, IsNumeral, is_format_name, Spells, spells_keyword, spells_name, spells_field, spells_variable, spells_format, spells_number}
use Rattle.jq_tree.proofs.shared.Fronts.{and_left, and_right, digits_each}
use Rattle.jq_lexer.specs.private.Found.{keyword_in}
use Rattle.jq_lexer.specs.private.Numbers.{IsValueOf}
use Rattle.jv_data.specs.Text.{text_of}
use Rattle.jq_lexer.specs.Views.{keyword_of}
use Rattle.jq_lexer.specs.declared.spellings.TheConstants.{KEYWORDS}
use Rattle.jq_lexer.specs.declared.tokens.Keyword.{Keyword}
use Rattle.jq_lexer.specs.declared.tokens.Natural.{Natural}
use Rattle.jq_lexer.proofs.Runs.{chosen}
use Rattle.jq_lexer.proofs.Tags.{unspelt}
use lib.Utf8.{encode, encodes}

-- ---- strings

pub encodes_more : (bs : List ℕ) (cs : List ℕ) (c : ℕ) → bs ≡ encodes cs → bs ++ encode c ≡ encodes (cs ++ c ∷ [])
encodes_more bs cs c e = ap (λ (xs : List ℕ). xs ++ encode c) e ∙ sym (encodes-append cs (c ∷ []) ∙ ap (λ (xs : List ℕ). encodes cs ++ xs) (append-nil (encode c)))

-- ---- words of ASCII

abbrev is_small : ℕ → Bool
is_small c = ltb c 128

encode_small : (c : ℕ) → is_small c ≡ true → encode c ≡ c ∷ []
unfolding encode
encode_small c e = cond-true (ltb c 128) (c ∷ []) _ e

encodes_small : (cs : List ℕ) → every is_small cs ≡ true → encodes cs ≡ cs
encodes_small [] h = refl
encodes_small (c ∷ cs) h =
    ap (λ (xs : List ℕ). xs ++ encodes cs) (encode_small c (and_left (is_small c) (every is_small cs) h))
    ∙ ap (λ (xs : List ℕ). c ∷ xs) (encodes_small cs (and_right (is_small c) (every is_small cs) h))

every_weaker : (p q : ℕ → Bool) → ((c : ℕ) → p c ≡ true → q c ≡ true) → (cs : List ℕ) → every p cs ≡ true → every q cs ≡ true
every_weaker p q k [] h = refl
every_weaker p q k (c ∷ cs) h = and_from (q c) (every q cs) (k c (and_left (p c) (every p cs) h)) (every_weaker p q k cs (and_right (p c) (every p cs) h))

every_join : (p : ℕ → Bool) (xs ys : List ℕ) → every p xs ≡ true → every p ys ≡ true → every p (xs ++ ys) ≡ true
every_join p [] ys h k = k
every_join p (x ∷ xs) ys h k = and_from (p x) (every p (xs ++ ys)) (and_left (p x) (every p xs) h) (every_join p xs ys (and_right (p x) (every p xs) h) k)

small_below : (low high c : ℕ) → high < 128 → (nat_le low c && nat_le c high) ≡ true → is_small c ≡ true
small_below low high c b h = let k = leb-true c high (and_right (nat_le low c) (nat_le c high) h) in lt-ltb c 128 (omega arith)

small_one : (c k : ℕ) → k < 128 → nat_eq c k ≡ true → is_small c ≡ true
small_one c k b h = let e = eqb-true c k h in lt-ltb c 128 (omega arith)

digit_small : (c : ℕ) → is_digit c ≡ true → is_small c ≡ true
digit_small c h = small_below 48 57 c (omega arith) h

letter_small : (c : ℕ) → is_letter c ≡ true → is_small c ≡ true
letter_small c h = elim (or_cases ((nat_le 65 c && nat_le c 90) || (nat_le 97 c && nat_le c 122)) (nat_eq c 95) h) [
  | inl a ↦ elim (or_cases (nat_le 65 c && nat_le c 90) (nat_le 97 c && nat_le c 122) a) [ inl b ↦ small_below 65 90 c (omega arith) b | inr b ↦ small_below 97 122 c (omega arith) b ]
  | inr a ↦ small_one c 95 (omega arith) a
]

name_character_small : (c : ℕ) → is_name_character c ≡ true → is_small c ≡ true
name_character_small c h = elim (or_cases (is_letter c) (is_digit c) h) [ inl a ↦ letter_small c a | inr a ↦ digit_small c a ]

name_small : (w : List ℕ) → is_name w ≡ true → every is_small w ≡ true
name_small [] h = refl
name_small (c ∷ cs) h = and_from (is_small c) (every is_small cs) (letter_small c (and_left (is_letter c) (every is_name_character cs) h))
    (every_weaker is_name_character is_small name_character_small cs (and_right (is_letter c) (every is_name_character cs) h))

digits_small : (ds : List ℕ) → every is_digit ds ≡ true → every is_small ds ≡ true
digits_small ds h = every_weaker is_digit is_small digit_small ds h

mantissa_small : {xs ds fs : List ℕ} → Mantissa xs ds fs → every is_small xs ≡ true
mantissa_small (whole_alone {ds} e h) = ap (every is_small) e ∙ digits_small ds (digits_each ds h)
mantissa_small (with_point {ds} {fs} e h k) = ap (every is_small) e ∙ every_join is_small ds (46 ∷ fs) (digits_small ds (digits_each ds h)) (digits_small fs k)
mantissa_small (point_first {fs} e h) = ap (every is_small) e ∙ digits_small fs (digits_each fs h)

e_small : (c : ℕ) → is_e c ≡ true → is_small c ≡ true
e_small c h = elim (or_cases (nat_eq c 101) (nat_eq c 69) h) [ inl a ↦ small_one c 101 (omega arith) a | inr a ↦ small_one c 69 (omega arith) a ]

exponent_small : {ys : List ℕ} {u d : ℕ} → Exponent ys u d → every is_small ys ≡ true
exponent_small (no_exponent e) = ap (every is_small) e
exponent_small (unsigned c ds e f g) = ap (every is_small) e ∙ and_from (is_small c) (every is_small ds) (e_small c f) (digits_small ds (digits_each ds g))
exponent_small (with_plus c ds e f g) = ap (every is_small) e ∙ and_from (is_small c) (every is_small ds) (e_small c f) (digits_small ds (digits_each ds g))
exponent_small (with_minus c ds e f g) = ap (every is_small) e ∙ and_from (is_small c) (every is_small ds) (e_small c f) (digits_small ds (digits_each ds g))

numeral_small : (w : List ℕ) (r : Numeral) → IsNumeral w r → every is_small w ≡ true
numeral_small w r h = ap (every is_small) h.parts ∙ every_join is_small h.mantissa h.exponent (mantissa_small h.digits) (exponent_small h.power)

-- ---- keywords

keyword_found : (text : List ℕ) (ks : List Keyword) (k : Keyword) → keyword_in text ks ≡ Some k → text ≡ token.keyword_text (keyword_of k)
keyword_found text [] k e = absurd (cc e)
keyword_found text (x ∷ ks) k e = elim (chosen (bytes_eq (token.keyword_text (keyword_of x)) text) x k (keyword_in text ks) e) [
  | inl p ↦ sym ((bytes_eq-Decides (token.keyword_text (keyword_of x)) text).0 (p.0)) ∙ ap (λ (z : Keyword). token.keyword_text (keyword_of z)) (p.1)
  | inr p ↦ keyword_found text ks k p
]

missing_by : (b : Bool) (x : Keyword) (o : Option Keyword) (r : Bool) → (o ≡ None → r ≡ false) → (if b then Some x else o) ≡ None → (b || r) ≡ false
missing_by true x o r k e = absurd (cc e)
missing_by false x o r k e = k e

keyword_missing : (text : List ℕ) (ks : List Keyword) → keyword_in text ks ≡ None → spells_one_of (map keyword_of ks) text ≡ false
keyword_missing text [] e = refl
keyword_missing text (x ∷ ks) e =
    missing_by (bytes_eq (token.keyword_text (keyword_of x)) text) x (keyword_in text ks) (spells_one_of (map keyword_of ks) text) (keyword_missing text ks) e

no_keyword : (text : List ℕ) → keyword_in text KEYWORDS ≡ None → is_keyword text ≡ false
no_keyword text e = keyword_missing text KEYWORDS e

pub keyword_spelt : (w bs : List ℕ) (k : Keyword) → is_name w ≡ true → bs ≡ encodes w → keyword_in bs KEYWORDS ≡ Some k → Spells w (token.keyword (keyword_of k))
keyword_spelt w bs k h e f = spells_keyword (keyword_of k) (sym (encodes_small w (name_small w h)) ∙ sym e ∙ keyword_found bs KEYWORDS k f)

pub name_spelt : (w : List ℕ) (s : String Global) → is_name w ≡ true → string_bytes s ≡ encodes w → keyword_in (string_bytes s) KEYWORDS ≡ None → Spells w (token.name (text_of s))
name_spelt w s h e f =
    let same : string_bytes s ≡ w = e ∙ encodes_small w (name_small w h) in
    let none : is_keyword w ≡ false = ap is_keyword (sym same) ∙ no_keyword (string_bytes s) f in
    subst (λ (n : List ℕ). Spells w (token.name n)) (sym (text_is s w e)) (spells_name h none)

-- ---- numbers

same_numeral : (w bs : List ℕ) (r : Numeral) → IsNumeral w r → bs ≡ encodes w → bs ≡ w
same_numeral w bs r h e = e ∙ encodes_small w (numeral_small w r h)

pub number_spelt : (w bs : List ℕ) (v : Natural) → (r : Numeral) × IsNumeral w r → bs ≡ encodes w → IsValueOf bs (Some v) → Spells w (token.number v.value)
number_spelt w bs v h e k =
    let same = same_numeral w bs (h.0) (h.1) e in
    spells_number (h.0) v.value (h.1) (k (h.0) (subst (λ (t : List ℕ). IsNumeral t (h.0)) (sym same) (h.1)))

pub number_unspelt : (w bs : List ℕ) → (r : Numeral) × IsNumeral w r → bs ≡ encodes w → IsValueOf bs None → (t : token.Token) → ¬ Spells w t
number_unspelt w bs h e k =
    let same = same_numeral w bs (h.0) (h.1) e in
    unspelt w (h.0) (h.1) (λ q n i v. k q (subst (λ (t : List ℕ). IsNumeral t q) (sym same) i) n v)

-- ---- characters one by one

take_next : (cs : List ℕ) (i c : ℕ) → i < length cs → c ≡ get_or cs i c → take (suc i) cs ≡ take i cs ++ c ∷ []
take_next [] i c h e = absurd (omega arith)
take_next (x ∷ xs) zero c h e = ap (λ (y : ℕ). y ∷ []) (sym e)
take_next (x ∷ xs) (suc i) c h e = ap (λ (t : List ℕ). x ∷ t) (take_next xs i c (omega arith) e)

pub encodes_next : (cs : List ℕ) (i c : ℕ) → i < length cs → c ≡ get_or cs i c → encodes (take (i + 1) cs) ≡ encodes (take i cs) ++ encode c
encodes_next cs i c h e = ap (λ (n : ℕ). encodes (take n cs)) (add-one i) ∙ ap encodes (take_next cs i c h e) ∙ sym (encodes_more (encodes (take i cs)) (take i cs) c refl)

pub bytes_next : (cs : List ℕ) (i c : ℕ) → i < length cs → c ≡ get_or cs i c → length (encodes (take (i + 1) cs)) ≡ length (encodes (take i cs)) + length (encode c)
bytes_next cs i c h e = ap length (encodes_next cs i c h e) ∙ length-append (encodes (take i cs)) (encode c)

pub bytes_within : (cs : List ℕ) (n : ℕ) → length (encodes (take n cs)) ≤ length (encodes cs)
bytes_within cs n =
    let e : length (encodes cs) ≡ length (encodes (take n cs)) + length (encodes (drop n cs)) =
    ap (λ (t : List ℕ). length (encodes t)) (sym (take-append-drop n cs)) ∙ ap length (encodes-append (take n cs) (drop n cs)) ∙ length-append (encodes (take n cs)) (encodes (drop n cs)) in omega arith

pub text_all : (s : String Global) (cs : List ℕ) (i : ℕ) → string_bytes s ≡ encodes (take i cs) → length cs ≤ i → text_of s ≡ cs
text_all s cs i e h = text_is s cs (e ∙ ap encodes (take_all i cs h))

-- ---- the search through the keywords

pub keyword_next : (text : List ℕ) (ks : List Keyword) (i : ℕ) (d : Keyword) → i < length ks → bytes_eq (token.keyword_text (keyword_of (get_or ks i d))) text ≡ false
    → keyword_in text (drop i ks) ≡ keyword_in text (drop (i + 1) ks)
keyword_next text ks i d h k = next ks i h k ∙ ap (λ (n : ℕ). keyword_in text (drop n ks)) (sym (add-one i))
  where
    next : (zs : List Keyword) (j : ℕ) → j < length zs → bytes_eq (token.keyword_text (keyword_of (get_or zs j d))) text ≡ false → keyword_in text (drop j zs) ≡ keyword_in text (drop (suc j) zs)
    next [] j h k = absurd (omega arith)
    next (z ∷ zs) zero h k = cond-false (bytes_eq (token.keyword_text (keyword_of z)) text) (Some z) (keyword_in text zs) k
    next (z ∷ zs) (suc j) h k = next zs j (omega arith) k

-- ---- words after a sign

pub field_spelt : (w : List ℕ) (s : String Global) → (n : List ℕ) × (w ≡ 46 ∷ n) × (is_name n ≡ true) → text_of s ≡ drop 1 w → Spells w (token.field (text_of s))
field_spelt w s f e = let same : text_of s ≡ f.0 = e ∙ ap (drop 1) (f.1) in subst (λ (n : List ℕ). Spells w (token.field n)) (sym same) (spells_field (f.0) (f.1) (f.2))

pub variable_spelt : (w : List ℕ) (s : String Global) → (n : List ℕ) × (w ≡ 36 ∷ n) × (is_name n ≡ true) → text_of s ≡ drop 1 w → Spells w (token.variable (text_of s))
variable_spelt w s f e = let same : text_of s ≡ f.0 = e ∙ ap (drop 1) (f.1) in subst (λ (n : List ℕ). Spells w (token.variable n)) (sym same) (spells_variable (f.0) (f.1) (f.2))

pub format_spelt : (w : List ℕ) (s : String Global) → (n : List ℕ) × (w ≡ 64 ∷ n) × (is_format_name n ≡ true) → text_of s ≡ drop 1 w → Spells w (token.format (text_of s))
format_spelt w s f e = let same : text_of s ≡ f.0 = e ∙ ap (drop 1) (f.1) in subst (λ (n : List ℕ). Spells w (token.format n)) (sym same) (spells_format (f.0) (f.1) (f.2))

-- ---- the end of a slice

pub after_all : (cs : List ℕ) (n : ℕ) → take (length cs - n) (drop n cs) ≡ drop n cs
after_all cs n = let size = length-drop n cs in take_all (length cs - n) (drop n cs) (omega arith)
