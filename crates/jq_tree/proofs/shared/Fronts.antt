-- The prefixes of words: a test that every prefix of every word passes. It shows that a word is the longest.
use Rattle.std.proofs.Common.{◌≡◌, ℕ, List, [], ◌∷◌, ◌++◌, Bool, true, false, ◌&&◌, ◌||◌, cond, nat_eq, refl, sym, ap, ◌∙◌, append_assoc, subst, ◌⊎◌, inl, inr, eq-eqb}
use Rattle.std.specs.Prelude.{bytes_eq}
use Rattle.std.proofs.lemmas.Bool.{and_from, or_left, or_right, or_cases}
use Rattle.std.proofs.lemmas.Bool.Decides.{eqb_tells}
use Rattle.std.proofs.lemmas.List.{append-nil}
use Rattle.std.proofs.lemmas.Slice.Eq.{bytes_eq-Decides}
use Rattle.jq_tree.specs.Token.{Symbol, symbol_text}
use Rattle.jq_tree.specs.Token as token
use Rattle.jq_tree.specs.laws.Lexed.{name_front, after, is_sign, exponent_front, number_front, is_front, front_of_one, symbols, may_begin}
use Rattle.jq_tree.specs.Words.{every, is_letter, is_digit, is_name_character, is_name, is_digits, is_format_name, is_e, Numeral, Mantissa, whole_alone, with_point, point_first, Exponent, no_exponent, unsigned, with_plus, with_minus, IsNumeral, Lexeme, name_form, field_form, variable_form, format_form, number_form, symbol_form, Longest}

-- ---- tests

pub and_left : (a b : Bool) → (a && b) ≡ true → a ≡ true
and_left true b e = refl
and_left false b e = absurd (cc e)

pub and_right : (a b : Bool) → (a && b) ≡ true → b ≡ true
and_right true b e = e
and_right false b e = absurd (cc e)

pub digits_each : (ds : List ℕ) → is_digits ds ≡ true → every is_digit ds ≡ true
digits_each [] e = absurd (cc e)
digits_each (c ∷ cs) e = e

-- ---- every prefix of a word passes

every_front : (p : ℕ → Bool) (s more : List ℕ) → every p (s ++ more) ≡ true → every p s ≡ true
every_front p [] more e = refl
every_front p (c ∷ cs) more e = and_from (p c) (every p cs) (and_left (p c) (every p (cs ++ more)) e) (every_front p cs more (and_right (p c) (every p (cs ++ more)) e))

name_has_front : (s more : List ℕ) → is_name (s ++ more) ≡ true → name_front s ≡ true
name_has_front [] more e = refl
name_has_front (c ∷ cs) more e = and_from (is_letter c) (every is_name_character cs) (and_left (is_letter c) (every is_name_character (cs ++ more)) e)
    (every_front is_name_character cs more (and_right (is_letter c) (every is_name_character (cs ++ more)) e))

pub format_name_is : (n : List ℕ) → is_format_name n ≡ true → every is_name_character n ≡ true
format_name_is [] e = refl
format_name_is (c ∷ cs) e = e

after_has_front : (c : ℕ) (test : List ℕ → Bool) (P : List ℕ → Bool) (s more n : List ℕ) → s ++ more ≡ c ∷ n → P n ≡ true
    → ((t : List ℕ) → P (t ++ more) ≡ true → test t ≡ true) → after c test s ≡ true
after_has_front c test P [] more n e h k = refl
after_has_front c test P (d ∷ ds) more n e h k =
    let f : d ≡ c = cc in let g : ds ++ more ≡ n = cc in
    and_from (nat_eq c d) (test ds) (ap (nat_eq c) f ∙ eq-eqb c c refl) (k ds (ap P g ∙ h))

exponent_has_front : (s more : List ℕ) → exponent_front (s ++ more) ≡ true → exponent_front s ≡ true
exponent_has_front [] more e = refl
exponent_has_front (c ∷ cs) more e = and_from (is_sign c || is_digit c) (every is_digit cs) (and_left (is_sign c || is_digit c) (every is_digit (cs ++ more)) e)
    (every_front is_digit cs more (and_right (is_sign c || is_digit c) (every is_digit (cs ++ more)) e))

number_has_front : (point : Bool) (s more : List ℕ) → number_front point (s ++ more) ≡ true → number_front point s ≡ true
number_has_front point [] more e = refl
number_has_front point (c ∷ cs) more e = by_digit (is_digit c) e (number_has_front point cs more) (number_has_front false cs more)
  where
    by_point : (p : Bool) → cond p (point && number_front false (cs ++ more)) (is_e c && exponent_front (cs ++ more)) ≡ true
        → (number_front false (cs ++ more) ≡ true → number_front false cs ≡ true) → cond p (point && number_front false cs) (is_e c && exponent_front cs) ≡ true
    by_point true f k = and_from point (number_front false cs) (and_left point (number_front false (cs ++ more)) f) (k (and_right point (number_front false (cs ++ more)) f))
    by_point false f k = and_from (is_e c) (exponent_front cs) (and_left (is_e c) (exponent_front (cs ++ more)) f) (exponent_has_front cs more (and_right (is_e c) (exponent_front (cs ++ more)) f))

    by_digit : (d : Bool) → cond d (number_front point (cs ++ more)) (cond (nat_eq c 46) (point && number_front false (cs ++ more)) (is_e c && exponent_front (cs ++ more))) ≡ true
        → (number_front point (cs ++ more) ≡ true → number_front point cs ≡ true) → (number_front false (cs ++ more) ≡ true → number_front false cs ≡ true)
        → cond d (number_front point cs) (cond (nat_eq c 46) (point && number_front false cs) (is_e c && exponent_front cs)) ≡ true
    by_digit true f k l = k f
    by_digit false f k l = by_point (nat_eq c 46) f l

-- ---- a number passes

digits_pass : (point : Bool) (ds rest : List ℕ) → every is_digit ds ≡ true → number_front point (ds ++ rest) ≡ number_front point rest
digits_pass point [] rest e = refl
digits_pass point (c ∷ cs) rest e = chosen (is_digit c) (and_left (is_digit c) (every is_digit cs) e) ∙ digits_pass point cs rest (and_right (is_digit c) (every is_digit cs) e)
  where
    chosen : (d : Bool) → d ≡ true → cond d (number_front point (cs ++ rest)) (cond (nat_eq c 46) (point && number_front false (cs ++ rest)) (is_e c && exponent_front (cs ++ rest))) ≡ number_front point (cs ++ rest)
    chosen true f = refl
    chosen false f = absurd (cc f)

-- `e` is neither a digit nor a point.
e_is_letter : (c : ℕ) → is_e c ≡ true → (c ≡ 101) ⊎ (c ≡ 69)
e_is_letter c e = elim (eqb_tells c 101) [
  | inl p ↦ inl (p.1)
  | inr p ↦ elim (eqb_tells c 69) [ inl q ↦ inr (q.1) | inr q ↦ absurd (cc (p.0, q.0, e)) ]
]

exponent_at : (c : ℕ) (rest : List ℕ) (point : Bool) → is_e c ≡ true → exponent_front rest ≡ true → number_front point (c ∷ rest) ≡ true
exponent_at c rest point e f = elim (e_is_letter c e) [ inl g ↦ subst (λ (x : ℕ). number_front point (x ∷ rest) ≡ true) (sym g) f | inr g ↦ subst (λ (x : ℕ). number_front point (x ∷ rest) ≡ true) (sym g) f ]

exponent_of_digits : (ds : List ℕ) → is_digits ds ≡ true → exponent_front ds ≡ true
exponent_of_digits [] e = refl
exponent_of_digits (c ∷ cs) e = and_from (is_sign c || is_digit c) (every is_digit cs) (or_right (is_sign c) (is_digit c) (and_left (is_digit c) (every is_digit cs) e)) (and_right (is_digit c) (every is_digit cs) e)

exponent_passes : (point : Bool) {text : List ℕ} {u d : ℕ} → Exponent text u d → number_front point text ≡ true
exponent_passes point (no_exponent e) = rw e refl
exponent_passes point (unsigned c ds e f h) = rw e (exponent_at c ds point f (exponent_of_digits ds h))
exponent_passes point (with_plus c ds e f h) = rw e (exponent_at c (43 ∷ ds) point f (digits_each ds h))
exponent_passes point (with_minus c ds e f h) = rw e (exponent_at c (45 ∷ ds) point f (digits_each ds h))

pub numeral_passes : (text : List ℕ) (r : Numeral) → IsNumeral text r → number_front true text ≡ true
numeral_passes text r h = rw h.parts (go h.mantissa h.exponent h.digits (λ p. exponent_passes p h.power))
  where
    go : (xs ys : List ℕ) {ds fs : List ℕ} → Mantissa xs ds fs → ((p : Bool) → number_front p ys ≡ true) → number_front true (xs ++ ys) ≡ true
    go xs ys (whole_alone {ds} e f) k = rw e (digits_pass true ds ys (digits_each ds f) ∙ k true)
    go xs ys (with_point {ds} {fs} e f h) k = rw (e, append_assoc) (digits_pass true ds (46 ∷ (fs ++ ys)) (digits_each ds f) ∙ digits_pass false fs ys h ∙ k false)
    go xs ys (point_first {fs} e f) k = rw e (digits_pass false fs ys (digits_each fs f) ∙ k false)

-- ---- a symbol passes

front_passes : (s more : List ℕ) → is_front s (s ++ more) ≡ true
front_passes [] more = refl
front_passes (c ∷ cs) more = and_from (nat_eq c c) (is_front cs (cs ++ more)) (eq-eqb c c refl) (front_passes cs more)

abbrev is_text_of_one : List Symbol → List ℕ → Bool
is_text_of_one [] t = false
is_text_of_one (y ∷ ys) t = bytes_eq (symbol_text y) t || is_text_of_one ys t

each_symbol : (y : Symbol) → is_text_of_one symbols (symbol_text y) ≡ true
each_symbol token.not_equal = refl
each_symbol _ = refl

one_passes : (ys : List Symbol) (s t : List ℕ) → is_text_of_one ys t ≡ true → is_front s t ≡ true → front_of_one ys s ≡ true
one_passes [] s t h e = absurd (cc h)
one_passes (y ∷ ys) s t h e = elim (or_cases (bytes_eq (symbol_text y) t) (is_text_of_one ys t) h) [
  | inl k ↦ or_left (is_front s (symbol_text y)) (front_of_one ys s) (ap (is_front s) ((bytes_eq-Decides (symbol_text y) t).0 k) ∙ e)
  | inr k ↦ or_right (is_front s (symbol_text y)) (front_of_one ys s) (one_passes ys s t k e)
]

pub word_passes : (s more : List ℕ) → Lexeme (s ++ more) → may_begin s ≡ true
word_passes s more (name_form e) = or_left (name_front s) _ (name_has_front s more e)
word_passes s more (field_form n e f) = or_right (name_front s) _ (or_left (after 46 name_front s) _
    (after_has_front 46 name_front is_name s more n e f (λ t h. name_has_front t more h)))
word_passes s more (variable_form n e f) = or_right (name_front s) _ (or_right (after 46 name_front s) _ (or_left (after 36 name_front s) _
    (after_has_front 36 name_front is_name s more n e f (λ t h. name_has_front t more h))))
word_passes s more (format_form n e f) = or_right (name_front s) _ (or_right (after 46 name_front s) _ (or_right (after 36 name_front s) _ (or_left (after 64 (every is_name_character) s) _
    (after_has_front 64 (every is_name_character) is_format_name s more n e f (λ t h. every_front is_name_character t more (format_name_is (t ++ more) h))))))
word_passes s more (number_form r h) = or_right (name_front s) _ (or_right (after 46 name_front s) _ (or_right (after 36 name_front s) _ (or_right (after 64 (every is_name_character) s) _
    (or_left (number_front true s) _ (number_has_front true s more (numeral_passes (s ++ more) r h))))))
word_passes s more (symbol_form y e) = or_right (name_front s) _ (or_right (after 46 name_front s) _ (or_right (after 36 name_front s) _ (or_right (after 64 (every is_name_character) s) _
    (or_right (number_front true s) _ (one_passes symbols s (symbol_text y) (each_symbol y) (ap (is_front s) (sym e) ∙ front_passes s more))))))

-- A word is the longest if the text ends after it, or if with the next character it is no prefix of a word.
pub longest_at_end : (w : List ℕ) → Lexeme w → Longest w w []
longest_at_end w h = record { front = sym (append-nil w); is_word = h; no_longer = λ more after e f. nothing_left more after e }
  where
    nothing_left : (more after : List ℕ) → [] ≡ more ++ after → more ≡ []
    nothing_left [] after e = refl
    nothing_left (x ∷ xs) after e = absurd (cc e)

pub longest_before : (w : List ℕ) (c : ℕ) (rest : List ℕ) → Lexeme w → may_begin (w ++ c ∷ []) ≡ false → Longest (w ++ c ∷ rest) w (c ∷ rest)
longest_before w c rest h k = record { front = refl; is_word = h; no_longer = λ more after e f. none more after e f }
  where
    none : (more after : List ℕ) → c ∷ rest ≡ more ++ after → Lexeme (w ++ more) → more ≡ []
    none [] after e f = refl
    none (x ∷ xs) after e f =
        let same : x ≡ c = cc in
        let g : Lexeme ((w ++ c ∷ []) ++ xs) = rw append_assoc (subst (λ (d : ℕ). Lexeme (w ++ d ∷ xs)) same f) in
        let t : true ≡ false = sym (word_passes (w ++ c ∷ []) xs g) ∙ k in absurd (cc t)
