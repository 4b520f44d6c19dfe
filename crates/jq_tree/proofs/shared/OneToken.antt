-- A word spells one token.
use Rattle.std.proofs.Common.{◌≡◌, ℕ, List, [], ◌∷◌, Bool, true, false, nat_eq, refl, sym, ap, ◌∙◌, inl, inr, ◌||◌}
use Rattle.std.specs.Prelude.{if◌then◌else◌, bytes_eq}
use Rattle.jq_tree.specs.Token.{Keyword, Symbol, Token, keyword_text, symbol_text, keyword, name, field, variable, format, number, symbol}
use Rattle.jq_tree.specs.Token as token
use Rattle.jq_tree.specs.Words.{keywords, is_keyword, Spells, spells_keyword, spells_name, spells_field, spells_variable, spells_format, spells_number, spells_symbol, Longest}
use Rattle.jq_tree.specs.Lexing.{IsParenthesis}
use Rattle.jq_tree.specs.laws.Lexed.{symbols}
use Rattle.jq_tree.proofs.shared.Missing.{no_word}
use Rattle.jq_tree.proofs.shared.OneNumber.{tail_of, clash, one_value, first_one}
use Rattle.jq_tree.proofs.shared.Tags.{tag, symbol_tag, name_tag, field_tag, keyword_is_name, number_tag}

-- ---- the kind of a token

abbrev pub token_tag : Token → ℕ
token_tag (keyword k) = 1
token_tag (name n) = 1
token_tag (field n) = 2
token_tag (variable n) = 3
token_tag (format n) = 4
token_tag (number n) = 5
token_tag (symbol y) = 6
token_tag t = 0

pub spells_tag : {text : List ℕ} {t : Token} → Spells text t → tag text ≡ token_tag t
spells_tag (spells_keyword k e) = ap tag e ∙ name_tag (keyword_text k) (keyword_is_name k)
spells_tag {text} (spells_name e f) = name_tag text e
spells_tag (spells_field n e f) = ap tag e ∙ field_tag n f
spells_tag (spells_variable n e f) = ap tag e
spells_tag (spells_format n e f) = ap tag e
spells_tag {text} (spells_number r n h v) = number_tag text r h
spells_tag (spells_symbol y e) = ap tag e ∙ symbol_tag y

-- ---- keywords and symbols by their texts

abbrev keyword_in : List Keyword → List ℕ → Keyword
keyword_in [] s = token.Def
keyword_in (k ∷ ks) s = if bytes_eq (keyword_text k) s then k else keyword_in ks s

keyword_is : (k : Keyword) → keyword_in keywords (keyword_text k) ≡ k
keyword_is token.Def = refl
keyword_is _ = refl

is_a_keyword : (k : Keyword) → is_keyword (keyword_text k) ≡ true
is_a_keyword token.Def = refl
is_a_keyword _ = refl

abbrev symbol_in : List Symbol → List ℕ → Symbol
symbol_in [] s = token.dot
symbol_in (y ∷ ys) s = if bytes_eq (symbol_text y) s then y else symbol_in ys s

symbol_is : (y : Symbol) → symbol_in symbols (symbol_text y) ≡ y
symbol_is token.not_equal = refl
symbol_is _ = refl

no_keyword_name : {text : List ℕ} (k : Keyword) → text ≡ keyword_text k → is_keyword text ≡ false → ⊥
no_keyword_name k e f = let h : true ≡ false = sym (is_a_keyword k) ∙ ap is_keyword (sym e) ∙ f in cc h

pub one_token : {text : List ℕ} {t u : Token} → Spells text t → Spells text u → t ≡ u
one_token (spells_keyword k e) (spells_keyword l f) = ap keyword (sym (keyword_is k) ∙ ap (keyword_in keywords) (sym e ∙ f) ∙ keyword_is l)
one_token (spells_keyword k e) (spells_name f g) = absurd (no_keyword_name k e g)
one_token (spells_name e f) (spells_keyword k g) = absurd (no_keyword_name k g f)
one_token (spells_name e f) (spells_name g h) = refl
one_token (spells_field n e f) (spells_field m g h) = ap field (ap tail_of (sym e ∙ g))
one_token (spells_variable n e f) (spells_variable m g h) = ap variable (ap tail_of (sym e ∙ g))
one_token (spells_format n e f) (spells_format m g h) = ap format (ap tail_of (sym e ∙ g))
one_token (spells_number r m h v) (spells_number q n k w) = ap number (one_value h k v w)
one_token (spells_symbol y e) (spells_symbol z f) = ap symbol (sym (symbol_is y) ∙ ap (symbol_in symbols) (sym e ∙ f) ∙ symbol_is z)
one_token h k = absurd (clash (spells_tag h) (spells_tag k) refl)

-- ---- parentheses are words of their own

abbrev starts_parenthesis : List ℕ → Bool
starts_parenthesis [] = false
starts_parenthesis (c ∷ cs) = nat_eq c 40 || nat_eq c 41

parenthesis_symbol : (y : Symbol) → starts_parenthesis (symbol_text y) ≡ true → IsParenthesis (symbol y)
parenthesis_symbol token.left_parenthesis e = inl refl
parenthesis_symbol token.right_parenthesis e = inr refl
parenthesis_symbol _ e = absurd (cc e)

by_kind : {w : List ℕ} {t : Token} → Spells w t → tag w ≡ 6 → starts_parenthesis w ≡ true → IsParenthesis t
by_kind (spells_symbol y e) f g = parenthesis_symbol y (ap starts_parenthesis (sym e) ∙ g)
by_kind s f g = absurd (clash (spells_tag s) f refl)

-- A token whose word begins with a parenthesis is a parenthesis.
parenthesis_word : (c : ℕ) (text w rest : List ℕ) {t : Token} → ((cs : List ℕ) → tag (c ∷ cs) ≡ 6) → ((cs : List ℕ) → starts_parenthesis (c ∷ cs) ≡ true)
    → Longest (c ∷ text) w rest → Spells w t → IsParenthesis t
parenthesis_word c text [] rest six parenthesis h s = absurd (no_word h.is_word)
parenthesis_word c text (x ∷ xs) rest six parenthesis h s = let e : c ≡ x = ap first_one h.front in
    by_kind s (ap (λ (y : ℕ). tag (y ∷ xs)) (sym e) ∙ six xs) (ap (λ (y : ℕ). starts_parenthesis (y ∷ xs)) (sym e) ∙ parenthesis xs)

pub open_word : (text w rest : List ℕ) {t : Token} → Longest (40 ∷ text) w rest → Spells w t → IsParenthesis t
open_word text w rest h s = parenthesis_word 40 text w rest (λ cs. refl) (λ cs. refl) h s

pub close_word : (text w rest : List ℕ) {t : Token} → Longest (41 ∷ text) w rest → Spells w t → IsParenthesis t
close_word text w rest h s = parenthesis_word 41 text w rest (λ cs. refl) (λ cs. refl) h s
