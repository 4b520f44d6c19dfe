-- The form of a word by its kind.
use Rattle.std.proofs.Common.{◌≡◌, ◌∙◌, ℕ, List, ◌∷◌, true, refl, ap}
use Rattle.jq_tree.specs.Tree.{Name}
use Rattle.jq_tree.specs.Token.{Token}
use Rattle.jq_tree.specs.Words.{is_name, is_format_name, Numeral, IsNumeral, IsValue, Lexeme, name_form, field_form, variable_form, format_form, number_form, symbol_form, Spells, spells_number}
use Rattle.jq_tree.proofs.shared.OneNumber.{clash}
use Rattle.jq_tree.proofs.shared.Tags.{tag, symbol_tag, name_tag, field_tag, number_tag}
use Rattle.jq_tree.proofs.shared.OneToken.{spells_tag}

-- ---- the kind of each form

abbrev kind_of : {text : List ℕ} → Lexeme text → ℕ
kind_of (name_form e) = 1
kind_of (field_form n e f) = 2
kind_of (variable_form n e f) = 3
kind_of (format_form n e f) = 4
kind_of (number_form r h) = 5
kind_of (symbol_form y e) = 6

lexeme_tag : {text : List ℕ} (h : Lexeme text) → tag text ≡ kind_of h
lexeme_tag {text} (name_form e) = name_tag text e
lexeme_tag (field_form n e f) = ap tag e ∙ field_tag n f
lexeme_tag (variable_form n e f) = ap tag e
lexeme_tag (format_form n e f) = ap tag e
lexeme_tag {text} (number_form r h) = number_tag text r h
lexeme_tag (symbol_form y e) = ap tag e ∙ symbol_tag y

-- ---- the form of each kind

pub only_name : {text : List ℕ} → Lexeme text → tag text ≡ 1 → is_name text ≡ true
only_name (name_form e) t = e
only_name h t = absurd (clash (lexeme_tag h) t refl)

pub only_field : {text : List ℕ} → Lexeme text → tag text ≡ 2 → (n : Name) × (text ≡ 46 ∷ n) × (is_name n ≡ true)
only_field (field_form n e f) t = (n, e, f)
only_field h t = absurd (clash (lexeme_tag h) t refl)

pub only_variable : {text : List ℕ} → Lexeme text → tag text ≡ 3 → (n : Name) × (text ≡ 36 ∷ n) × (is_name n ≡ true)
only_variable (variable_form n e f) t = (n, e, f)
only_variable h t = absurd (clash (lexeme_tag h) t refl)

pub only_format : {text : List ℕ} → Lexeme text → tag text ≡ 4 → (n : Name) × (text ≡ 64 ∷ n) × (is_format_name n ≡ true)
only_format (format_form n e f) t = (n, e, f)
only_format h t = absurd (clash (lexeme_tag h) t refl)

pub only_number : {text : List ℕ} → Lexeme text → tag text ≡ 5 → (r : Numeral) × IsNumeral text r
only_number (number_form r h) t = (r, h)
only_number h t = absurd (clash (lexeme_tag h) t refl)

-- ---- spelling

-- A numeral without a value spells no token.
pub unspelt : (w : List ℕ) (r : Numeral) → IsNumeral w r → ((q : Numeral) (n : ℕ) → IsNumeral w q → ¬ IsValue q n) → (t : Token) → ¬ Spells w t
unspelt w r i none t (spells_number q n h v) = none q n h v
unspelt w r i none t h = clash (number_tag w r i) (spells_tag h) refl
