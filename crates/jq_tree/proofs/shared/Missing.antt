-- Positions where no token begins, and the end of a text.
use Rattle.std.proofs.Common.{◌≡◌, ℕ, List, [], ◌∷◌, ◌++◌, true, false, refl, sym, ap, ◌∙◌}
use Rattle.jq_tree.specs.Token.{Symbol, Token, symbol_text}
use Rattle.jq_tree.specs.Token as token
use Rattle.jq_tree.specs.Words.{Mantissa, whole_alone, with_point, point_first, is_digits, Lexeme, name_form, field_form, variable_form, format_form, number_form, symbol_form, Longest}
use Rattle.jq_tree.specs.Lexing.{Parenthesis, Spot, Next, word, opens, closes, closes_in_string, closes_nothing, quote}
use Rattle.jq_tree.specs.laws.Lexed.{may_begin}
use Rattle.jq_tree.proofs.shared.Fronts.{word_passes}

-- ---- no word is empty

no_symbol : (y : Symbol) → [] ≡ symbol_text y → ⊥
no_symbol token.not_equal e = cc e
no_symbol _ e = cc e

no_mantissa : (xs ys : List ℕ) {ds fs : List ℕ} → [] ≡ xs ++ ys → Mantissa xs ds fs → ⊥
no_mantissa (x ∷ xs) ys e m = cc e
no_mantissa [] ys e (whole_alone {ds} f h) = let g : false ≡ true = ap is_digits f ∙ h in cc g
no_mantissa [] ys e (with_point {ds = []} f h k) = cc f
no_mantissa [] ys e (with_point {ds = d ∷ ds} f h k) = cc f
no_mantissa [] ys e (point_first f h) = cc f

pub no_word : Lexeme [] → ⊥
no_word (name_form e) = cc e
no_word (field_form n e f) = cc e
no_word (variable_form n e f) = cc e
no_word (format_form n e f) = cc e
no_word (number_form r h) = no_mantissa h.mantissa h.exponent h.parts h.digits
no_word (symbol_form y e) = no_symbol y e

-- ---- no word, no token

pub no_longest : (c : ℕ) (text w rest : List ℕ) → may_begin (c ∷ []) ≡ false → Longest (c ∷ text) w rest → ⊥
no_longest c text [] rest k h = no_word h.is_word
no_longest c text (x ∷ xs) rest k h = let same : c ≡ x = cc (h.front) in
    let t : true ≡ false = sym (word_passes (x ∷ []) xs h.is_word) ∙ ap (λ (d : ℕ). may_begin (d ∷ [])) (sym same) ∙ k in cc t

-- No token begins with this character.
pub no_next : (opened : List Parenthesis) (c : ℕ) (text : List ℕ) → may_begin (c ∷ []) ≡ false → (c ≡ 34 → ⊥) → (c ≡ 40 → ⊥) → (c ≡ 41 → ⊥)
    → (ts : List Token) (spot : Spot) (rest : List ℕ) → ¬ Next opened (c ∷ text) ts spot rest
no_next opened c text k q l r ts spot rest (word w h s n) = no_longest c text w rest k h
no_next opened c text k q l r ts spot rest opens = l refl
no_next opened c text k q l r ts spot rest closes = r refl
no_next opened c text k q l r ts spot rest closes_in_string = r refl
no_next opened c text k q l r ts spot rest closes_nothing = r refl
no_next opened c text k q l r ts spot rest (quote p) = q refl

-- Nor does one at the end.
pub no_next_at_end : {opened : List Parenthesis} {text rest : List ℕ} {ts : List Token} {spot : Spot} → text ≡ [] → Next opened text ts spot rest → ⊥
no_next_at_end e (word [] h s n) = no_word h.is_word
no_next_at_end e (word (c ∷ cs) h s n) = let f : [] ≡ (c ∷ cs) ++ _ = sym e ∙ h.front in cc f
no_next_at_end e opens = cc e
no_next_at_end e closes = cc e
no_next_at_end e closes_in_string = cc e
no_next_at_end e closes_nothing = cc e
no_next_at_end e (quote p) = cc e
