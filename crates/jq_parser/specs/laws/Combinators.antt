-- Parsers of tokens from left to right: what was read, with the tokens after it.
use Rattle.std.specs.Prelude.{ℕ, zero, suc, List, [], ◌∷◌, Option, Some, None, Bool, true, false, ◌==◌, if◌then◌else◌}
use Rattle.jq_tree.specs.Tree.{Name}
use Rattle.jq_tree.specs.Token.{Symbol, Token, name, symbol}
use Rattle.jq_tree.specs.Token as token

abbrev pub first : List Token → Option Token
first [] = None
first (t ∷ ts) = Some t

abbrev pub tail : List Token → List Token
tail [] = []
tail (t ∷ ts) = ts

abbrev pub Outcome : Type 0 → Type 0
Outcome A = Option (A × List Token)

abbrev pub Parser : Type 0 → Type 0
Parser A = List Token → Outcome A

unfoldable pub and_then : {A B : Type 0} → Outcome A → (A → Parser B) → Outcome B
and_then (Some p) f = f p.0 p.1
and_then None f = None

infixl 10 ◌>>=◌
abbrev pub ◌>>=◌ : {A B : Type 0} → Parser A → (A → Parser B) → Parser B
p >>= f = λ i. and_then (p i) f

infixl 10 ◌>>◌
abbrev pub ◌>>◌ : {A B : Type 0} → Parser A → Parser B → Parser B
p >> q = p >>= (λ _. q)

abbrev pub pure : {A : Type 0} → A → Parser A
pure a = λ i. Some (a, i)

abbrev pub refuse : {A : Type 0} → Parser A
refuse = λ i. None

abbrev pub skip : Parser (Unit {0})
skip = λ i. Some (tt, tail i)

-- ---- tokens

-- Different symbols have different numbers.
abbrev pub symbol_number : Symbol → ℕ
symbol_number token.not_equal = 0
symbol_number token.equal = 1
symbol_number token.less_or_equal = 2
symbol_number token.greater_or_equal = 3
symbol_number token.less = 4
symbol_number token.greater = 5
symbol_number token.alternative_assign = 6
symbol_number token.alternative = 7
symbol_number token.modify_assign = 8
symbol_number token.plus_assign = 9
symbol_number token.minus_assign = 10
symbol_number token.times_assign = 11
symbol_number token.divided_assign = 12
symbol_number token.modulo_assign = 13
symbol_number token.assign = 14
symbol_number token.two_dots = 15
symbol_number token.dot = 16
symbol_number token.left_bracket = 17
symbol_number token.right_bracket = 18
symbol_number token.left_parenthesis = 19
symbol_number token.right_parenthesis = 20
symbol_number token.left_brace = 21
symbol_number token.right_brace = 22
symbol_number token.bar = 23
symbol_number token.comma = 24
symbol_number token.colon = 25
symbol_number token.semicolon = 26
symbol_number token.plus = 27
symbol_number token.minus = 28
symbol_number token.times = 29
symbol_number token.divided = 30
symbol_number token.modulo = 31
symbol_number token.question = 32

abbrev pub is_symbol : Symbol → Option Token → Bool
is_symbol s (Some (symbol t)) = symbol_number t == symbol_number s
is_symbol s _ = false

unfoldable pub expect : Symbol → Parser (Unit {0})
expect s = λ i. (if is_symbol s (first i) then skip else refuse) i

unfoldable pub any_name_on : Option Token → Parser Name
any_name_on (Some (name n)) = skip >> pure n
any_name_on _ = refuse

unfoldable pub any_name : Parser Name
any_name = λ i. any_name_on (first i) i

-- ---- lists with a symbol between their items

unfoldable pub next_item : {A B : Type 0} → (A → B) → (A → B → B) → A → Parser B → Bool → Parser B
next_item one more a go true = do
  skip
  b ← go
  pure (more a b)
next_item one more a go false = pure (one a)

-- in at most that many turns
unfoldable pub separated : {A B : Type 0} → Symbol → (A → B) → (A → B → B) → Parser A → ℕ → Parser B
separated s one more q zero = refuse
separated s one more q (suc turns) = do
  a ← q
  λ i. next_item one more a (separated s one more q turns) (is_symbol s (first i)) i
