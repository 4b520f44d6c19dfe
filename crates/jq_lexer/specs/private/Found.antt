-- Words at the start of a text. For private contracts.
use Rattle.std.specs.Prelude.{◌≡◌, ◌≢◌, ℕ, ◌≤◌, List, [], ◌∷◌, ◌++◌, true, length, take, drop, nat_eq, bytes_eq, Option, Some, None, if◌then◌else◌}
use Rattle.std.specs.List.{starts_with}
use Rattle.jq_tree.specs.Tree.{Name}
use Rattle.jq_tree.specs.Token as token
use Rattle.jq_tree.specs.Words.{is_name, is_format_name, Numeral, IsNumeral, Lexeme, Spells, Longest}
use Rattle.jq_lexer.specs.Views.{keyword_of, symbol_of, token_of}
use Rattle.jq_lexer.specs.declared.tokens.Keyword.{Keyword}
use Rattle.jq_lexer.specs.declared.tokens.Symbol.{Symbol}
use Rattle.jq_lexer.specs.declared.tokens.Token.{Token}
use Rattle.jq_lexer.specs.declared.words.Shape.{Shape}
use Rattle.jq_lexer.specs.declared.words.Shape.TheVariants as shape
use Rattle.jq_lexer.specs.declared.words.Word.{Word}

abbrev pub HasForm : Shape → List ℕ → Type 0
HasForm shape.Name w = is_name w ≡ true
HasForm shape.Field w = (n : Name) × (w ≡ 46 ∷ n) × (is_name n ≡ true)
HasForm shape.Variable w = (n : Name) × (w ≡ 36 ∷ n) × (is_name n ≡ true)
HasForm shape.Format w = (n : Name) × (w ≡ 64 ∷ n) × (is_format_name n ≡ true)
HasForm shape.Number w = (r : Numeral) × IsNumeral w r
HasForm (shape.Symbol y) w = w ≡ token.symbol_text (symbol_of y)

-- The longest word at the start of the text has n characters and this form.
pub record IsWordAt (text : List ℕ) (s : Shape) (n : ℕ) : Type 0 where
  pub within : n ≤ length text
  pub longest : Longest text (take n text) (drop n text)
  pub form : HasForm s (take n text)

abbrev pub NoWordAt : List ℕ → Type 0
NoWordAt text = (w rest : List ℕ) → text ≡ w ++ rest → ¬ Lexeme w

abbrev pub IsFirstWord : List ℕ → Option Word → Type 0
IsFirstWord text None = NoWordAt text
IsFirstWord text (Some w) = IsWordAt text w.shape w.length

-- Each word at the start of the text is a symbol.
abbrev pub OnlySymbols : List ℕ → Type 0
OnlySymbols text = (w rest : List ℕ) → text ≡ w ++ rest → Lexeme w → (y : token.Symbol) × (w ≡ token.symbol_text y)

-- The text does not begin with a point, `$` or `@`.
abbrev pub IsPlainStart : List ℕ → Type 0
IsPlainStart [] = Unit {0}
IsPlainStart (c ∷ cs) = (c ≢ 46) × (c ≢ 36) × (c ≢ 64)

-- The first of these symbols that the text begins with.
abbrev pub first_symbol_in : List ℕ → List Symbol → Option Symbol
first_symbol_in text [] = None
first_symbol_in text (y ∷ ys) = if starts_with nat_eq text (token.symbol_text (symbol_of y)) then Some y else first_symbol_in text ys

-- The first of these keywords with this spelling.
abbrev pub keyword_in : List ℕ → List Keyword → Option Keyword
keyword_in text [] = None
keyword_in text (k ∷ ks) = if bytes_eq (token.keyword_text (keyword_of k)) text then Some k else keyword_in text ks

-- The token that the word spells, if any.
abbrev pub Stands : List ℕ → Option Token → Type 0
Stands w None = (t : token.Token) → ¬ Spells w t
Stands w (Some t) = Spells w (token_of t)
