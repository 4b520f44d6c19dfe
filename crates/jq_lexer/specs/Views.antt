-- The tokens of the code as tokens of the definitions.
use Rattle.std.specs.Prelude.{ℕ, List}
use Rattle.jv_data.specs.Text.{text_of}
use Rattle.jq_tree.specs.Token as token
use Rattle.jq_tree.specs.Lexing as lexing
use Rattle.jq_lexer.specs.declared.faults.LexFault.{LexFault}
use Rattle.jq_lexer.specs.declared.faults.LexFault.TheVariants.{BadToken, NoMemory}
use Rattle.jq_lexer.specs.declared.tokens.Keyword.{Keyword}
use Rattle.jq_lexer.specs.declared.tokens.Keyword.TheVariants as keyword
use Rattle.jq_lexer.specs.declared.tokens.Symbol.{Symbol}
use Rattle.jq_lexer.specs.declared.tokens.Symbol.TheVariants as symbol
use Rattle.jq_lexer.specs.declared.tokens.Token.{Token}
use Rattle.jq_lexer.specs.declared.tokens.Token.TheVariants as tokens

abbrev pub keyword_of : Keyword → token.Keyword
keyword_of keyword.Def = token.Def
keyword_of keyword.If = token.If
keyword_of keyword.Then = token.Then
keyword_of keyword.Elif = token.Elif
keyword_of keyword.Else = token.Else
keyword_of keyword.End = token.End
keyword_of keyword.As = token.As
keyword_of keyword.Reduce = token.Reduce
keyword_of keyword.Foreach = token.Foreach
keyword_of keyword.Try = token.Try
keyword_of keyword.Catch = token.Catch
keyword_of keyword.Label = token.Label
keyword_of keyword.Break = token.Break
keyword_of keyword.Import = token.Import
keyword_of keyword.Include = token.Include
keyword_of keyword.Module = token.Module
keyword_of keyword.And = token.And
keyword_of keyword.Or = token.Or
keyword_of keyword.Location = token.Location

abbrev pub symbol_of : Symbol → token.Symbol
symbol_of symbol.NotEqual = token.not_equal
symbol_of symbol.Equal = token.equal
symbol_of symbol.LessOrEqual = token.less_or_equal
symbol_of symbol.GreaterOrEqual = token.greater_or_equal
symbol_of symbol.Less = token.less
symbol_of symbol.Greater = token.greater
symbol_of symbol.AlternativeAssign = token.alternative_assign
symbol_of symbol.Alternative = token.alternative
symbol_of symbol.ModifyAssign = token.modify_assign
symbol_of symbol.PlusAssign = token.plus_assign
symbol_of symbol.MinusAssign = token.minus_assign
symbol_of symbol.TimesAssign = token.times_assign
symbol_of symbol.DividedAssign = token.divided_assign
symbol_of symbol.ModuloAssign = token.modulo_assign
symbol_of symbol.Assign = token.assign
symbol_of symbol.TwoDots = token.two_dots
symbol_of symbol.Dot = token.dot
symbol_of symbol.LeftBracket = token.left_bracket
symbol_of symbol.RightBracket = token.right_bracket
symbol_of symbol.LeftParenthesis = token.left_parenthesis
symbol_of symbol.RightParenthesis = token.right_parenthesis
symbol_of symbol.LeftBrace = token.left_brace
symbol_of symbol.RightBrace = token.right_brace
symbol_of symbol.Bar = token.bar
symbol_of symbol.Comma = token.comma
symbol_of symbol.Colon = token.colon
symbol_of symbol.Semicolon = token.semicolon
symbol_of symbol.Plus = token.plus
symbol_of symbol.Minus = token.minus
symbol_of symbol.Times = token.times
symbol_of symbol.Divided = token.divided
symbol_of symbol.Modulo = token.modulo
symbol_of symbol.Question = token.question

abbrev pub token_of : Token → token.Token
token_of (tokens.Keyword k) = token.keyword (keyword_of k)
token_of (tokens.Name s) = token.name (text_of s)
token_of (tokens.Field s) = token.field (text_of s)
token_of (tokens.Variable s) = token.variable (text_of s)
token_of (tokens.Format s) = token.format (text_of s)
token_of (tokens.Number n) = token.number n.value
token_of (tokens.Piece s) = token.piece (text_of s)
token_of tokens.Interpolation = token.interpolation
token_of (tokens.Symbol y) = token.symbol (symbol_of y)

-- Why the text with these code points has no tokens. (Memory may run out for any text.)
abbrev pub HasFault : List ℕ → LexFault → Type 0
HasFault text (BadToken at) = lexing.BadToken text at
HasFault text NoMemory = Unit {0}
