-- The tokens of a filter.
use Rattle.std.specs.Prelude.{ℕ, suc, ◌+◌, ◌<◌, List, [], ◌∷◌, length, take, codes}
use Rattle.jq_tree.specs.Tree.{Name}

-- The reserved words.
pub data Keyword : Type 0 where
  Def : Keyword
  If : Keyword
  Then : Keyword
  Elif : Keyword
  Else : Keyword
  End : Keyword
  As : Keyword
  Reduce : Keyword
  Foreach : Keyword
  Try : Keyword
  Catch : Keyword
  Label : Keyword
  Break : Keyword
  Import : Keyword
  Include : Keyword
  Module : Keyword
  And : Keyword
  Or : Keyword
  Location : Keyword

abbrev pub keyword_text : Keyword → List ℕ
keyword_text Def = codes "def"
keyword_text If = codes "if"
keyword_text Then = codes "then"
keyword_text Elif = codes "elif"
keyword_text Else = codes "else"
keyword_text End = codes "end"
keyword_text As = codes "as"
keyword_text Reduce = codes "reduce"
keyword_text Foreach = codes "foreach"
keyword_text Try = codes "try"
keyword_text Catch = codes "catch"
keyword_text Label = codes "label"
keyword_text Break = codes "break"
keyword_text Import = codes "import"
keyword_text Include = codes "include"
keyword_text Module = codes "module"
keyword_text And = codes "and"
keyword_text Or = codes "or"
keyword_text Location = codes "__loc__"

-- The other words with a fixed spelling.
pub data Symbol : Type 0 where
  not_equal : Symbol
  equal : Symbol
  less_or_equal : Symbol
  greater_or_equal : Symbol
  less : Symbol
  greater : Symbol
  alternative_assign : Symbol
  alternative : Symbol
  modify_assign : Symbol
  plus_assign : Symbol
  minus_assign : Symbol
  times_assign : Symbol
  divided_assign : Symbol
  modulo_assign : Symbol
  assign : Symbol
  two_dots : Symbol
  dot : Symbol
  left_bracket : Symbol
  right_bracket : Symbol
  left_parenthesis : Symbol
  right_parenthesis : Symbol
  left_brace : Symbol
  right_brace : Symbol
  bar : Symbol
  comma : Symbol
  colon : Symbol
  semicolon : Symbol
  plus : Symbol
  minus : Symbol
  times : Symbol
  divided : Symbol
  modulo : Symbol
  question : Symbol

abbrev pub symbol_text : Symbol → List ℕ
symbol_text not_equal = codes "!="
symbol_text equal = codes "=="
symbol_text less_or_equal = codes "<="
symbol_text greater_or_equal = codes ">="
symbol_text less = codes "<"
symbol_text greater = codes ">"
symbol_text alternative_assign = codes "//="
symbol_text alternative = codes "//"
symbol_text modify_assign = codes "|="
symbol_text plus_assign = codes "+="
symbol_text minus_assign = codes "-="
symbol_text times_assign = codes "*="
symbol_text divided_assign = codes "/="
symbol_text modulo_assign = codes "%="
symbol_text assign = codes "="
symbol_text two_dots = codes ".."
symbol_text dot = codes "."
symbol_text left_bracket = codes "["
symbol_text right_bracket = codes "]"
symbol_text left_parenthesis = codes "("
symbol_text right_parenthesis = codes ")"
symbol_text left_brace = codes "{"
symbol_text right_brace = codes "}"
symbol_text bar = codes "|"
symbol_text comma = codes ","
symbol_text colon = codes ":"
symbol_text semicolon = codes ";"
symbol_text plus = codes "+"
symbol_text minus = codes "-"
symbol_text times = codes "*"
symbol_text divided = codes "/"
symbol_text modulo = codes "%"
symbol_text question = codes "?"

-- A token. A string with n interpolations is n + 1 pieces; between two pieces come `interpolation`, the tokens of a filter
-- and `)`.
pub data Token : Type 0 where
  keyword : Keyword → Token
  name : Name → Token  -- a name that is not reserved
  field : Name → Token  -- .a
  variable : Name → Token  -- $a
  format : Name → Token  -- @a
  number : ℕ → Token  -- its value: a sign is a token of its own
  piece : List ℕ → Token  -- the characters that it represents
  interpolation : Token  -- \( in a string
  symbol : Symbol → Token

-- ---- the limits of a filter

abbrev pub opening_brackets : List Token → ℕ
opening_brackets [] = 0
opening_brackets (symbol left_parenthesis ∷ ts) = suc (opening_brackets ts)
opening_brackets (symbol left_bracket ∷ ts) = suc (opening_brackets ts)
opening_brackets (symbol left_brace ∷ ts) = suc (opening_brackets ts)
opening_brackets (interpolation ∷ ts) = suc (opening_brackets ts)
opening_brackets (t ∷ ts) = opening_brackets ts

abbrev pub closing_brackets : List Token → ℕ
closing_brackets [] = 0
closing_brackets (symbol right_parenthesis ∷ ts) = suc (closing_brackets ts)
closing_brackets (symbol right_bracket ∷ ts) = suc (closing_brackets ts)
closing_brackets (symbol right_brace ∷ ts) = suc (closing_brackets ts)
closing_brackets (t ∷ ts) = closing_brackets ts

-- More than 8,192 tokens.
abbrev pub TooManyTokens : List Token → Type 0
TooManyTokens ts = 8192 < length ts

-- Somewhere more than 256 brackets of any kind are open.
abbrev pub TooNested : List Token → Type 0
TooNested ts = (n : ℕ) × (closing_brackets (take n ts) + 256 < opening_brackets (take n ts))
