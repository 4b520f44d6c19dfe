-- What may begin a phrase, and what may follow it.
use Rattle.std.proofs.Common.{◌≡◌, ℕ, suc, ◌+◌, ◌<◌, ◌≤◌, List, [], ◌∷◌, Bool, true, false, refl, ap, sym, ◌∙◌, arith, ne_eqb, get_or}
use Rattle.jq_tree.specs.Token.{Keyword, Symbol, Token, keyword, field, piece, interpolation, symbol}
use Rattle.jq_tree.specs.Token as token
use Rattle.jq_tree.specs.Grammar.{level_of, symbol_level}
use Rattle.jq_tree.specs.laws.Lexed.{symbols}
use Rattle.jq_parser.specs.laws.Combinators.{first, symbol_number, is_symbol}
use Rattle.jq_parser.specs.laws.Forms.{begins_post, is_as}

abbrev pub symbol_follow : Symbol → ℕ
symbol_follow token.left_parenthesis = 0
symbol_follow token.question = 1
symbol_follow token.dot = 1
symbol_follow token.left_bracket = 1
symbol_follow token.bar = 10
symbol_follow token.comma = 11
symbol_follow token.semicolon = 12
symbol_follow token.two_dots = 13
symbol_follow token.right_bracket = 13
symbol_follow token.right_parenthesis = 13
symbol_follow token.left_brace = 13
symbol_follow token.right_brace = 13
symbol_follow token.colon = 13
symbol_follow s = 2 + symbol_level s

abbrev pub keyword_follow : Keyword → ℕ
keyword_follow token.Catch = 2
keyword_follow token.As = 2
keyword_follow token.And = 6
keyword_follow token.Or = 7
keyword_follow k = 13

unfoldable pub follow : List Token → ℕ
follow [] = 13
follow (symbol s ∷ ts) = symbol_follow s
follow (keyword k ∷ ts) = keyword_follow k
follow (field n ∷ ts) = 1
follow (piece s ∷ ts) = 0
follow (interpolation ∷ ts) = 0
follow (t ∷ ts) = 13

-- Whether the next token is a colon.
abbrev pub colon_next : List Token → Bool
colon_next ts = is_symbol token.colon (first ts)

-- ---- what a token begins: 0 no filter, 1 a definition or a label, 2 a unary operator, 3 a postfix form

abbrev pub symbol_kind : Symbol → ℕ
symbol_kind token.minus = 2
symbol_kind token.dot = 3
symbol_kind token.two_dots = 3
symbol_kind token.left_parenthesis = 3
symbol_kind token.left_bracket = 3
symbol_kind token.left_brace = 3
symbol_kind s = 0

abbrev pub keyword_kind : Keyword → ℕ
keyword_kind token.Def = 1
keyword_kind token.Label = 1
keyword_kind token.Try = 2
keyword_kind token.Break = 3
keyword_kind token.Reduce = 3
keyword_kind token.Foreach = 3
keyword_kind token.If = 3
keyword_kind k = 0

unfoldable pub kind : List Token → ℕ
kind [] = 0
kind (symbol s ∷ ts) = symbol_kind s
kind (keyword k ∷ ts) = keyword_kind k
kind (interpolation ∷ ts) = 0
kind (t ∷ ts) = 3

-- ---- symbols by their numbers

of_number : (s : Symbol) → get_or symbols (symbol_number s) token.dot ≡ s
of_number token.not_equal = refl
of_number s = refl

pub same_symbol : (s t : Symbol) → symbol_number s ≡ symbol_number t → s ≡ t
same_symbol s t e = sym (of_number s) ∙ ap (λ (n : ℕ). get_or symbols n token.dot) e ∙ of_number t

pub no_symbol : (s : Symbol) (ts : List Token) → symbol_follow s < follow ts → is_symbol s (first ts) ≡ false
unfolding follow
no_symbol s [] h = refl
no_symbol s (symbol t ∷ ts) h = ne_eqb (symbol_number t) (symbol_number s) (λ e. absurd (omega (arith, ap symbol_follow (same_symbol t s e))))
no_symbol s (t ∷ ts) h = refl

symbol_level_follow : (s : Symbol) (l : ℕ) → symbol_level s ≡ suc l → symbol_follow s ≡ l + 3
symbol_level_follow token.times l h = omega arith
symbol_level_follow s l h = omega arith

keyword_level_follow : (k : Keyword) (l : ℕ) → level_of (keyword k) ≡ suc l → keyword_follow k ≡ l + 3
keyword_level_follow token.And l h = omega arith
keyword_level_follow k l h = omega arith

pub level_follow : (o : Token) (ts : List Token) (l : ℕ) → level_of o ≡ suc l → follow (o ∷ ts) ≡ l + 3
unfolding follow
level_follow (symbol s) ts l h = symbol_level_follow s l h
level_follow (keyword k) ts l h = keyword_level_follow k l h
level_follow t ts l h = omega arith

pub post_begins : (ts : List Token) → 3 ≤ kind ts → begins_post (first ts) ≡ true
unfolding kind
post_begins [] h = absurd (omega arith)
post_begins (symbol token.minus ∷ ts) h = absurd (omega arith)
post_begins (keyword token.Try ∷ ts) h = absurd (omega arith)
post_begins (t ∷ ts) h = refl

pub no_as : (ts : List Token) → 3 ≤ follow ts → is_as (first ts) ≡ false
unfolding follow
no_as [] h = refl
no_as (keyword token.As ∷ ts) h = absurd (omega arith)
no_as (t ∷ ts) h = refl
