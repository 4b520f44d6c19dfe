-- A function that computes the tokens of a text, so that a proof gets those of a whole text at once.
--
-- It knows every token except a number with a fraction or an exponent, a `\u` in a string and a comment at the end of the
-- text. For a text with one of these it returns None.
use Rattle.std.specs.Prelude.{◌≡◌, ℕ, zero, suc, ◌^◌, List, [], ◌∷◌, ◌++◌, Bool, true, false, ◌&&◌, ◌||◌, not, nat_eq, nat_lt, bytes_eq, Option, Some, None, if◌then◌else◌, take, drop}
use Rattle.std.specs.Str.Parse.{digits_value}
use Rattle.jq_tree.specs.Tree.{Name}
use Rattle.jq_tree.specs.Token.{Keyword, keyword_text, Symbol, symbol_text, Token, keyword, name, field, variable, format, number, piece, interpolation, symbol}
use Rattle.jq_tree.specs.Token as token
use Rattle.jq_tree.specs.Words.{every, is_letter, is_digit, is_name_character, is_name, is_digits, is_format_name, is_e, keywords, is_keyword}
use Rattle.jq_tree.specs.Lexing.{escaped, Parenthesis, plain_parenthesis, in_string, Spot, between, within, is_space, Lexes}

-- ---- a test that every prefix of every word passes

abbrev pub name_front : List ℕ → Bool
name_front [] = true
name_front (c ∷ cs) = is_letter c && every is_name_character cs

abbrev pub after : ℕ → (List ℕ → Bool) → List ℕ → Bool
after c test [] = true
after c test (d ∷ ds) = nat_eq c d && test ds

abbrev pub is_sign : ℕ → Bool
is_sign c = nat_eq c 43 || nat_eq c 45

abbrev pub exponent_front : List ℕ → Bool
exponent_front [] = true
exponent_front (c ∷ cs) = (is_sign c || is_digit c) && every is_digit cs

-- Whether a point may still come.
abbrev pub number_front : Bool → List ℕ → Bool
number_front point [] = true
number_front point (c ∷ cs) =
    if is_digit c then number_front point cs else if nat_eq c 46 then point && number_front false cs else is_e c && exponent_front cs

abbrev pub is_front : List ℕ → List ℕ → Bool
is_front [] text = true
is_front (c ∷ cs) [] = false
is_front (c ∷ cs) (d ∷ ds) = nat_eq c d && is_front cs ds

abbrev pub front_of_one : List Symbol → List ℕ → Bool
front_of_one [] s = false
front_of_one (y ∷ ys) s = is_front s (symbol_text y) || front_of_one ys s

abbrev pub symbols : List Symbol
symbols = token.not_equal ∷ token.equal ∷ token.less_or_equal ∷ token.greater_or_equal ∷ token.less ∷ token.greater ∷ token.alternative_assign ∷ token.alternative ∷ token.modify_assign ∷ token.plus_assign ∷ token.minus_assign ∷ token.times_assign ∷ token.divided_assign ∷ token.modulo_assign ∷ token.assign ∷ token.two_dots ∷ token.dot ∷ token.left_bracket ∷ token.right_bracket ∷ token.left_parenthesis ∷ token.right_parenthesis ∷ token.left_brace ∷ token.right_brace ∷ token.bar ∷ token.comma ∷ token.colon ∷ token.semicolon ∷ token.plus ∷ token.minus ∷ token.times ∷ token.divided ∷ token.modulo ∷ token.question ∷ []

abbrev pub may_begin : List ℕ → Bool
may_begin s = name_front s || (after 46 name_front s || (after 36 name_front s || (after 64 (every is_name_character) s || (number_front true s || front_of_one symbols s))))

-- ---- the longest word, and its token

-- How many more characters the word takes, after these.
unfoldable pub word_length : List ℕ → List ℕ → ℕ
word_length w [] = 0
word_length w (c ∷ cs) = let more = suc (word_length (w ++ c ∷ []) cs) in if may_begin (w ++ c ∷ []) then more else 0

unfoldable pub ends_before : List ℕ → List ℕ → Bool
ends_before w [] = true
ends_before w (c ∷ cs) = not (may_begin (w ++ c ∷ []))

unfoldable pub keyword_in : List Keyword → List ℕ → Option Token
keyword_in [] w = None
keyword_in (k ∷ ks) w = if bytes_eq w (keyword_text k) then Some (keyword k) else keyword_in ks w

abbrev pub is_parenthesis : Symbol → Bool
is_parenthesis token.left_parenthesis = true
is_parenthesis token.right_parenthesis = true
is_parenthesis _ = false

unfoldable pub symbol_in : List Symbol → List ℕ → Option Token
symbol_in [] w = None
symbol_in (y ∷ ys) w = if bytes_eq w (symbol_text y) && not (is_parenthesis y) then Some (symbol y) else symbol_in ys w

unfoldable pub or_else : Option Token → Option Token → Option Token
or_else (Some t) o = Some t
or_else None o = o

unfoldable pub signed : ℕ → (List ℕ → Bool) → (Name → Token) → List ℕ → Option Token
signed sign test make [] = None
signed sign test make (c ∷ cs) = if nat_eq c sign && test cs then Some (make cs) else None

unfoldable pub spelled : List ℕ → Option Token
spelled w = or_else (if is_name w then (if is_keyword w then keyword_in keywords w else Some (name w)) else None)
    (or_else (signed 46 is_name field w) (or_else (signed 36 is_name variable w) (or_else (signed 64 is_format_name format w)
    (or_else (if is_digits w && nat_lt (digits_value 10 w) (2 ^ 63) then Some (number (digits_value 10 w)) else None) (symbol_in symbols w)))))

-- ---- a string

pub record Piece : Type 0 where
  pub content : List ℕ
  pub goes_on : Bool  -- ended by `\(`
  pub rest : List ℕ

unfoldable pub with_character : ℕ → Option Piece → Option Piece
with_character c None = None
with_character c (Some p) = Some (record { content = c ∷ p.content; goes_on = p.goes_on; rest = p.rest })

unfoldable pub with_escaped : Option ℕ → Option Piece → Option Piece
with_escaped None p = None
with_escaped (Some c) p = with_character c p

-- The piece of a string up to its quote or to `\(`.
unfoldable pub piece_at : List ℕ → Option Piece
piece_at [] = None
piece_at (c ∷ []) = if nat_eq c 34 then Some (record { content = []; goes_on = false; rest = [] }) else None
piece_at (c ∷ d ∷ cs) =
    let after_two = piece_at cs in
    let after_one = piece_at (d ∷ cs) in
    if nat_eq c 34 then Some (record { content = []; goes_on = false; rest = d ∷ cs })
    else if nat_eq c 92 then (if nat_eq d 40 then Some (record { content = []; goes_on = true; rest = cs }) else with_escaped (escaped d) after_two)
    else with_character c after_one

-- ---- what is taken at one spot, and all tokens

-- The tokens that were taken from a text, the spot after them, and the rest.
pub record Taken : Type 0 where
  pub tokens : List Token
  pub spot : Spot
  pub rest : List ℕ

unfoldable pub taken : List Token → Spot → List ℕ → Option Taken
taken ts spot rest = Some (record { tokens = ts; spot = spot; rest = rest })

unfoldable pub word_taken : List Parenthesis → List ℕ → Option Token → Option Taken
word_taken opened rest None = None
word_taken opened rest (Some t) = taken (t ∷ []) (between opened) rest

unfoldable pub word_in : List Parenthesis → List ℕ → List ℕ → Option Taken
word_in opened w rest = if ends_before w rest then word_taken opened rest (spelled w) else None

unfoldable pub take_word : List Parenthesis → List ℕ → Option Taken
take_word opened text = word_in opened (take (word_length [] text) text) (drop (word_length [] text) text)

unfoldable pub take_piece : List Parenthesis → Option Piece → Option Taken
take_piece opened None = None
take_piece opened (Some p) = if p.goes_on then taken (piece p.content ∷ interpolation ∷ []) (between (in_string ∷ opened)) p.rest
    else taken (piece p.content ∷ []) (between opened) p.rest

unfoldable pub take_closing : List Parenthesis → List ℕ → Option Taken
take_closing [] cs = taken (symbol token.right_parenthesis ∷ []) (between []) cs
take_closing (plain_parenthesis ∷ opened) cs = taken (symbol token.right_parenthesis ∷ []) (between opened) cs
take_closing (in_string ∷ opened) cs = taken (symbol token.right_parenthesis ∷ []) (within opened) cs

-- A comment, up to its line feed.
unfoldable pub take_comment : List Parenthesis → List ℕ → Option Taken
take_comment opened [] = None
take_comment opened (c ∷ cs) = let further = take_comment opened cs in if nat_eq c 10 then taken [] (between opened) (10 ∷ cs) else further

unfoldable pub step : Spot → List ℕ → Option Taken
step (within opened) text = take_piece opened (piece_at text)
step (between opened) [] = None
step (between opened) (c ∷ cs) = if is_space c then taken [] (between opened) cs
    else if nat_eq c 34 then take_piece opened (piece_at cs)
    else if nat_eq c 40 then taken (symbol token.left_parenthesis ∷ []) (between (plain_parenthesis ∷ opened)) cs
    else if nat_eq c 41 then take_closing opened cs
    else if nat_eq c 35 then take_comment opened cs
    else take_word opened (c ∷ cs)

unfoldable pub before : List Token → Option (List Token) → Option (List Token)
before ts None = None
before ts (Some us) = Some (ts ++ us)

-- The tokens of a text from a spot on, if fewer calls of `step` than the number reach its end; otherwise None.
unfoldable pub lexed_from : ℕ → Spot → List ℕ → Option (List Token)
lexed_from zero spot text = None
lexed_from (suc n) (between opened) [] = Some []
lexed_from (suc n) spot text = elim (step spot text) [ None ↦ None | Some s ↦ before s.tokens (lexed_from n s.spot s.rest) ]

unfoldable pub lexed : ℕ → List ℕ → Option (List Token)
lexed n text = lexed_from n (between []) text

-- unfolds all of these definitions
unfoldable pub lexing : Unit {0}
unfolding word_length ends_before keyword_in symbol_in or_else signed spelled with_character with_escaped piece_at taken word_taken word_in take_word take_piece take_closing take_comment step before lexed_from lexed
lexing = tt

-- The tokens that it computes are the tokens of the text.
abbrev pub LexedAreTheTokens : Type 0
LexedAreTheTokens = (n : ℕ) (text : List ℕ) (ts : List Token) → lexed n text ≡ Some ts → Lexes text ts
