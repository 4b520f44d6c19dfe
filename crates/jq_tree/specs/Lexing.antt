-- Which text has which tokens, and where a text has a bad token.
--
-- A text is the list of its characters. White space and comments may come between tokens, and the longest word is taken
-- at each position (manual of jq 1.7, "Basic filters", "Comments"; strings and their escapes as in RFC 8259, section 7,
-- with `\(` as in "String interpolation").
use Rattle.std.specs.Prelude.{◌≡◌, ◌≢◌, ℕ, ◌+◌, ◌-◌, ◌*◌, ◌⊎◌, List, [], ◌∷◌, ◌++◌, Bool, true, false, ◌&&◌, ◌||◌, not, length, nat_le, nat_lt, nat_eq, encode_utf8_all, Option, Some, None, if◌then◌else◌}
use Rattle.jq_tree.specs.Token.{Token, symbol, piece, interpolation, left_parenthesis, right_parenthesis}
use Rattle.jq_tree.specs.Words.{every, is_digit, Spells, Longest}

-- ---- the characters of a string

-- The value of a hexadecimal digit.
abbrev pub hex_value : ℕ → Option ℕ
hex_value c = if is_digit c then Some (c - 48)
    else if nat_le 65 c && nat_le c 70 then Some (c - 55)
    else if nat_le 97 c && nat_le c 102 then Some (c - 87)
    else None

-- Four hexadecimal digits and their number.
pub data Hex : ℕ → ℕ → ℕ → ℕ → ℕ → Type 0 where
  hex : {a b c d i j k l : ℕ} → hex_value a ≡ Some i → hex_value b ≡ Some j → hex_value c ≡ Some k → hex_value d ≡ Some l
      → Hex a b c d (((i * 16 + j) * 16 + k) * 16 + l)

abbrev pub is_high_surrogate : ℕ → Bool
is_high_surrogate n = nat_le 0xd800 n && nat_lt n 0xdc00

abbrev pub is_low_surrogate : ℕ → Bool
is_low_surrogate n = nat_le 0xdc00 n && nat_lt n 0xe000

-- The character of a one-letter escape, by what follows the backslash: " \ / b f n r t
abbrev pub escaped : ℕ → Option ℕ
escaped c = if nat_eq c 34 then Some 34
    else if nat_eq c 92 then Some 92
    else if nat_eq c 47 then Some 47
    else if nat_eq c 98 then Some 8
    else if nat_eq c 102 then Some 12
    else if nat_eq c 110 then Some 10
    else if nat_eq c 114 then Some 13
    else if nat_eq c 116 then Some 9
    else None

-- Every character except `"` and `\` represents itself.
abbrev pub is_plain : ℕ → Bool
is_plain c = not (nat_eq c 34 || nat_eq c 92)

-- The characters between quotes, and those that they represent. A surrogate is allowed only in a pair.
pub data Content : List ℕ → List ℕ → Type 0 where
  no_content : Content [] []
  plain : {c : ℕ} {cs s : List ℕ} → is_plain c ≡ true → Content cs s → Content (c ∷ cs) (c ∷ s)
  escape : {c e : ℕ} {cs s : List ℕ} → escaped c ≡ Some e → Content cs s → Content (92 ∷ c ∷ cs) (e ∷ s)
  unicode : {a b c d n : ℕ} {cs s : List ℕ} → Hex a b c d n → is_high_surrogate n ≡ false → is_low_surrogate n ≡ false
      → Content cs s → Content (92 ∷ 117 ∷ a ∷ b ∷ c ∷ d ∷ cs) (n ∷ s)
  pair : {a b c d e f g h high low : ℕ} {cs s : List ℕ} → Hex a b c d high → Hex e f g h low
      → is_high_surrogate high ≡ true → is_low_surrogate low ≡ true → Content cs s
      → Content (92 ∷ 117 ∷ a ∷ b ∷ c ∷ d ∷ 92 ∷ 117 ∷ e ∷ f ∷ g ∷ h ∷ cs) ((0x10000 + (high - 0xd800) * 0x400 + (low - 0xdc00)) ∷ s)

-- ---- tokens one by one

-- An open parenthesis: `(`, or the `\(` of a string.
pub data Parenthesis : Type 0 where
  plain_parenthesis : Parenthesis
  in_string : Parenthesis

-- Where a token may begin, with the open parentheses, the last one first.
pub data Spot : Type 0 where
  between : List Parenthesis → Spot  -- between tokens
  within : List Parenthesis → Spot  -- in a string, after the `)` of an interpolation

-- The text continues a string: its first piece has these tokens, and the rest follows at that spot.
pub data Piece (opened : List Parenthesis) (text : List ℕ) : List Token → Spot → List ℕ → Type 0 where
  ended : (cs : List ℕ) {s rest : List ℕ} → text ≡ cs ++ 34 ∷ rest → Content cs s → Piece opened text (piece s ∷ []) (between opened) rest
  interpolated : (cs : List ℕ) {s rest : List ℕ} → text ≡ cs ++ 92 ∷ 40 ∷ rest → Content cs s
      → Piece opened text (piece s ∷ interpolation ∷ []) (between (in_string ∷ opened)) rest

abbrev pub IsParenthesis : Token → Type 0
IsParenthesis t = (t ≡ symbol left_parenthesis) ⊎ (t ≡ symbol right_parenthesis)

-- A text begins with these tokens, and the rest follows at that spot. A `)` closes the parenthesis that was opened last.
-- After one that closes `\(` the string continues.
pub data Next : List Parenthesis → List ℕ → List Token → Spot → List ℕ → Type 0 where
  word : {opened : List Parenthesis} {text rest : List ℕ} {t : Token} (w : List ℕ) → Longest text w rest → Spells w t → ¬ IsParenthesis t
      → Next opened text (t ∷ []) (between opened) rest
  opens : {opened : List Parenthesis} {rest : List ℕ} → Next opened (40 ∷ rest) (symbol left_parenthesis ∷ []) (between (plain_parenthesis ∷ opened)) rest
  closes : {opened : List Parenthesis} {rest : List ℕ} → Next (plain_parenthesis ∷ opened) (41 ∷ rest) (symbol right_parenthesis ∷ []) (between opened) rest
  closes_in_string : {opened : List Parenthesis} {rest : List ℕ} → Next (in_string ∷ opened) (41 ∷ rest) (symbol right_parenthesis ∷ []) (within opened) rest
  closes_nothing : {rest : List ℕ} → Next [] (41 ∷ rest) (symbol right_parenthesis ∷ []) (between []) rest
  quote : {opened : List Parenthesis} {text rest : List ℕ} {ts : List Token} {after : Spot} → Piece opened text ts after rest
      → Next opened (34 ∷ text) ts after rest

-- ---- the tokens of a text

-- Space, tab, line feed, carriage return.
abbrev pub is_space : ℕ → Bool
is_space c = nat_eq c 32 || nat_eq c 9 || nat_eq c 10 || nat_eq c 13

abbrev pub is_not_line_feed : ℕ → Bool
is_not_line_feed c = not (nat_eq c 10)

-- The text is read from one spot to another, with these tokens, and the rest follows. A comment ends before a line feed or
-- with the text.
pub data Reads : Spot → List ℕ → List Token → Spot → List ℕ → Type 0 where
  here : {spot : Spot} {text : List ℕ} → Reads spot text [] spot text
  space : {opened : List Parenthesis} {c : ℕ} {text rest : List ℕ} {ts : List Token} {last : Spot} → is_space c ≡ true
      → Reads (between opened) text ts last rest → Reads (between opened) (c ∷ text) ts last rest
  comment : {opened : List Parenthesis} {text rest : List ℕ} {ts : List Token} {last : Spot} (cs following : List ℕ) → text ≡ cs ++ 10 ∷ following
      → every is_not_line_feed cs ≡ true → Reads (between opened) (10 ∷ following) ts last rest → Reads (between opened) (35 ∷ text) ts last rest
  last_comment : {opened : List Parenthesis} (cs : List ℕ) → every is_not_line_feed cs ≡ true
      → Reads (between opened) (35 ∷ cs) [] (between opened) []
  token : {opened : List Parenthesis} {text middle rest : List ℕ} {ts us : List Token} {spot last : Spot} → Next opened text ts spot middle
      → Reads spot middle us last rest → Reads (between opened) text (ts ++ us) last rest
  part : {opened : List Parenthesis} {text middle rest : List ℕ} {ts us : List Token} {spot last : Spot} → Piece opened text ts spot middle
      → Reads spot middle us last rest → Reads (within opened) text (ts ++ us) last rest

-- The text has these tokens. A parenthesis may be left open at its end; the grammar refuses that.
abbrev pub Lexes : List ℕ → List Token → Type 0
Lexes text ts = (opened : List Parenthesis) × Reads (between []) text ts (between opened) []

-- A token must begin at this spot, and none does.
pub data Missing : Spot → List ℕ → Type 0 where
  no_token : {opened : List Parenthesis} {c : ℕ} {rest : List ℕ} → is_space c ≡ false → c ≢ 35
      → ((ts : List Token) (spot : Spot) (end_rest : List ℕ) → ¬ Next opened (c ∷ rest) ts spot end_rest)
      → Missing (between opened) (c ∷ rest)
  no_piece : {opened : List Parenthesis} {rest : List ℕ}
      → ((ts : List Token) (spot : Spot) (end_rest : List ℕ) → ¬ Piece opened rest ts spot end_rest)
      → Missing (within opened) rest

-- The text has tokens up to this byte of its UTF-8, and no token begins there.
pub record BadToken (text : List ℕ) (at_byte : ℕ) : Type 0 where
  pub before : List Token
  pub spot : Spot
  pub front : List ℕ
  pub rest : List ℕ
  pub whole : text ≡ front ++ rest
  pub read : Reads (between []) text before spot rest
  pub bad : Missing spot rest
  pub place : at_byte ≡ length (encode_utf8_all front)
