-- Where the tokens of a text begin.
use Rattle.std.specs.Prelude.{◌≡◌, ℕ, ◌+◌, ◌<◌, ◌≤◌, List, ◌++◌, [], length, encode_utf8_all}
use Rattle.jq_tree.specs.Token.{Token}
use Rattle.jq_tree.specs.Lexing.{Parenthesis, Spot, between, within, Piece, Next, Reads, Lexes}

-- A word begins with this text, or a piece of a string, and has these tokens: one, or a piece and the `\(` after it.
pub data Begins : Spot → List ℕ → List Token → Type 0 where
  at_word : {opened : List Parenthesis} {text rest : List ℕ} {ts : List Token} {last : Spot} → Next opened text ts last rest → Begins (between opened) text ts
  at_piece : {opened : List Parenthesis} {text rest : List ℕ} {ts : List Token} {last : Spot} → Piece opened text ts last rest → Begins (within opened) text ts

-- The token after the first n begins at this byte of the text's UTF-8. (A `\(` begins with the piece before it.)
pub record TokenAt (text : List ℕ) (n : ℕ) (at_byte : ℕ) : Type 0 where
  pub before : List Token
  pub spot : Spot
  pub front : List ℕ
  pub rest : List ℕ
  pub word : List Token
  pub whole : text ≡ front ++ rest
  pub read : Reads (between []) text before spot rest
  pub begins : Begins spot rest word
  pub no_later : length before ≤ n
  pub no_earlier : n < length before + length word
  pub place : at_byte ≡ length (encode_utf8_all front)

-- The text has no token after the first n.
abbrev pub HasAtMost : List ℕ → ℕ → Type 0
HasAtMost text n = (ts : List Token) → Lexes text ts → length ts ≤ n
