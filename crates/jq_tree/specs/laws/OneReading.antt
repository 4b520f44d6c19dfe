-- A text has one reading: laws.
use Rattle.std.specs.Prelude.{◌≡◌, ℕ, List}
use Rattle.jq_tree.specs.Token.{Token}
use Rattle.jq_tree.specs.Words.{Longest}
use Rattle.jq_tree.specs.Lexing.{Lexes, BadToken}

-- The longest word at the start of a text is unique.
abbrev pub OneLongest : Type 0
OneLongest = (text v w rest left : List ℕ) → Longest text v rest → Longest text w left → v ≡ w

-- A text has at most one list of tokens, and at most one position of a first bad token, and never both.
abbrev pub OneTokenList : Type 0
OneTokenList = (text : List ℕ) (ts us : List Token) → Lexes text ts → Lexes text us → ts ≡ us

abbrev pub OneBadToken : Type 0
OneBadToken = (text : List ℕ) (a b : ℕ) → BadToken text a → BadToken text b → a ≡ b

abbrev pub TokensOrBadToken : Type 0
TokensOrBadToken = (text : List ℕ) (ts : List Token) (a : ℕ) → Lexes text ts → ¬ BadToken text a
