-- Printing piece by piece: the next value, and the bytes that a piece appends.
use Rattle.std.specs.Prelude.{◌≡◌, ℕ, List, [], ◌++◌, Option, Some, None}
use Rattle.std.specs.Borrow.{Bor}
use Rattle.json.specs.Token.{Token}
use Rattle.jv_data.specs.View.{view}
use Rattle.jv_data.specs.declared.values.Val.{Val}
use Rattle.jv_text.specs.Printed.{tokens_of}
use Rattle.jv_text.specs.PrintedTokens.{open_tokens}
use Rattle.jv_text.specs.declared.nested.Open.{Open}

-- the tokens of the next value, if there is one, and of what is open
abbrev pub tokens_left : Option (Bor Val) → List Open → List Token
tokens_left None opened = open_tokens opened []
tokens_left (Some value) opened = tokens_of (view value.now) ++ open_tokens opened []

-- a piece is appended to the bytes `old`: the first bytes of the text, of which `rest` remains
abbrev pub AppendsPiece : (old new : List ℕ) → (text rest : List ℕ) → Type 0
AppendsPiece old new text rest = (piece : List ℕ) × (new ≡ old ++ piece) × (text ≡ piece ++ rest)
