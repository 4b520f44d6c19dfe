-- The spots of a text, and what a call of the lexer reads from one. For private contracts.
use Rattle.std.specs.Prelude.{◌≡◌, ◌≢◌, ℕ, ◌<◌, List, [], ◌∷◌, ◌++◌, Bool, false, length, map, reverse, Option, Some, None, if◌then◌else◌}
use Rattle.jq_tree.specs.Token as token
use Rattle.jq_tree.specs.Lexing as lexing
use Rattle.jq_tree.specs.Lexing.{is_space, Spot, between, within, Reads}
use Rattle.jv_data.specs.Text.{text_of}
use Rattle.jq_lexer.specs.Places.{Begins}
use Rattle.jq_lexer.specs.Views.{token_of}
use Rattle.jq_lexer.specs.declared.lexing.Parenthesis.{Parenthesis}
use Rattle.jq_lexer.specs.declared.lexing.Parenthesis.TheVariants.{Plain, InString}
use Rattle.jq_lexer.specs.declared.lexing.Lexed.{Lexed}
use Rattle.jq_lexer.specs.declared.lexing.Lexed.TheVariants.{Taken, Missing, Done}
use Rattle.jq_lexer.specs.declared.lexing.Lexer.{Lexer}
use Rattle.jq_lexer.specs.declared.strings.Piece.{Piece}

abbrev pub parenthesis_of : Parenthesis → lexing.Parenthesis
parenthesis_of Plain = lexing.plain_parenthesis
parenthesis_of InString = lexing.in_string

-- The open parentheses, the last one first.
abbrev pub parentheses_of : Lexer → List lexing.Parenthesis
parentheses_of l = reverse (map parenthesis_of l.opened.items)

abbrev pub tokens_of : Lexer → List token.Token
tokens_of l = map token_of l.tokens.items

abbrev pub spot_of : Lexer → Spot
spot_of l = if l.within then within (parentheses_of l) else between (parentheses_of l)

-- Tokens were taken from the text.
pub record Takes (old new : Lexer) : Type 0 where
  pub taken : List token.Token
  pub tokens : tokens_of new ≡ tokens_of old ++ taken
  pub reads : Reads (spot_of old) old.rest.now taken (spot_of new) new.rest.now
  pub begins : taken ≢ [] → Begins (spot_of old) old.rest.now taken
  pub shorter : length new.rest.now < length old.rest.now

-- Nothing was taken.
pub record Keeps (old new : Lexer) : Type 0 where
  pub tokens : tokens_of new ≡ tokens_of old
  pub spot : spot_of new ≡ spot_of old
  pub rest : new.rest.now ≡ old.rest.now

abbrev pub AnswersLexed : Lexer → Lexed → Lexer → Type 0
AnswersLexed old Taken new = Takes old new
AnswersLexed old Missing new = Keeps old new × lexing.Missing (spot_of old) old.rest.now
AnswersLexed old Done new = Keeps old new × (old.within ≡ false) × (old.rest.now ≡ [])

-- The piece of a string that this text begins with was taken.
pub record TakesPiece (text : List ℕ) (old new : Lexer) : Type 0 where
  pub taken : List token.Token
  pub tokens : tokens_of new ≡ tokens_of old ++ taken
  pub piece : lexing.Piece (parentheses_of old) text taken (spot_of new) new.rest.now
  pub shorter : length new.rest.now < length text

abbrev pub NoPiece : List lexing.Parenthesis → List ℕ → Type 0
NoPiece opened text = (ts : List token.Token) (spot : Spot) (rest : List ℕ) → ¬ lexing.Piece opened text ts spot rest

abbrev pub AnswersPiece : List ℕ → Lexer → Lexed → Lexer → Type 0
AnswersPiece text old Taken new = TakesPiece text old new
AnswersPiece text old Missing new = Keeps old new × NoPiece (parentheses_of old) text
AnswersPiece text old Done new = ⊥

-- The piece of a string that the text begins with, for any open parentheses.
abbrev pub taken_by : List ℕ → Bool → List token.Token
taken_by s interpolated = if interpolated then token.piece s ∷ token.interpolation ∷ [] else token.piece s ∷ []

abbrev pub spot_after : List lexing.Parenthesis → Bool → Spot
spot_after opened interpolated = if interpolated then between (lexing.in_string ∷ opened) else between opened

abbrev pub IsFirstPiece : List ℕ → Option Piece → Type 0
IsFirstPiece text None = (opened : List lexing.Parenthesis) → NoPiece opened text
IsFirstPiece text (Some p) =
    ((opened : List lexing.Parenthesis) → lexing.Piece opened text (taken_by (text_of p.content) p.interpolated) (spot_after opened p.interpolated) p.rest.now)
    × (length p.rest.now < length text)

-- The end of a piece, and the text after it.
abbrev pub closing : Bool → List ℕ → List ℕ
closing interpolated rest = if interpolated then 92 ∷ 40 ∷ rest else 34 ∷ rest

-- The text is at the end of a piece, whose characters these are; None if it is at no end.
abbrev pub IsEnd : List ℕ → List ℕ → Option Piece → Type 0
IsEnd s text None = (interpolated : Bool) (rest : List ℕ) → ¬ (text ≡ closing interpolated rest)
IsEnd s text (Some p) = (text_of p.content ≡ s) × (text ≡ closing p.interpolated p.rest.now)

-- A text that begins with no white space, comment, string or parenthesis.
pub record IsWordStart (text : List ℕ) : Type 0 where
  pub first : ℕ
  pub following : List ℕ
  pub whole : text ≡ first ∷ following
  pub no_space : is_space first ≡ false
  pub no_comment : first ≢ 35
  pub no_quote : first ≢ 34
  pub no_open : first ≢ 40
  pub no_close : first ≢ 41
