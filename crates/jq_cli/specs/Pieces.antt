-- Taking `--arg NAME VALUE` and `--argjson NAME JSON` out of the words of a command line (manual of jq 1.7, "Invoking jq").
-- A word is its bytes in UTF-8.
use Rattle.std.specs.Prelude.{◌≡◌, ◌≢◌, Bool, List, [], ◌∷◌, ◌++◌, not, codes, length, true, Option, Some, None, Result, Ok, Err, option_map, option_and_then, filter, flat_map, if◌then◌else◌}
use Rattle.std.specs.Str.{bytes_eq, chars}
use Rattle.clap.specs.Words.{Text}
use Rattle.jq_tree.specs.Tree.{Name}
use Rattle.jq_tree.specs.Words.{is_name}
use Rattle.jv_cut.specs.Cut.{cut_from}
use Rattle.jv_data.specs.Value.{Value, string}
use Rattle.jv_text.specs.Reading.{text_of_cut}
use Rattle.jv_text.specs.declared.faults.Fault.{Fault}
use Rattle.jq_cli.specs.declared.taking.Kind.{Kind}
use Rattle.jq_cli.specs.declared.taking.Kind.TheVariants as kind

abbrev pub Variable : Type 0
Variable = Name × Value

-- A piece of the words: a word that remains, or one of the two options with the two words after it, whatever these are.
pub data Piece : Type 0 where
  stays : Text → Piece
  option : Kind → (name value : Text) → Piece

abbrev pub option_word : Kind → Text
option_word kind.Text = codes "--arg"
option_word kind.Json = codes "--argjson"

-- after `--` there are no more options
abbrev pub dashes : Text
dashes = codes "--"

abbrev pub spelt : Piece → List Text
spelt (stays word) = word ∷ []
spelt (option k name value) = option_word k ∷ name ∷ value ∷ []

-- a word that remains is neither of the two options nor `--`
abbrev pub IsPiece : Piece → Type 0
IsPiece (stays word) = (word ≢ option_word kind.Text) × (word ≢ option_word kind.Json) × (word ≢ dashes)
IsPiece (option k name value) = Unit {0}

abbrev pub ArePieces : List Piece → Type 0
ArePieces [] = Unit {0}
ArePieces (p ∷ ps) = IsPiece p × ArePieces ps

-- nothing, or `--` and every word after it
abbrev pub IsRest : List Text → Type 0
IsRest [] = Unit {0}
IsRest (word ∷ words) = word ≡ dashes

-- The words are the pieces up to the first `--` that is not a name or a value, and the rest. There is only one such division, or
-- none if an option lacks a word.
pub record IsDivided (words : List Text) (pieces : List Piece) (rest : List Text) : Type 0 where
  pub spells : words ≡ flat_map spelt pieces ++ rest
  pub each : ArePieces pieces
  pub end : IsRest rest

abbrev pub staying : List Piece → List Text
staying [] = []
staying (stays word ∷ ps) = word ∷ staying ps
staying (option k name value ∷ ps) = staying ps

-- ---- variables

abbrev pub value_in : Result Value Fault → Option Value
value_in (Ok v) = Some v
value_in (Err f) = None

-- the value of a word: the string itself, or the value of the word as one JSON text
abbrev pub read_as : Kind → Text → Option Value
read_as kind.Text word = Some (string (chars word))
read_as kind.Json word = value_in (text_of_cut (length word) (cut_from 0 true 0 word))

abbrev pub variable : Kind → (name value : Text) → Option Variable
variable k name value = if is_name (chars name) then option_map (λ v. (chars name, v)) (read_as k value) else None

-- the variables of the pieces, if each name is a name and each value can be read
abbrev pub variables : List Piece → Option (List Variable)
variables [] = Some []
variables (stays word ∷ ps) = variables ps
variables (option k name value ∷ ps) = option_and_then (λ v. option_map (λ vs. v ∷ vs) (variables ps)) (variable k name value)

abbrev pub is_named : Name → Variable → Bool
is_named name v = bytes_eq v.0 name

-- the first variable of each name
abbrev pub firsts : List Variable → List Variable
firsts [] = []
firsts (v ∷ vs) = v ∷ filter (λ w. not (is_named v.0 w)) (firsts vs)

-- These words remain, and these variables are bound.
pub record IsTaken (words left : List Text) (vars : List Variable) : Type 0 where
  pub pieces : List Piece
  pub rest : List Text
  pub divided : IsDivided words pieces rest
  pub left_is : left ≡ staying pieces ++ rest
  pub all : List Variable
  pub values : variables pieces ≡ Some all
  pub vars_are : vars ≡ firsts all
