-- The value of one JSON text.
use Rattle.std.specs.Prelude.{◌≡◌, ℕ, List, [], ◌∷◌, Option, Some, None, Result, Ok, Err}
use Rattle.jv_cut.specs.Cut.{Cut, CutEnd, clean, open_text, fault}
use Rattle.jv_cut.specs.declared.nesting.Quote.TheVariants.{Outside}
use Rattle.jv_cut.specs.declared.splitting.CutFault.{CutFault}
use Rattle.jv_cut.specs.declared.splitting.CutFault.TheVariants as cut
use Rattle.jv_data.specs.Value.{Value}
use Rattle.jv_data.specs.View.{view}
use Rattle.jv_data.specs.declared.values.Val.{Val}
use Rattle.jv_text.specs.Numbers.{whole_numbers}
use Rattle.jv_text.specs.Plain.{plain_value}
use Rattle.jv_text.specs.declared.faults.Fault.{Fault}
use Rattle.jv_text.specs.declared.faults.Fault.TheVariants.{Malformed, Unfinished, NotWhole, TooDeep, TooLong, NoMemory}

abbrev pub or_malformed : ℕ → Option Value → Result Value Fault
or_malformed at (Some v) = Ok v
or_malformed at None = Err (Malformed at)

abbrev pub or_not_whole : ℕ → Option (List ℕ) → Result Value Fault
or_not_whole at (Some text) = or_malformed at (plain_value text)
or_not_whole at None = Err (NotWhole at)

-- The value of a text that begins at a position. Each number outside strings must be a whole number of 64 bits; the value is
-- what `serde_json` reads from the text with these numbers in decimal.
abbrev pub reading : ℕ → List ℕ → Result Value Fault
reading at text = or_not_whole at (whole_numbers Outside [] text)

abbrev pub fault_at : CutFault → ℕ → Fault
fault_at cut.Misplaced at = Malformed at
fault_at cut.Unfinished at = Unfinished at
fault_at cut.TooDeep at = TooDeep at
fault_at cut.TooLong at = TooLong at

-- ---- bytes that must be one text

-- the value, if only white space follows
abbrev pub alone : List (ℕ × List ℕ) → CutEnd → Value → Result Value Fault
alone [] clean v = Ok v
alone [] open_text v = Ok v
alone [] (fault p at) v = Err (Malformed at)
alone (t ∷ ts) end v = Err (Malformed t.0)

abbrev pub if_read : Result Value Fault → (Value → Result Value Fault) → Result Value Fault
if_read (Ok v) next = next v
if_read (Err f) next = Err f

abbrev pub one_text : ℕ → List (ℕ × List ℕ) → CutEnd → Result Value Fault
one_text len [] clean = Err (Unfinished len)
one_text len [] open_text = Err (Unfinished len)
one_text len [] (fault p at) = Err (fault_at p at)
one_text len (t ∷ ts) end = if_read (reading t.0 t.1) (alone ts end)

-- the value of the only text in a cut of `len` bytes
abbrev pub text_of_cut : ℕ → Cut → Result Value Fault
text_of_cut len cut = one_text len cut.texts cut.end

-- ---- the result of a call

abbrev pub FaultIs : Fault → Result Value Fault → Type 0
FaultIs (Malformed at) r = r ≡ Err (Malformed at)
FaultIs (Unfinished at) r = r ≡ Err (Unfinished at)
FaultIs (NotWhole at) r = r ≡ Err (NotWhole at)
FaultIs (TooDeep at) r = r ≡ Err (TooDeep at)
FaultIs (TooLong at) r = r ≡ Err (TooLong at)
FaultIs NoMemory r = Unit {0}

-- this value, or this fault, or memory ran out
abbrev pub Gives : Result Val Fault → Result Value Fault → Type 0
Gives (Ok v) r = r ≡ Ok (view v)
Gives (Err f) r = FaultIs f r
