-- The values of a stream of JSON texts, up to its first fault.
use Rattle.std.specs.Prelude.{◌≡◌, ℕ, List, [], ◌∷◌, ◌++◌, Bool, Option, Some, None, Result, Ok, Err}
use Rattle.jv_cut.specs.Cut as cut
use Rattle.jv_cut.specs.Rest.{Rest, cut_with, MayFollow}
use Rattle.jv_data.specs.Value.{Value}
use Rattle.jv_text.specs.Reading.{reading, fault_at}
use Rattle.jv_text.specs.declared.faults.Fault.{Fault}

-- how a stream ends
pub data StreamEnd : Type 0 where
  -- all bytes were read
  clean : StreamEnd
  -- the bytes end inside a text, and more may follow
  open_text : StreamEnd
  fault : Fault → StreamEnd

pub record Values : Type 0 where
  pub values : List Value
  pub end : StreamEnd

abbrev pub end_of : cut.CutEnd → StreamEnd
end_of cut.clean = clean
end_of cut.open_text = open_text
end_of (cut.fault p at) = fault (fault_at p at)

-- the value of a text and those after it, or the text's fault
abbrev pub after_text : Result Value Fault → Values → Values
after_text (Ok v) rest = record { values = v ∷ rest.values; end = rest.end }
after_text (Err f) rest = record { values = []; end = fault f }

abbrev pub values_from : List (ℕ × List ℕ) → cut.CutEnd → Values
values_from [] end = record { values = []; end = end_of end }
values_from (t ∷ ts) end = after_text (reading t.0 t.1) (values_from ts end)

abbrev pub values_of : cut.Cut → Values
values_of c = values_from c.texts c.end

-- the values of all bytes of a stream; `ended` says that no more follow
abbrev pub stream : Bool → List ℕ → Values
stream ended bytes = values_of (cut.cut ended 0 bytes)

-- ---- a stream after some values were returned

abbrev pub after_values : List Value → Values → Values
after_values given rest = record { values = given ++ rest.values; end = rest.end }

-- the remaining values, whether or not a fault was found
abbrev pub left : Option Fault → Rest → List ℕ → Bool → Values
left None rest more later = values_of (cut_with rest more later)
left (Some f) rest more later = record { values = []; end = fault f }

-- `given` are the first values of the stream that begins with the bytes `fed`, and the others remain, whatever bytes follow
pub record Stands (met : Option Fault) (rest : Rest) (given : List Value) (fed : List ℕ) : Type 0 where
  pub goes : (later : Bool) (more : List ℕ) → MayFollow rest.ended more later → stream later (fed ++ more) ≡ after_values given (left met rest more later)
