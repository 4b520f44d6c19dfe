-- Edits of a list of inputs, which are numbered from 0.
use Rattle.std.specs.Prelude.{ℕ, List, length, Bool, if◌then◌else◌, nat_lt, slice_set, Result, Ok, Err}
use Rattle.std.specs.List as list
use Rattle.jv_data.specs.Value.{Value}
use Rattle.jq_pages.specs.Folds.{Folded}

pub data Edit : Type 0 where
  insert : ℕ → Value → Edit  -- the value becomes the input of this number, and those from there on move up by one
  replace : ℕ → Value → Edit
  remove : ℕ → Edit

-- the number of the input that is edited
abbrev pub place : Edit → ℕ
place (insert k v) = k
place (replace k v) = k
place (remove k) = k

-- how many inputs an edit takes out
abbrev pub taken : Edit → ℕ
taken (insert k v) = 0
taken (replace k v) = 1
taken (remove k) = 1

-- how many it puts in
abbrev pub added : Edit → ℕ
added (insert k v) = 1
added (replace k v) = 1
added (remove k) = 0

-- Why an edit is refused.
pub data Reason : Type 0 where
  no_place : Reason  -- no input has this number; for an insertion, the number is above the count
  full : Reason  -- there is the greatest number of inputs

abbrev pub most_inputs : ℕ
most_inputs = 1000000

abbrev pub at_place : Bool → List Value → Result (List Value) Reason
at_place there vs = if there then Ok vs else Err no_place

-- the inputs, if one more is allowed
abbrev pub with_room : ℕ → List Value → Result (List Value) Reason
with_room count vs = if nat_lt count most_inputs then Ok vs else Err full

-- An insertion is allowed at the numbers from 0 to the count. If the number is allowed, it is refused if the list is full.
abbrev pub inserted : ℕ → Value → List Value → Result (List Value) Reason
inserted k v vs = if nat_lt (length vs) k then Err no_place else with_room (length vs) (list.insert vs k v)

-- the inputs after an edit
abbrev pub edited : Edit → List Value → Result (List Value) Reason
edited (insert k v) vs = inserted k v vs
edited (replace k v) vs = at_place (nat_lt k (length vs)) (slice_set vs k v)
edited (remove k) vs = at_place (nat_lt k (length vs)) (list.remove vs k)

abbrev pub over : {S : Type 0} → Folded S → List Value → Folded S
over x vs = record { fold = x.fold; inputs = vs }

abbrev pub with_inputs : {S : Type 0} → Folded S → Result (List Value) Reason → Result (Folded S) Reason
with_inputs x (Ok vs) = Ok (over x vs)
with_inputs x (Err reason) = Err reason

-- An edit changes only the inputs.
abbrev pub after : {S : Type 0} → Edit → Folded S → Result (Folded S) Reason
after edit x = with_inputs x (edited edit x.inputs)
