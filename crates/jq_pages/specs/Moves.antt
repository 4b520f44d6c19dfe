-- A move: the input of number `k` is removed and inserted at place `l` of the shorter list.
use Rattle.std.specs.Prelude.{◌≡◌, ℕ, ◌+◌, ◌-◌, List, Option, Some, None, Result, Ok, Err, IsOk, MatchResult, IsTrue, slice_get}
use Rattle.std.specs.List as list
use Rattle.jv_data.specs.Value.{Value}
use Rattle.jq_pages.specs.Changes.{IsChange, IsMeeting}
use Rattle.jq_pages.specs.Edits.{Reason, insert, remove, no_place, edited, after, with_inputs}
use Rattle.jq_pages.specs.Folds.{Folded, Rises, all}
use Rattle.jq_pages.specs.Splices.{IsSpliced}
use Rattle.jq_pages.specs.Totals.{totals}
use Rattle.jq_pages.specs.declared.changes.Moved.{Moved}
use Rattle.jq_pages.specs.declared.refusals.Refusal.{Refusal}
use Rattle.jq_pages.specs.declared.refusals.Refusal.TheVariants as refusal

-- the inputs after the move of this one, which has the number `k`, if there is one
abbrev pub moved_input : Option Value → (k l : ℕ) → List Value → Result (List Value) Reason
moved_input None k l vs = Err no_place
moved_input (Some v) k l vs = edited (insert l v) (list.remove vs k)

-- the inputs after a move
abbrev pub moved : (k l : ℕ) → List Value → Result (List Value) Reason
moved k l vs = moved_input (slice_get vs k) k l vs

-- A move changes only the inputs.
abbrev pub after_move : {S : Type 0} → (k l : ℕ) → Folded S → Result (Folded S) Reason
after_move k l x = with_inputs x (moved k l x.inputs)

-- A move as two edits: `value` is the input that moves, and `middle` the fold between the removal and the insertion.
pub record Halves {S : Type 0} (k l : ℕ) (old new : Folded S) : Type 0 where
  pub value : Value
  pub middle : Folded S
  pub there : slice_get old.inputs k ≡ Some value
  pub removed : after (remove k) old ≡ Ok middle
  pub inserted : after (insert l value) middle ≡ Ok new

-- The move as two edits, what each of them changes, and the totals between them.
pub record IsMove {S : Type 0} (k l : ℕ) (m : Moved) (old new : Folded S) : Type 0 where
  pub halves : Halves k l old new
  pub removal : IsChange m.removal.change (remove k) old halves.middle
  pub insertion : IsChange m.insertion.change (insert l halves.value) halves.middle new
  pub cut : IsSpliced m.removal old halves.middle
  pub put : IsSpliced m.insertion halves.middle new
  pub between : m.between ≡ totals (all halves.middle)

-- Each half may start the filter as often as the edit by itself. In a plain fold the moved input alone is run again.
pub record IsRerunTwice {S : Type 0} (k l : ℕ) (old new : Folded S) (old_starts new_starts : ℕ) : Type 0 where
  pub rises : (h : Halves k l old new) (q r : ℕ) → IsMeeting (remove k) old h.middle q → IsMeeting (insert l h.value) h.middle new r → Rises old_starts new_starts (((q - k) + 129) + ((r - l) + 129))
  pub plain : IsTrue old.fold.plain → Rises old_starts new_starts 1

-- A move that the definition accepts may start the filter so often, also if memory runs out. Any other move starts nothing.
abbrev pub IsMoveStarted : {S : Type 0} → (k l : ℕ) → (old : Folded S) → (old_starts new_starts : ℕ) → Type 0
IsMoveStarted k l old old_starts new_starts = MatchResult (after_move k l old) (λ new. IsRerunTwice k l old new old_starts new_starts) (λ reason. new_starts ≡ old_starts)

-- A move is refused if one of the places is not there, and with `NoMemory` only if the definition accepts it. It is never refused
-- for the number of inputs.
abbrev pub IsMoveRefusal : {S : Type 0} → Refusal → Result (Folded S) Reason → Type 0
IsMoveRefusal refusal.NoPlace after = after ≡ Err no_place
IsMoveRefusal refusal.Full after = ⊥
IsMoveRefusal refusal.NoMemory after = IsOk after
