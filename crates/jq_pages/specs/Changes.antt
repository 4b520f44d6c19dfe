-- Which pieces an edit changes, and how often it may start the filter.
use Rattle.std.specs.Prelude.{◌≡◌, ℕ, ◌+◌, ◌-◌, ◌≤◌, ◌⊎◌, take, drop, length, IsTrue, IsFalse, MatchResult}
use Rattle.std.specs.List.{replace_range}
use Rattle.jq_pages.specs.Edits.{Edit, place, taken, added, after}
use Rattle.jq_pages.specs.Folds.{Fold, Folded, pieces, state_at, tail, Rises}
use Rattle.jq_pages.specs.declared.changes.Change.{Change}

-- ---- where the folds before and after an edit meet

-- Before input `q` of the new list, which is after the edit, the state is the one that the old fold had before the same remaining
-- inputs.
pub record IsSameState {S : Type 0} (edit : Edit) (old new : Folded S) (q : ℕ) : Type 0 where
  pub after : place edit + added edit ≤ q
  pub within : q ≤ length new.inputs
  pub same : state_at new q ≡ state_at old ((q + taken edit) - added edit)

-- A meeting is such a number, or the count of the inputs: no later piece changes.
abbrev pub IsMeeting : {S : Type 0} → Edit → (old new : Folded S) → ℕ → Type 0
IsMeeting edit old new q = IsSameState edit old new q ⊎ (q ≡ length new.inputs)

-- ---- what changes

-- The edit replaced `c.cut` pieces of the old list, from number `c.from` on, by `c.put` pieces of the new one. No other piece
-- changed, and that of `close` only if `c.closed` says so.
pub record Replaces {S : Type 0} (c : Change) (old new : Folded S) : Type 0 where
  pub cut : c.from + c.cut ≤ length (pieces old)
  pub put : c.from + c.put ≤ length (pieces new)
  pub pieces : pieces new ≡ replace_range (pieces old) c.from (c.from + c.cut) (take c.put (drop c.from (pieces new)))
  pub tail : IsFalse c.closed → tail new ≡ tail old

-- The piece of the edited input alone changes.
pub record IsOne (c : Change) (edit : Edit) : Type 0 where
  pub from : c.from ≡ place edit
  pub cut : c.cut ≡ taken edit
  pub put : c.put ≡ added edit
  pub not_closed : IsFalse c.closed

-- A change begins at most 64 inputs before the edit and ends at most 64 after each meeting. `close` is run again only if
-- the change goes to the end. In a plain fold the piece of the edited input alone changes.
pub record IsChange {S : Type 0} (c : Change) (edit : Edit) (old new : Folded S) : Type 0 where
  pub replaces : Replaces c old new
  pub before : c.from ≤ place edit
  pub near : place edit ≤ c.from + 64
  pub far : (q : ℕ) → IsMeeting edit old new q → c.from + c.put ≤ q + 64
  pub closing : IsTrue c.closed → c.from + c.put ≡ length new.inputs
  pub plain : IsTrue old.fold.plain → IsOne c edit

-- ---- how often the filter is started

-- In a plain fold at most once for an inserted or replaced input, and never for a removal. Otherwise at most once for each input
-- from the edit to a meeting, and 129 times more: 64 for the inputs before the edit in its page and for the division of a full page,
-- 64 for the inputs after the meeting in its page, and one for `close`.
pub record IsRerun {S : Type 0} (edit : Edit) (old new : Folded S) (old_starts new_starts : ℕ) : Type 0 where
  pub rises : (q : ℕ) → IsMeeting edit old new q → Rises old_starts new_starts ((q - place edit) + 129)
  pub plain : IsTrue old.fold.plain → Rises old_starts new_starts (added edit)

-- At the start at most once for each input, and in a fold that is not plain once more for `begin` and once for `close`.
pub record IsStart {S : Type 0} (f : Fold S) (count old_starts new_starts : ℕ) : Type 0 where
  pub rises : Rises old_starts new_starts (count + 2)
  pub plain : IsTrue f.plain → Rises old_starts new_starts count

-- An edit that the definition accepts may start the filter so often, also if memory runs out. Any other edit starts nothing.
abbrev pub IsStarted : {S : Type 0} → Edit → (old : Folded S) → (old_starts new_starts : ℕ) → Type 0
IsStarted edit old old_starts new_starts = MatchResult (after edit old) (λ new. IsRerun edit old new old_starts new_starts) (λ reason. new_starts ≡ old_starts)
