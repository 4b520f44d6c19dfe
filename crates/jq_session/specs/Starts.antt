-- How often a session may start its filter.
use Rattle.std.specs.Prelude.{◌≡◌, ℕ, List, ◌+◌, ◌-◌, length, MatchResult}
use Rattle.jv_data.specs.Value.{Value}
use Rattle.jq_pages.specs.Changes.{IsMeeting}
use Rattle.jq_pages.specs.Contents.{folded_in}
use Rattle.jq_pages.specs.Edits.{Edit, added, insert, place, remove}
use Rattle.jq_pages.specs.Folds.{Fold, Rises}
use Rattle.jq_filters.specs.Present.{run_count}
use Rattle.jq_session.specs.Halting.{halting_fold}
use Rattle.jq_session.specs.States.{Plan, each, fold, until_halt, whole, State, Halves, after, after_move}

-- From input `m` of the new list on, which is after the edit, the fold goes on as it did: its state there is the one that it had
-- before the same remaining inputs. Or `m` is the count of the new inputs, so that none remains.
abbrev pub GoesOnFrom : {S : Type 0} → Fold S → Edit → (old new : List Value) → ℕ → Type 0
GoesOnFrom f edit old new m = IsMeeting edit (folded_in f old) (folded_in f new) m

-- An edit that leads from one state to another may start the filter so often. On each input by itself: once for an inserted or
-- replaced input, and never for a removal. In a fold, and on each input up to the first one whose run halts: once for each input from
-- the edit to where the fold goes on as it did, and 129 times more. Else: as often as the run from scratch, which is once.
abbrev pub AllowedStarts : Plan → Edit → (old new : State) → (old_starts new_starts : ℕ) → Type 0
AllowedStarts each edit old new a b = Rises a b (added edit)
AllowedStarts (fold f) edit old new a b = (m : ℕ) → GoesOnFrom f edit old.inputs new.inputs m → Rises a b ((m - place edit) + 129)
AllowedStarts until_halt edit old new a b = (m : ℕ) → GoesOnFrom (halting_fold old.job) edit old.inputs new.inputs m → Rises a b ((m - place edit) + 129)
AllowedStarts whole edit old new a b = Rises a b (run_count new.mode new.job new.inputs)

-- An edit that the definition accepts may start the filter so often, also if memory runs out. Any other edit starts nothing.
abbrev pub IsStarted : Edit → (old : State) → (old_starts new_starts : ℕ) → Type 0
IsStarted edit old a b = MatchResult (after edit old) (λ new. AllowedStarts old.plan edit old new a b) (λ reason. b ≡ a)

-- A move may start the filter as often as its removal and its insertion together.
abbrev pub AllowedMove : Plan → (k l : ℕ) → (old new : State) → (old_starts new_starts : ℕ) → Type 0
AllowedMove each k l old new a b = Rises a b 1
AllowedMove (fold f) k l old new a b = (h : Halves k l old new) (m n : ℕ) → GoesOnFrom f (remove k) old.inputs h.middle.inputs m
    → GoesOnFrom f (insert l h.value) h.middle.inputs new.inputs n → Rises a b (((m - k) + 129) + ((n - l) + 129))
AllowedMove until_halt k l old new a b = (h : Halves k l old new) (m n : ℕ) → GoesOnFrom (halting_fold old.job) (remove k) old.inputs h.middle.inputs m
    → GoesOnFrom (halting_fold old.job) (insert l h.value) h.middle.inputs new.inputs n → Rises a b (((m - k) + 129) + ((n - l) + 129))
AllowedMove whole k l old new a b = (h : Halves k l old new) → Rises a b (run_count h.middle.mode h.middle.job h.middle.inputs + run_count new.mode new.job new.inputs)

-- A move that the definition accepts may start the filter so often, also if memory runs out. Any other move starts nothing.
abbrev pub IsMoveStarted : (k l : ℕ) → (old : State) → (old_starts new_starts : ℕ) → Type 0
IsMoveStarted k l old a b = MatchResult (after_move k l old) (λ new. AllowedMove old.plan k l old new a b) (λ reason. b ≡ a)

-- how often the first runs may start the filter: as often as runs from scratch; in a fold, and on each input up to the first one whose
-- run halts, once for each input and twice more
abbrev pub first_starts : Plan → State → ℕ
first_starts each first = run_count first.mode first.job first.inputs
first_starts (fold f) first = length first.inputs + 2
first_starts until_halt first = length first.inputs + 2
first_starts whole first = run_count first.mode first.job first.inputs

-- The start of a session may start its filter so often, and so may a session start another filter that it takes.
abbrev pub IsFirstRun : State → (old_starts new_starts : ℕ) → Type 0
IsFirstRun first a b = Rises a b (first_starts first.plan first)
