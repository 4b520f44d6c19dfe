-- A session after any list of calls.
use Rattle.std.specs.Prelude.{◌≡◌, ℕ, ◌+◌, List, [], ◌∷◌, Option, Some, None, Result, Ok, Err}
use Rattle.jv_data.specs.Value.{Value}
use Rattle.jq_filters.specs.Present.{values_outcome}
use Rattle.jq_filters.specs.declared.filters.Filter.{Filter}
use Rattle.jq_pages.specs.Edits.{Edit, Reason, edited}
use Rattle.jq_pages.specs.Folds.{Rises}
use Rattle.jq_pages.specs.Moves.{moved}
use Rattle.jq_pages.specs.Splices.{spliced}
use Rattle.jq_pages.specs.declared.splices.Splice.{Splice}
use Rattle.jq_session.specs.States.{State, Point, over, after, after_move, outcome, refiltered}
use Rattle.jq_session.specs.Splices.{Follows, FollowsFilter, FollowsMove}
use Rattle.jq_session.specs.Starts.{IsFirstRun, IsMoveStarted, IsStarted}
use Rattle.jq_session.specs.declared.splices.Follow.{Follow}

-- A call, and its answers if it was accepted: an edit, the move of input `k` to place `l`, or another filter.
pub data Call : Type 0 where
  edit_call : Edit → Option Follow → Call
  move_call : (k l : ℕ) → Option (Follow × Follow) → Call
  filter_call : Filter → Option Follow → Call

-- ---- a call

-- What the contract of an edit says of the points before and after a call.
pub record Made (edit : Edit) (follow : Follow) (old new : Point) : Type 0 where
  pub edited : after edit old.state ≡ Ok new.state
  pub follows : Follows follow edit old.state new.state
  pub runs : new.starts ≡ old.starts + follow.runs

-- The same for a move.
pub record Shifted (k l : ℕ) (first second : Follow) (old new : Point) : Type 0 where
  pub moved : after_move k l old.state ≡ Ok new.state
  pub follows : FollowsMove first second k l old.state new.state
  pub runs : new.starts ≡ old.starts + (first.runs + second.runs)

-- The same for another filter. The session counts its starts with another count; here they are added to those of the filters before it.
pub record Refiltered (f : Filter) (follow : Follow) (old new : Point) : Type 0 where
  pub taken : new.state ≡ refiltered f old.state
  pub follows : FollowsFilter follow old.state new.state
  pub runs : new.starts ≡ old.starts + follow.runs

-- The call changed one point into another. One that was refused leaves the state unchanged.
abbrev pub Changes : Call → Point → Point → Type 0
Changes (edit_call edit (Some follow)) old new = Made edit follow old new
Changes (edit_call edit None) old new = new.state ≡ old.state
Changes (move_call k l (Some answers)) old new = Shifted k l answers.0 answers.1 old new
Changes (move_call k l None) old new = new.state ≡ old.state
Changes (filter_call f (Some follow)) old new = Refiltered f follow old new
Changes (filter_call f None) old new = new.state ≡ old.state

-- A call may start a filter so often, accepted or refused.
abbrev pub MayStart : Call → State → (old_starts new_starts : ℕ) → Type 0
MayStart (edit_call edit answer) s a b = IsStarted edit s a b
MayStart (move_call k l answers) s a b = IsMoveStarted k l s a b
MayStart (filter_call f answer) s a b = IsFirstRun (refiltered f s) a b

abbrev pub Leads : Call → Point → Point → Type 0
Leads call old new = Changes call old new × MayStart call old.state old.starts new.starts

-- These calls, one after the other, changed the first point into the last.
abbrev pub IsHistory : List Call → Point → Point → Type 0
IsHistory [] first last = last ≡ first
IsHistory (call ∷ calls) first last = (next : Point) × Leads call first next × IsHistory calls next last

-- ---- what is present

abbrev pub or_unchanged : Result (List Value) Reason → List Value → List Value
or_unchanged (Ok inputs) unchanged = inputs
or_unchanged (Err reason) unchanged = unchanged

-- the inputs after a call
abbrev pub called : Call → List Value → List Value
called (edit_call edit (Some follow)) inputs = or_unchanged (edited edit inputs) inputs
called (edit_call edit None) inputs = inputs
called (move_call k l (Some answers)) inputs = or_unchanged (moved k l inputs) inputs
called (move_call k l None) inputs = inputs
called (filter_call f answer) inputs = inputs

-- the inputs after the calls, of which only the accepted edits and moves change them
abbrev pub present_inputs : List Call → List Value → List Value
present_inputs [] inputs = inputs
present_inputs (call ∷ calls) inputs = present_inputs calls (called call inputs)

-- the state with the filter after a call
abbrev pub filtered : Call → State → State
filtered (edit_call edit answer) s = s
filtered (move_call k l answers) s = s
filtered (filter_call f (Some follow)) s = refiltered f s
filtered (filter_call f None) s = s

-- the state with the filter after the calls, which is the last one that was taken
abbrev pub present_filter : List Call → State → State
present_filter [] s = s
present_filter (call ∷ calls) s = present_filter calls (filtered call s)

-- ---- a client

-- the answers to a call
abbrev pub answers_to : Call → List Follow
answers_to (edit_call edit (Some follow)) = follow ∷ []
answers_to (edit_call edit None) = []
answers_to (move_call k l (Some answers)) = answers.0 ∷ answers.1 ∷ []
answers_to (move_call k l None) = []
answers_to (filter_call f (Some follow)) = follow ∷ []
answers_to (filter_call f None) = []

-- the bytes of a client that applies one splice of each answer
abbrev pub followed_all : (Follow → Splice) → List Follow → List ℕ → List ℕ
followed_all part [] bytes = bytes
followed_all part (follow ∷ follows) bytes = followed_all part follows (spliced (part follow) bytes)

abbrev pub followed : (Follow → Splice) → List Call → List ℕ → List ℕ
followed part [] bytes = bytes
followed part (call ∷ calls) bytes = followed part calls (followed_all part (answers_to call) bytes)

-- ---- a bound

-- A call may start a filter no more often than this.
abbrev pub Bounds : Call → State → ℕ → Type 0
Bounds call s n = (a b : ℕ) → MayStart call s a b → Rises a b n

-- a sum of such numbers, one for each of these calls
abbrev pub IsBound : List Call → State → ℕ → Type 0
IsBound [] s n = n ≡ 0
IsBound (call ∷ calls) s n = (m : ℕ) × (k : ℕ) × Bounds call s m × IsBound calls (over (filtered call s) (called call s.inputs)) k × (n ≡ m + k)

-- ---- laws

-- The session's state is that of the present filter with the present inputs.
abbrev pub StandsForPresentInputs : Type 0
StandsForPresentInputs = (calls : List Call) (first last : Point) → IsHistory calls first last
    → last.state ≡ over (present_filter calls first.state) (present_inputs calls first.state.inputs)

-- Its output, errors and status are those of runs of the present filter from scratch on the present inputs.
abbrev pub IsAlwaysRight : Type 0
IsAlwaysRight = (calls : List Call) (first last : Point) → IsHistory calls first last
    → outcome last.state ≡ values_outcome (present_filter calls first.state).mode (present_filter calls first.state).job (present_inputs calls first.state.inputs)

-- Calls start the filters no more often than they may together.
abbrev pub StartsNoMore : Type 0
StartsNoMore = (calls : List Call) (first last : Point) (n : ℕ) → IsBound calls first.state n → IsHistory calls first last → Rises first.starts last.starts n

-- A client that applies the splices has the output and the errors.
abbrev pub FollowsOutput : Type 0
FollowsOutput = (calls : List Call) (first last : Point) → IsHistory calls first last → followed (λ f. f.out) calls (outcome first.state).output ≡ (outcome last.state).output

abbrev pub FollowsErrors : Type 0
FollowsErrors = (calls : List Call) (first last : Point) → IsHistory calls first last → followed (λ f. f.err) calls (outcome first.state).errors ≡ (outcome last.state).errors
