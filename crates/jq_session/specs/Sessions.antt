-- The state that a session represents, how often it started its filter, and when it refuses a call.
use Rattle.std.specs.Prelude.{◌≡◌, ℕ, ◌<◌, ◌≤◌, map, Result, Err, IsOk}
use Rattle.jv_data.specs.View.{view}
use Rattle.jq_pages.specs.Contents.{folded_of}
use Rattle.jq_pages.specs.Contents as pages
use Rattle.jq_pages.specs.Edits.{Reason, no_place, full, most_inputs}
use Rattle.jq_pages.specs.declared.steps.Steps.{Ghosts}
use Rattle.jq_starts.specs.Starts.{starts_in}
use Rattle.jq_filters.specs.Filters.{filter_job, filter_mode}
use Rattle.jq_syntax.specs.Chosen.{Chosen, chosen}
use Rattle.jq_session.specs.States.{State, Point, point, state_in, whole}
use Rattle.jq_session.specs.declared.kept.Kept.{Kept}
use Rattle.jq_session.specs.declared.kept.Kept.TheVariants as kept
use Rattle.jq_session.specs.declared.paged.PagedSession.{PagedSession}
use Rattle.jq_session.specs.declared.refusals.Refusal.{Refusal}
use Rattle.jq_session.specs.declared.refusals.Refusal.TheVariants as refusal
use Rattle.jq_session.specs.declared.sessions.Session.{Session}
use Rattle.jq_session.specs.declared.whole.WholeSession.{WholeSession}

abbrev pub paged_state : {S T : Type 0} {own : Ghosts S T} → PagedSession S T own → State
paged_state s = state_in s.filter.value (folded_of s.pages).inputs

abbrev pub paged_starts : {S T : Type 0} {own : Ghosts S T} → PagedSession S T own → ℕ
paged_starts s = pages.starts_of s.pages

abbrev pub whole_state : WholeSession → State
whole_state s = record { mode = filter_mode s.filter; job = filter_job s.filter; plan = whole; inputs = map view s.inputs.items }

abbrev pub state_kept : Kept → State
state_kept (kept.Each s) = paged_state s
state_kept (kept.Fold s) = paged_state s
state_kept (kept.UntilHalt s) = paged_state s
state_kept (kept.Whole s) = whole_state s

abbrev pub state_of : Session → State
state_of s = state_kept s.kept

abbrev pub starts_kept : Kept → ℕ
starts_kept (kept.Each s) = paged_starts s
starts_kept (kept.Fold s) = paged_starts s
starts_kept (kept.UntilHalt s) = paged_starts s
starts_kept (kept.Whole s) = starts_in s.starts

-- the count of starts, which goes on from the one that came with its filter
abbrev pub starts_of : Session → ℕ
starts_of s = starts_kept s.kept

-- the options under which its filters are compiled
abbrev pub options_of : Session → Chosen
options_of s = chosen s.options

abbrev pub point_of : Session → Point
point_of s = point (state_of s) (starts_of s)

-- An edit is refused for the reason that the definition gives, and with `NoMemory` only if the definition accepts it.
abbrev pub IsRefusal : Refusal → Result State Reason → Type 0
IsRefusal refusal.NoPlace after = after ≡ Err no_place
IsRefusal refusal.Full after = after ≡ Err full
IsRefusal refusal.NoMemory after = IsOk after
IsRefusal refusal.Write after = ⊥

-- A move is refused if one of its places is not there, and with `NoMemory` only if the definition accepts it.
abbrev pub IsMoveRefusal : Refusal → Result State Reason → Type 0
IsMoveRefusal refusal.NoPlace after = after ≡ Err no_place
IsMoveRefusal refusal.Full after = ⊥
IsMoveRefusal refusal.NoMemory after = IsOk after
IsMoveRefusal refusal.Write after = ⊥

-- A start is refused if there are more inputs than a session takes, and with `NoMemory` only if there are not.
abbrev pub IsStartRefusal : Refusal → ℕ → Type 0
IsStartRefusal refusal.NoPlace count = ⊥
IsStartRefusal refusal.Full count = most_inputs < count
IsStartRefusal refusal.NoMemory count = count ≤ most_inputs
IsStartRefusal refusal.Write count = ⊥
