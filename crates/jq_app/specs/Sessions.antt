-- What the command does if its words ask for a session: it answers the lines of a script over inputs that the script edits.
use Rattle.std.specs.Prelude.{◌≡◌, ◌≢◌, ◌⊎◌, ℕ, List, [], ◌++◌, Bool, Option, Some, None, codes, length, nat_lt, true, if◌then◌else◌}
use Rattle.jv_data.specs.Value.{Value}
use Rattle.jv_text.specs.Stream.{StreamEnd, Values, clean, open_text, fault, stream}
use Rattle.jq_syntax.specs.Chosen.{Chosen}
use Rattle.jq_devices.specs.Faults.{error_start}
use Rattle.jq_devices.specs.declared.faults.StreamFault.{StreamFault}
use Rattle.jq_devices.specs.declared.faults.StreamFault.TheVariants as stream_fault
use Rattle.jq_filters.specs.Outcomes.{Mode, Job, Outcome, text_line}
use Rattle.jq_stream.specs.Stopped.{WritesFirst}
use Rattle.jq_devices.specs.Reading.{IsWhole}
use Rattle.jq_pages.specs.Edits.{most_inputs}
use Rattle.jq_session.specs.Starts.{IsFirstRun}
use Rattle.jq_session.specs.States.{Plan, IsPlanOf, State}
use Rattle.jq_script.specs.Script.{Point, point}
use Rattle.jq_script.specs.Serving.{Serving, serving}
use Rattle.jq_script.specs.Serving as script
use Rattle.jq_filters.specs.Accepted.{Accepts}
use Rattle.jq_run.specs.Filters.{IsAnswered, IsRefusedFilter, NothingWritten, refusal}
use Rattle.jq_app.specs.Stages.{Stage}

-- The filter is accepted.
abbrev pub IsAccepted : Chosen → List ℕ → Type 0
IsAccepted o text = (mode : Mode) × (job : Job) × Accepts o text mode job

-- ---- the first inputs: the texts of the files, or none if the words name no file

-- The filter is accepted, and the files hold these texts.
pub record Opens (files : Option (List ℕ)) (o : Chosen) (text : List ℕ) (mode : Mode) (job : Job) (found : Values) : Type 0 where
  pub accepts : Accepts o text mode job
  pub bytes : List ℕ
  pub whole : IsWhole bytes files
  pub texts : found ≡ stream true bytes

abbrev pub too_many : Outcome
too_many = refusal (error_start ++ codes "too many inputs") 2

abbrev pub if_room : List Value → Option Outcome
if_room values = if nat_lt most_inputs (length values) then Some too_many else None

-- why these texts start no session, if they do not: one of them can't be read, or there are too many
abbrev pub no_start : List Value → StreamEnd → Option Outcome
no_start values clean = if_room values
no_start values open_text = if_room values
no_start values (fault f) = Some (record { output = []; errors = text_line f; status = 2 })

-- No session starts: the filter is refused, or the files' texts start none.
abbrev pub IsUnserved : (files : Option (List ℕ)) → Chosen → List ℕ → Outcome → Type 0
IsUnserved files o text outcome =
    IsRefusedFilter o text outcome
    ⊎ ((mode : Mode) × (job : Job) × (found : Values) × Opens files o text mode job found × (no_start found.values found.end ≡ Some outcome))

-- ---- the session

-- the state of a filter over the first inputs
abbrev pub first_state : Mode → Job → Plan → List Value → State
first_state mode job plan inputs = record { mode = mode; job = job; plan = plan; inputs = inputs }

-- A session over the first inputs, whose mode, job and plan are those of the filter, came to another point; the script was read
-- from the standard input, the answers were written to standard output, and nothing was reported. The starts are those of all filters.
pub record Serves (files : Option (List ℕ)) (o : Chosen) (text : List ℕ) (old new : Stage) (Served : Serving → Serving → Type 0) : Type 0 where
  pub mode : Mode
  pub job : Job
  pub found : Values
  pub opens : Opens files o text mode job found
  pub plan : Plan
  pub planned : IsPlanOf o mode opens.accepts.prelude opens.accepts.tree plan
  pub starts : no_start found.values found.end ≡ None
  pub begun : ℕ
  pub first_run : IsFirstRun (first_state mode job plan found.values) old.starts begun
  pub last : Point
  pub counted : last.starts ≡ new.starts
  pub served : Served (serving old.streams.remaining old.streams.outputs.output (point o (first_state mode job plan found.values) begun))
      (serving new.streams.remaining new.streams.outputs.output last)
  pub unreported : old.streams.outputs.errors ≡ new.streams.outputs.errors

-- Memory ran out in the first runs, which start the filter no more often than those of a session that is served.
pub record RunsOut (files : Option (List ℕ)) (o : Chosen) (text : List ℕ) (old_starts new_starts : ℕ) : Type 0 where
  pub mode : Mode
  pub job : Job
  pub found : Values
  pub opens : Opens files o text mode job found
  pub plan : Plan
  pub planned : IsPlanOf o mode opens.accepts.prelude opens.accepts.tree plan
  pub starts : no_start found.values found.end ≡ None
  pub first_run : IsFirstRun (first_state mode job plan found.values) old_starts new_starts

-- The script was not read, and the filter was not started.
abbrev pub IsUnstarted : (old new : Stage) → Type 0
IsUnstarted old new = (old.streams.remaining ≡ new.streams.remaining) × (old.starts ≡ new.starts)

-- The whole script was answered, with `--follow` or without; or no session started, the script was not read, and the
-- reason was written. The answer is the status.
abbrev pub IsSessionDone : (files : Option (List ℕ)) → (follow : Bool) → Chosen → List ℕ → (old new : Stage) → ℕ → Type 0
IsSessionDone files follow o text old new answer =
    (Serves files o text old new (script.IsServed follow) × (answer ≡ 0))
    ⊎ (IsUnstarted old new × (outcome : Outcome) × IsUnserved files o text outcome × IsAnswered outcome old.streams.outputs new.streams.outputs answer)

-- A fault stopped the session, in which lines are answered in one pass, or the report of why none starts. Or nothing was
-- written: a file could not be read, or memory ran out.
abbrev pub IsSessionStopped : StreamFault → (files : Option (List ℕ)) → (follow : Bool) → Chosen → List ℕ → (old new : Stage) → Type 0
IsSessionStopped f files follow o text old new =
    Serves files o text old new (λ before after. script.IsStopped follow f before after × script.IsOnePass follow before after)
    ⊎ (IsUnstarted old new × (outcome : Outcome) × IsUnserved files o text outcome × WritesFirst outcome old.streams.outputs new.streams.outputs × (f ≢ stream_fault.Read))
    ⊎ (IsUnstarted old new × NothingWritten old.streams new.streams × (f ≢ stream_fault.Write))
    ⊎ ((old.streams.remaining ≡ new.streams.remaining) × RunsOut files o text old.starts new.starts × NothingWritten old.streams new.streams × (f ≡ stream_fault.NoMemory))
