-- What was answered so far for the values of a stream.
use Rattle.std.specs.Prelude.{◌≡◌, ℕ, Bool, List, [], ◌∷◌, ◌++◌, ◌||◌, false, if◌then◌else◌, map}
use Rattle.std.specs.Io.KnownBytes.{Appends}
use Rattle.jv_data.specs.Value.{Value}
use Rattle.jv_text.specs.declared.printing.Style.{Style}
use Rattle.jq_natives.specs.Answers.{is_true}
use Rattle.jq_meaning.specs.Runs.{Run, Item, none, value_in}
use Rattle.jq_engine.specs.Engine.{IsRest}
use Rattle.jq_engine.specs.declared.engines.Engine.{Engine}
use Rattle.jq_devices.specs.Writing.{AppendsFirst}
use Rattle.jq_filters.specs.Outcomes.{Job, last_by, runs_printed, runs_reported, any_failure, up_to_halt}
use Rattle.jq_filters.specs.Outcomes as outcomes
use Rattle.jq_filters.specs.Pieces.{last_of}
use Rattle.jq_filters.specs.Runner.{job_of}
use Rattle.jq_filters.specs.declared.runner.Runner.{Runner}
use Rattle.jq_filters.specs.declared.settings.Settings.{Settings}
use Rattle.jq_stream.specs.Streams.{Outputs}
use Rattle.jq_stream.specs.private.Sending.{IsSent, IsSentFirst}
use Rattle.jq_stream.specs.declared.answers.OutputBuffers.{OutputBuffers}

-- the last output after these items, if `before` was the last output before them
abbrev pub last_after_items : outcomes.Last → List Item → outcomes.Last
last_after_items before [] = before
last_after_items before (x ∷ xs) = last_after_items (last_by (is_true (value_in x))) xs

-- the last output after these runs
abbrev pub last_after : outcomes.Last → List (Run Item) → outcomes.Last
last_after before [] = before
last_after before (r ∷ rs) = last_after (last_after_items before r.items) rs

-- the runs on these values, where `inputs` returns nothing
abbrev pub runs_on : Job → List Value → List (Run Item)
runs_on job values = map (job.run none) values

-- These runs were made, and what they write is in the buffers or was written.
pub record IsAnswered (style : Style) (runs : List (Run Item)) (old new : OutputBuffers) (before after : Outputs) : Type 0 where
  pub output : IsSent old.printed.items new.printed.items before.output after.output (runs_printed style runs)
  pub errors : IsSent old.reported.items new.reported.items before.errors after.errors (runs_reported runs)
  pub failed : new.failed ≡ (old.failed || any_failure runs)
  pub last : last_of new.last ≡ last_after (last_of old.last) runs

-- The first bytes of what these runs write are in the buffers or were written.
pub record IsAnsweredFirst (style : Style) (runs : List (Run Item)) (old new : OutputBuffers) (before after : Outputs) : Type 0 where
  pub output : IsSentFirst old.printed.items new.printed.items before.output after.output (runs_printed style runs)
  pub errors : IsSentFirst old.reported.items new.reported.items before.errors after.errors (runs_reported runs)

-- The filter was run on these values with these settings.
abbrev pub IsAnsweredBy : Settings → Runner → List Value → (old new : OutputBuffers) → (before after : Outputs) → Type 0
IsAnsweredBy settings runner values old new before after = IsAnswered settings.style (runs_on (job_of settings runner) values) old new before after

-- The first bytes of what these runs write are in the buffers or were written.
abbrev pub IsAnsweredFirstBy : Settings → Runner → List Value → (old new : OutputBuffers) → (before after : Outputs) → Type 0
IsAnsweredFirstBy settings runner values old new before after = IsAnsweredFirst settings.style (runs_on (job_of settings runner) values) old new before after

-- The filter was run on these values, up to one whose run halts.
abbrev pub IsAnsweredToHalt : Settings → Runner → List Value → (old new : OutputBuffers) → (before after : Outputs) → Type 0
IsAnsweredToHalt settings runner values old new before after = IsAnswered settings.style (up_to_halt (runs_on (job_of settings runner) values)) old new before after

-- The rest of an engine's run was made.
abbrev pub IsRestAnswered : Style → Engine → (old new : OutputBuffers) → (before after : Outputs) → Type 0
IsRestAnswered style engine old new before after = (r : Run Item) → IsRest engine r → IsAnswered style (r ∷ []) old new before after

-- The first bytes of what this rest writes are in the buffers or were written.
abbrev pub IsRestAnsweredFirst : Style → Engine → (old new : OutputBuffers) → (before after : Outputs) → Type 0
IsRestAnsweredFirst style engine old new before after = (r : Run Item) → IsRest engine r → IsAnsweredFirst style (r ∷ []) old new before after

-- These bytes were printed, and nothing was reported.
pub record IsPrinted (bytes : List ℕ) (old new : OutputBuffers) (before after : Outputs) : Type 0 where
  pub output : IsSent old.printed.items new.printed.items before.output after.output bytes
  pub errors : IsSent old.reported.items new.reported.items before.errors after.errors []
  pub failed : new.failed ≡ old.failed

-- The first of these bytes were printed, and nothing was reported.
pub record IsPrintedFirst (bytes : List ℕ) (old new : OutputBuffers) (before after : Outputs) : Type 0 where
  pub output : IsSentFirst old.printed.items new.printed.items before.output after.output bytes
  pub errors : IsSentFirst old.reported.items new.reported.items before.errors after.errors []

-- The next piece of a text was printed, and these bytes remain if there are more.
abbrev pub IsPiecePrinted : (more : Bool) → (text rest : List ℕ) → (old new : OutputBuffers) → (before after : Outputs) → Type 0
IsPiecePrinted more text rest old new before after = (piece : List ℕ) × (text ≡ piece ++ (if more then rest else [])) × IsPrinted piece old new before after

-- the buffers are empty
pub record HasEmptyBuffers (answers : OutputBuffers) : Type 0 where
  pub printed : answers.printed.items ≡ []
  pub reported : answers.reported.items ≡ []

-- no run was made
pub record IsFresh (answers : OutputBuffers) : Type 0 where
  pub failed : answers.failed ≡ false
  pub last : last_of answers.last ≡ outcomes.nothing

-- ---- the buffers are written

-- What was in these buffers was written.
pub record IsWritten (buffers : OutputBuffers) (before after : Outputs) : Type 0 where
  pub output : Appends before.output after.output buffers.printed.items
  pub errors : Appends before.errors after.errors buffers.reported.items

-- The first bytes of what was in each of them were written.
pub record IsWrittenFirst (buffers : OutputBuffers) (before after : Outputs) : Type 0 where
  pub output : AppendsFirst before.output after.output buffers.printed.items
  pub errors : AppendsFirst before.errors after.errors buffers.reported.items

-- The buffers are empty, and what is known of the runs is unchanged.
pub record IsEmptied (old new : OutputBuffers) : Type 0 where
  pub empty : HasEmptyBuffers new
  pub failed : new.failed ≡ old.failed
  pub last : new.last ≡ old.last
