-- What was answered of the values that are complete so far.
use Rattle.std.specs.Prelude.{◌≡◌, ℕ, List, ◌++◌}
use Rattle.jv_data.specs.Value.{Value}
use Rattle.jv_text.specs.Cutting.{HasGiven, is_finished, fed_count}
use Rattle.jv_text.specs.declared.cutting.Cutter.{Cutter}
use Rattle.jq_devices.specs.Writing.{AppendsFirst}
use Rattle.jq_filters.specs.Outcomes.{runs_printed, runs_reported}
use Rattle.jq_filters.specs.Runner.{job_of}
use Rattle.jq_filters.specs.private.Made.{MayBeMade}
use Rattle.jq_filters.specs.declared.runner.Runner.{Runner}
use Rattle.jq_filters.specs.declared.settings.Settings.{Settings}
use Rattle.jq_stream.specs.Streams.{Outputs}
use Rattle.jq_stream.specs.private.Answering.{IsAnswered, IsAnsweredFirst, runs_on}
use Rattle.jq_stream.specs.private.Cutting.{IsReadied}
use Rattle.jq_stream.specs.declared.answers.OutputBuffers.{OutputBuffers}
use Rattle.jq_stream.specs.declared.answers.Reached.{Reached}

-- The filter was run on the next values that the cutter gave, up to there.
abbrev pub AnswersUpTo : Reached → Settings → Runner → (cutter_old cutter_new : Cutter) → (old new : OutputBuffers) → (before after : Outputs) → Type 0
AnswersUpTo reached settings runner cutter_old cutter_new old new before after =
    (given : List Value) (fed : List ℕ) → HasGiven cutter_old given fed
    → (values : List Value) × IsReadied cutter_new reached (runs_on (job_of settings runner) values) given values fed
    × IsAnswered settings.style (runs_on (job_of settings runner) values) old new before after

-- The filter may be run on the next values that the cutter gave, and the first bytes of what these runs write are in the buffers or were
-- written.
abbrev pub AnswersFirst : Settings → Runner → (cutter_old cutter_new : Cutter) → (old new : OutputBuffers) → (before after : Outputs) → Type 0
AnswersFirst settings runner cutter_old cutter_new old new before after =
    (given : List Value) (fed : List ℕ) → HasGiven cutter_old given fed
    → (values : List Value) × HasGiven cutter_new (given ++ values) fed × MayBeMade (runs_on (job_of settings runner) values)
    × IsAnsweredFirst settings.style (runs_on (job_of settings runner) values) old new before after

-- The filter may be run on the next values that the cutter gave, and the first bytes of what these runs write were written.
abbrev pub WritesFirstReady : Settings → Runner → (cutter_old cutter_new : Cutter) → (before after : Outputs) → Type 0
WritesFirstReady settings runner cutter_old cutter_new before after =
    (given : List Value) (fed : List ℕ) → HasGiven cutter_old given fed
    → (values : List Value) × HasGiven cutter_new (given ++ values) fed × MayBeMade (runs_on (job_of settings runner) values)
    × AppendsFirst before.output after.output (runs_printed settings.style (runs_on (job_of settings runner) values))
    × AppendsFirst before.errors after.errors (runs_reported (runs_on (job_of settings runner) values))

-- A cutter was fed nothing more.
pub record IsFedAlike (old new : Cutter) : Type 0 where
  pub finished : is_finished new ≡ is_finished old
  pub count : fed_count new ≡ fed_count old
