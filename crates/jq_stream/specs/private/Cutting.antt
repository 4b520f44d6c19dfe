-- Which values of a stream were given.
use Rattle.std.specs.Prelude.{◌≡◌, ℕ, List, ◌++◌, Option, Some, None}
use Rattle.jv_data.specs.Value.{Value}
use Rattle.jv_text.specs.Cutting.{HasGiven, AllGiven, is_finished, fault_of}
use Rattle.jv_text.specs.declared.cutting.Cutter.{Cutter}
use Rattle.jv_text.specs.declared.faults.Fault.{Fault}
use Rattle.jq_meaning.specs.Runs.{Run, Item}
use Rattle.jq_filters.specs.Outcomes.{first_halt}
use Rattle.jq_filters.specs.private.Made.{EndsInHalt}
use Rattle.jq_stream.specs.declared.answers.Reached.{Reached}
use Rattle.jq_stream.specs.declared.answers.Reached.TheVariants as reached

-- the cutter was fed some bytes and gave their first values
abbrev pub IsCutting : Cutter → Type 0
IsCutting cutter = (given : List Value) × (fed : List ℕ) × HasGiven cutter given fed

-- a fault was met, or these are all values that are complete so far
abbrev pub IsStop : Option Fault → Cutter → List Value → List ℕ → Type 0
IsStop (Some f) cutter given fed = fault_of cutter ≡ Some f
IsStop None cutter given fed = AllGiven (is_finished cutter) given fed

-- After the values that were given before, the cutter gave others, up to a fault or all that are complete so far.
abbrev pub GivesUpTo : Option Fault → (old new : Cutter) → (given_old given_new : List Value) → Type 0
GivesUpTo stop old new given_old given_new = (fed : List ℕ) → HasGiven old given_old fed → HasGiven new given_new fed × IsStop stop new given_new fed

-- Up to where values were answered, by the runs on them: all values that are complete so far, all in front of a fault, or those up to
-- a run that halts.
abbrev pub IsReached : Reached → List (Run Item) → Cutter → List Value → List ℕ → Type 0
IsReached reached.All runs cutter given fed = AllGiven (is_finished cutter) given fed × (first_halt runs ≡ None)
IsReached (reached.Fault f) runs cutter given fed = (fault_of cutter ≡ Some f) × (first_halt runs ≡ None)
IsReached (reached.Halt status) runs cutter given fed = EndsInHalt status runs

-- These values come after those that were given before, up to there.
pub record IsReadied (cutter : Cutter) (reached : Reached) (runs : List (Run Item)) (given values : List Value) (fed : List ℕ) : Type 0 where
  pub has_given : HasGiven cutter (given ++ values) fed
  pub up_to : IsReached reached runs cutter (given ++ values) fed
