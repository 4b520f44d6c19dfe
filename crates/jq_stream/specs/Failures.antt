-- The failures of the input and of both outputs.
use Rattle.std.specs.Prelude.{◌⊎◌, ℕ}
use Rattle.jq_devices.specs.Watched.{HasFailed}

-- the counts of failed calls of both outputs
pub record OutputFailures : Type 0 where
  pub output : ℕ
  pub errors : ℕ

-- the counts of failed calls of the input and of both outputs
pub record StreamFailures : Type 0 where
  pub input : ℕ
  pub outputs : OutputFailures

-- One of the outputs failed.
abbrev pub AnOutputHasFailed : (old new : OutputFailures) → Type 0
AnOutputHasFailed old new = HasFailed old.output new.output ⊎ HasFailed old.errors new.errors
