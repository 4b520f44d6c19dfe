-- Frames that only pass items on.
use Rattle.std.specs.Prelude.{◌≡◌, List}
use Rattle.jq_meaning.specs.Runs.{Item}
use Rattle.jq_meaning.specs.machine.Giving.{receive}
use Rattle.jq_meaning.specs.machine.State.{Frame, ForkPoint, state, give}
use Rattle.jq_state.specs.Views.{IsFirst}

-- The frame gives each item to the frame outside of it.
abbrev pub Passes : Frame → Type 0
Passes f = (x : Item) (k : List Frame) (fs : List ForkPoint) → receive f x k fs ≡ state (give x) k fs

-- The first frame does.
pub record PassesFirst (k : List Frame) : Type 0 where
  pub frame : Frame
  pub first : IsFirst frame k
  pub passes : Passes frame
