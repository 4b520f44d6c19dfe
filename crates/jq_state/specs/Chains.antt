-- The continuations that the frames of a run represent, by index.
use Rattle.std.specs.Prelude.{◌≡◌, ℕ, ◌+◌, ◌≤◌, List, [], ◌∷◌, ◌++◌, length, take, slice_index_or}
use Rattle.jq_meaning.specs.Env.{Env}
use Rattle.jq_state.specs.Builds.{builds}
use Rattle.jq_meaning.specs.machine.State as machine
use Rattle.jq_state.specs.Links.{frame_in, FrameFits, last_mark}
use Rattle.jq_state.specs.declared.frames.Frame.{Frame}
use Rattle.jq_state.specs.declared.frames.Frames.{Frames}

abbrev pub linked : List Env → List (List machine.Frame) → Frame → List machine.Frame
linked envs known f = frame_in envs f ∷ slice_index_or known f.next []

-- The continuation at each index: the frames from there on, the newest first.
abbrev pub continuations_of : List Env → List Frame → List (List machine.Frame)
continuations_of envs fs = builds (linked envs) ([] ∷ []) fs

abbrev pub continuations : List Env → Frames → List (List machine.Frame)
continuations envs k = continuations_of envs k.frames.items

abbrev pub frames_at : List Env → Frames → ℕ → List machine.Frame
frames_at envs k i = slice_index_or (continuations envs k) i []

abbrev pub height_of : Frames → ℕ
height_of k = length k.frames.items

-- The mark of the newest frame.
abbrev pub mark_of : Frames → ℕ
mark_of k = last_mark 0 k.frames.items

-- The newest frame was removed.
pub record Popped (before : List Frame) (f : Frame) (after : List Frame) : Type 0 where
  pub items : before ≡ after ++ f ∷ []
  pub count : length before ≡ length after + 1
  pub fits : FrameFits (length after) f
  pub mark : last_mark 0 before ≡ f.mark
  pub rising : last_mark 0 after ≤ f.mark
  pub others : (envs : List Env) → continuations_of envs after ≡ take (length before) (continuations_of envs before)
  pub newest : (envs : List Env) → slice_index_or (continuations_of envs before) (length before) [] ≡ frame_in envs f ∷ slice_index_or (continuations_of envs before) f.next []
