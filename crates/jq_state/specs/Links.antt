-- The machine's frame that a frame represents, and which indexes it may name.
use Rattle.std.specs.Prelude.{ℕ, ◌+◌, ◌<◌, ◌≤◌, List, [], ◌∷◌}
use Rattle.jq_meaning.specs.Env.{Env}
use Rattle.jq_meaning.specs.machine.State as machine
use Rattle.jq_state.specs.Nodes.{env_at}
use Rattle.jq_state.specs.Steps.{step_in}
use Rattle.jq_state.specs.declared.frames.Frame.{Frame}
use Rattle.jq_state.specs.declared.frames.Scope.{Scope}

abbrev pub scope_in : List Env → Scope → machine.Scope
scope_in envs p = record { env = env_at envs p.env; depth = p.depth; level = p.level }

abbrev pub frame_in : List Env → Frame → machine.Frame
frame_in envs f = step_in f.step (scope_in envs f.scope)

-- A frame after `count` others names one of them or the end, and an environment below its mark.
abbrev pub FrameFits : ℕ → Frame → Type 0
FrameFits count f = (f.next ≤ count) × (f.scope.env < f.mark)

-- Each frame fits, and the marks do not fall from one frame to the next.
abbrev pub FramesFit : (count mark : ℕ) → List Frame → Type 0
FramesFit count mark [] = Unit {0}
FramesFit count mark (f ∷ fs) = FrameFits count f × (mark ≤ f.mark) × FramesFit (count + 1) f.mark fs

abbrev pub last_mark : ℕ → List Frame → ℕ
last_mark mark [] = mark
last_mark mark (f ∷ fs) = last_mark f.mark fs
