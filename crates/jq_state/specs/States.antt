-- All indexes and marks of a state fit.
use Rattle.std.specs.Prelude.{ℕ, ◌≤◌, List}
use Rattle.jq_state.specs.Environments.{count_of, first_count}
use Rattle.jq_state.specs.Chains.{height_of, mark_of}
use Rattle.jq_state.specs.Forks.{ForksFit}
use Rattle.jq_state.specs.declared.environments.Nodes.{Nodes}
use Rattle.jq_state.specs.declared.frames.Frames.{Frames}
use Rattle.jq_state.specs.declared.forks.Fork.{Fork}

-- `top` is at most the number of frames, the newest frame's mark at most the number of environments, and all fork points fit.
abbrev pub Fits : Nodes → Frames → List Fork → (top : ℕ) → Type 0
Fits ns k forks top = (top ≤ height_of k) × (mark_of k ≤ count_of ns) × ForksFit 0 (first_count ns) k.frames.items (height_of k) (count_of ns) forks
