-- The machine's frames and fork points that a run's state represents.
use Rattle.std.specs.Prelude.{◌≡◌, ℕ, List, [], ◌∷◌, map, max, reverse, take, Bool, true, false}
use Rattle.jv_data.specs.Value.{Value}
use Rattle.jq_meaning.specs.Env.{Env}
use Rattle.jq_meaning.specs.Runs.{Run}
use Rattle.jq_meaning.specs.machine.State as machine
use Rattle.jq_state.specs.Environments.{envs_of, first_count}
use Rattle.jq_state.specs.Chains.{continuations, frames_at}
use Rattle.jq_state.specs.Forks.{fork_in, last_envs, last_frames, last_left}
use Rattle.jq_state.specs.Links.{last_mark}
use Rattle.jq_state.specs.declared.states.State.{State}

abbrev pub envs_in : (inputs : Run Value) → State → List Env
envs_in inputs s = envs_of inputs s.nodes

abbrev pub frames_in : (inputs : Run Value) → State → List machine.Frame
frames_in inputs s = frames_at (envs_in inputs s) s.frames s.top

abbrev pub forks_in : (inputs : Run Value) → State → List machine.ForkPoint
forks_in inputs s = reverse (map (fork_in (envs_in inputs s) (continuations (envs_in inputs s) s.frames)) s.forks.items)

-- How many numbers of a range, or items of a vector, the newest fork point still has to give.
abbrev pub newest_left : State → ℕ
newest_left s = last_left 0 s.forks.items

-- How many frames are needed: those up to the one that gets the next item, and those that the newest fork point needs again.
abbrev pub needed_frames : State → ℕ
needed_frames s = max s.top (last_frames 0 s.forks.items)

-- How many environments are needed: those below the mark of the newest needed frame, and those that the newest fork point
-- needs again; without a fork point, the program's own.
abbrev pub needed_envs : State → ℕ
needed_envs s = max (last_mark 0 (take (needed_frames s) s.frames.frames.items)) (last_envs (first_count s.nodes) s.forks.items)

-- ---- a list without its first element, and whether a list is empty

abbrev pub without_first : {A : Type 0} → List A → List A
without_first [] = []
without_first (x ∷ xs) = xs

-- This is the first element of a list.
abbrev pub IsFirst : {A : Type 0} → A → List A → Type 0
IsFirst x xs = xs ≡ x ∷ without_first xs

abbrev pub is_empty : {A : Type 0} → List A → Bool
is_empty [] = true
is_empty (x ∷ xs) = false
