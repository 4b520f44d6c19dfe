-- The machine's fork points that the run's fork points represent, and which indexes they may name.
use Rattle.std.specs.Prelude.{ℕ, ◌<◌, ◌≤◌, List, [], ◌∷◌, length, map, reverse, take, drop, slice_index_or, Vec}
use Rattle.std.specs.declared.alloc.Global.{Global}
use Rattle.jq_ast.specs.Named.{named}
use Rattle.jq_meaning.specs.Builtins.{steps_between, plain_items, numbers_up_to}
use Rattle.jq_meaning.specs.Env.{Env, find_inputs}
use Rattle.jq_meaning.specs.Runs.{Run, Done}
use Rattle.jq_meaning.specs.machine.State as machine
use Rattle.jq_state.specs.Items.{item_of}
use Rattle.jq_state.specs.Links.{scope_in, last_mark}
use Rattle.jq_state.specs.declared.frames.Frame.{Frame}
use Rattle.jq_state.specs.declared.frames.Scope.{Scope}
use Rattle.jq_state.specs.declared.items.Item.{Item}
use Rattle.jq_state.specs.declared.forks.Choice.{Choice}
use Rattle.jq_state.specs.declared.forks.Choice.TheVariants as choice
use Rattle.jq_state.specs.declared.forks.Fork.{Fork}

-- A run without its first items.
abbrev pub run_after : {A : Type 0} → ℕ → Run A → Run A
run_after i r = record { items = drop i r.items; ending = r.ending }

abbrev pub choice_in : Choice → machine.Scope → machine.Choice
choice_in (choice.Other t x) p = machine.other (named t.now) p (item_of x)
choice_in (choice.Remaining xs) p = machine.remaining (record { items = reverse (map item_of xs.items); ending = Done })
choice_in (choice.Numbers next end step) p = machine.remaining (numbers_up_to next end step)
choice_in (choice.Inputs index) p = machine.remaining (run_after index (plain_items (find_inputs p.env)))
choice_in choice.Collected p = machine.collected
choice_in choice.LastState p = machine.last_state
choice_in choice.NoMore p = machine.no_more
choice_in (choice.RightSide t x) p = machine.right_side (named t.now) p (item_of x)
choice_in (choice.CheckUpdate height) p = machine.check_update height

-- How many numbers of a range, or items of a vector, a choice still has to give.
abbrev pub left_in : Choice → ℕ
left_in (choice.Remaining xs) = length xs.items
left_in (choice.Numbers next end step) = steps_between next end step
left_in c = 0

abbrev pub cell_of : Vec Item Global → machine.Cell
cell_of c = map item_of c.items

-- a fork point with a choice in a scope, a cell and frames
abbrev pub forked : List Env → Choice → Vec Item Global → Scope → List machine.Frame → machine.ForkPoint
forked envs c cell p k = machine.fork (choice_in c (scope_in envs p)) (cell_of cell) k

-- Computed from the environments and the continuations by index.
abbrev pub fork_in : List Env → List (List machine.Frame) → Fork → machine.ForkPoint
fork_in envs ks f = machine.fork (choice_in f.choice (scope_in envs f.scope)) (cell_of f.cell) (slice_index_or ks f.next [])

-- A fork point names only environments and frames below its marks, and so do the frames below its mark.
abbrev pub ForkFits : List Frame → Fork → Type 0
ForkFits fs f = (f.next ≤ f.frames) × (f.scope.env < f.envs) × (last_mark 0 (take f.frames fs) ≤ f.envs)

-- Each fork point fits, and the marks do not fall from one fork point to the next, between the first two numbers and the counts.
abbrev pub ForksFit : (frames envs : ℕ) → List Frame → (height count : ℕ) → List Fork → Type 0
ForksFit frames envs fs height count [] = (frames ≤ height) × (envs ≤ count)
ForksFit frames envs fs height count (f ∷ forks) = (frames ≤ f.frames) × (envs ≤ f.envs) × ForkFits fs f × ForksFit f.frames f.envs fs height count forks

-- How many frames the newest fork point needs again: those below its mark.
abbrev pub last_frames : ℕ → List Fork → ℕ
last_frames frames [] = frames
last_frames frames (f ∷ forks) = last_frames f.frames forks

-- How many environments the newest fork point needs again: those below its mark.
abbrev pub last_envs : ℕ → List Fork → ℕ
last_envs envs [] = envs
last_envs envs (f ∷ forks) = last_envs f.envs forks

-- How many numbers or items the newest fork point still has to give.
abbrev pub last_left : ℕ → List Fork → ℕ
last_left left [] = left
last_left left (f ∷ forks) = last_left (left_in f.choice) forks
