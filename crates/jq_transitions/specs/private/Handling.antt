-- What an error and a break find in the frames, and what a fork point does.
use Rattle.std.specs.Prelude.{◌≡◌, ℕ, ◌<◌, suc, List, ◌∷◌, if◌then◌else◌, Option, Some, None}
use Rattle.jv_data.specs.Value.{Value}
use Rattle.jq_ast.specs.Named.{named}
use Rattle.jq_meaning.specs.Env.{Env}
use Rattle.jq_meaning.specs.Runs.{Raised, Broken, plain}
use Rattle.jq_meaning.specs.machine.Machine.{find_handler, find_label, resume}
use Rattle.jq_meaning.specs.machine.Stack.{cut}
use Rattle.jq_meaning.specs.machine.State.{Frame, ForkPoint, Progress, state, evaluate, go_back, operation, refuse, moves, finishes}
use Rattle.jq_state.specs.Forks.{cell_of, choice_in}
use Rattle.jq_state.specs.Links.{scope_in}
use Rattle.jq_state.specs.Nexts.{Transition}
use Rattle.jq_state.specs.declared.forks.Fork.{Fork}
use Rattle.jq_transitions.specs.declared.backtracking.handlers.Handler.{Handler}
use Rattle.jq_transitions.specs.declared.backtracking.handlers.Handler.TheVariants as handler

-- a handler's environment is there
abbrev pub HandlerFits : ℕ → Handler → Type 0
HandlerFits count (handler.Catch h t p refuses) = p.env < count
HandlerFits count (handler.EndLeftSide h) = Unit {0}

-- what a handler does with an error, in the frames outside of it
abbrev pub handled : List Env → Handler → Value → List Frame → List ForkPoint → Progress
handled envs (handler.Catch h t p refuses) v k fs = moves (state (evaluate (named t.now) (scope_in envs p) (plain v)) (if refuses then operation refuse ∷ k else k) (cut h fs))
handled envs (handler.EndLeftSide h) v k fs = moves (state go_back k (cut (suc h) fs))

-- with no handler the run ends
abbrev pub caught : List Env → Option Handler → Value → List Frame → List ForkPoint → Progress
caught envs None v k fs = finishes (Raised v)
caught envs (Some h) v k fs = handled envs h v k fs

-- a frame handles an error, or a frame outside of it does
abbrev pub handled_at : List Env → Option Handler → Value → List Frame → List ForkPoint → Progress
handled_at envs None v k fs = find_handler v k fs
handled_at envs (Some h) v k fs = handled envs h v k fs

-- a break leaves the label at a height; with no label the run ends
abbrev pub left_at : ℕ → Option ℕ → List Frame → List ForkPoint → Progress
left_at level None k fs = finishes (Broken level)
left_at level (Some h) k fs = moves (state go_back k (cut h fs))

-- a frame is the label of a level, or the label is outside of it
abbrev pub label_at : ℕ → Option ℕ → List Frame → List ForkPoint → Progress
label_at level None k fs = find_label level k fs
label_at level (Some h) k fs = moves (state go_back k (cut h fs))

-- An error finds this handler in the frames, and these are outside of it.
abbrev pub Finds : List Env → (before after : List Frame) → Option Handler → Type 0
Finds envs before after found = (v : Value) (fs : List ForkPoint) → find_handler v before fs ≡ caught envs found v after fs

-- ---- a fork point

-- a fork point's choice is made
abbrev pub resumed : Fork → Transition
resumed f p = resume (choice_in f.choice p) (cell_of f.cell)
