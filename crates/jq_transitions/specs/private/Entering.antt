-- What a form does first.
use Rattle.std.specs.Prelude.{◌∷◌}
use Rattle.jq_tree.specs.Tree.{Tree}
use Rattle.jq_meaning.specs.Runs as runs
use Rattle.jq_meaning.specs.machine.Evaluating.{enter}
use Rattle.jq_meaning.specs.machine.State as machine
use Rattle.jq_state.specs.Items.{item_of}
use Rattle.jq_state.specs.Links.{scope_in}
use Rattle.jq_state.specs.Nexts.{ComesTo}
use Rattle.jq_state.specs.Views.{envs_in, frames_in, forks_in}
use Rattle.jq_state.specs.declared.frames.Scope.{Scope}
use Rattle.jq_state.specs.declared.items.Item.{Item}
use Rattle.jq_state.specs.declared.next.Next.{Next}
use Rattle.jq_state.specs.declared.states.State.{State}

-- After a transition, a run's state represents the machine's state after the first transition of a tree in a scope on an item.
abbrev pub Enters : Tree → (before : State) → Scope → Item → (after : State) → Next → Type 0
Enters t before p x after n = ComesTo (λ inputs. enter t (scope_in (envs_in inputs before) p) (item_of x) (frames_in inputs before) (forks_in inputs before)) after n

-- After a transition, a run's state represents the machine's state that evaluates a tree in a scope on an item, with a frame that waits for what it gives.
abbrev pub Runs : (frame : machine.Scope → machine.Frame) → Tree → (before : State) → Scope → runs.Item → (after : State) → Next → Type 0
Runs frame t before p x after n = ComesTo (λ inputs. machine.state (machine.evaluate t (scope_in (envs_in inputs before) p) x) (frame (scope_in (envs_in inputs before) p) ∷ frames_in inputs before) (forks_in inputs before)) after n
