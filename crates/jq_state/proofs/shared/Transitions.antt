-- States of the machine, by what their parts are.
use Rattle.std.proofs.Common.{◌≡◌, ◌∙◌, List, sym, ap}
use Rattle.jv_data.specs.Value.{Value}
use Rattle.jq_tree.specs.Tree.{Tree}
use Rattle.jq_meaning.specs.Runs.{Run, Item}
use Rattle.jq_meaning.specs.machine.State.{Frame, ForkPoint, state, evaluate}
use Rattle.jq_state.specs.Environments.{envs_of}
use Rattle.jq_state.specs.Links.{scope_in}
use Rattle.jq_state.specs.Views.{envs_in, frames_in, forks_in}
use Rattle.jq_state.specs.declared.frames.Scope.{Scope}
use Rattle.jq_state.specs.declared.states.State.{State}

-- a filter is evaluated where the environments are as before
pub evaluates : (before after : State) (t : Tree) (p : Scope) (inputs : Run Value) {x y : Item} {k : List Frame} {fs : List ForkPoint} → after.nodes ≡ before.nodes → x ≡ y
    → frames_in inputs after ≡ k → forks_in inputs after ≡ fs
    → state (evaluate t (scope_in (envs_in inputs before) p) y) k fs ≡ state (evaluate t (scope_in (envs_in inputs after) p) x) (frames_in inputs after) (forks_in inputs after)
evaluates before after t p inputs {x} {y} {k} {fs} e i f g =
    ap (λ ns. state (evaluate t (scope_in (envs_of inputs ns) p) y) k fs) (sym e)
    ∙ ap (λ z. state (evaluate t (scope_in (envs_in inputs after) p) z) k fs) (sym i)
    ∙ ap (λ l. state (evaluate t (scope_in (envs_in inputs after) p) x) l fs) (sym f)
    ∙ ap (λ gs. state (evaluate t (scope_in (envs_in inputs after) p) x) (frames_in inputs after) gs) (sym g)
