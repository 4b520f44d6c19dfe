use Rattle.std.proofs.Common.{◌≡◌, ◌+◌, ◌*◌, drop, map}
use Rattle.jv_data.specs.View.{view}
use Rattle.jq_ast.specs.Named.{named}
use Rattle.jq_meaning.specs.Runs.{Ending, Run, Item}
use Rattle.jq_meaning.specs.laws.Updating.{turns}
use Rattle.jq_engine.specs.Readiness.{CanGoOn}
use Rattle.jq_engine.specs.private.Updates.{part_run, path_run}
use Rattle.jq_engine.proofs.Paths.{PathsLeft}
use Rattle.jq_meaning.specs.machine.Heights.{Fit}
use Rattle.jq_meaning.specs.machine.Machine.{Produces}
use Rattle.jq_meaning.proofs.shared.machine.Correct.{left}
use Rattle.jq_state.specs.Environments.{count_of}
use Rattle.jq_state.specs.Inputs.{inputs_of}
use Rattle.jq_state.specs.Nexts.{NextFits, stands}
use Rattle.jq_engine.proofs.+running.Given as goal

-- the run that is still to come is the same
abbrev pub invariant-running::run-transitions : goal.invariant-running::run-transitions
invariant-running::run-transitions l = record {
  fits : NextFits (count_of l.state.nodes) l.next;
  fit : ∥ Fit (stands (inputs_of l.inputs) l.state l.next) ∥₁;
  rest : (rest : Run Item) → Produces (stands (inputs_of l.inputs) l.initial.state l.initial.next) rest → Produces (stands (inputs_of l.inputs) l.state l.next) rest;
}

abbrev pub decreases-running::run-transitions : goal.decreases-running::run-transitions
decreases-running::run-transitions l = left (stands (inputs_of l.inputs) l.state l.next)

-- ---- how deep runs nest, with an offset so that a function has a smaller measure than its caller

abbrev pub decreases-running::run : goal.decreases-running::run
decreases-running::run l = 16 * l.nesting + 9

abbrev pub decreases-running::updated : goal.decreases-running::updated
decreases-running::updated l = 16 * l.nesting + 8

abbrev pub decreases-apart::Around::update : goal.decreases-apart::Around::update
decreases-apart::Around::update l = 16 * l.self.now.nesting + 6

abbrev pub decreases-apart::Around::update_in_turns : goal.decreases-apart::Around::update_in_turns
decreases-apart::Around::update_in_turns l = 16 * l.self.now.nesting + 5

abbrev pub decreases-apart::Around::take_turns : goal.decreases-apart::Around::take_turns
decreases-apart::Around::take_turns l = 16 * l.self.now.nesting + 4

abbrev pub decreases-apart::Around::take_turn : goal.decreases-apart::Around::take_turn
decreases-apart::Around::take_turn l = 16 * l.self.now.nesting + 3

abbrev pub decreases-apart::Around::first_output : goal.decreases-apart::Around::first_output
decreases-apart::Around::first_output l = 16 * l.self.now.nesting + 1

-- the turns of the remaining paths come to the same as all of them, however the paths end
abbrev pub invariant-apart::Around::take_turns-loop-path : goal.invariant-apart::Around::take_turns-loop-path
invariant-apart::Around::take_turns-loop-path l =
    let g = part_run l.self (named l.part) l.scope in
    (e : Ending) → turns l.scope.level g (map view (drop l.path-index l.path-items)) e (view l.value) (view l.listed) ≡ turns l.scope.level g (map view l.path-items) e (view l.initial.value) (view l.initial.listed)

-- the paths so far, and those that are still to come, are all paths
abbrev pub invariant-apart::Around::paths_apart-paths : goal.invariant-apart::Around::paths_apart-paths
invariant-apart::Around::paths_apart-paths l =
    let inputs = inputs_of l.self.inputs.now in
    record {
      ready : ∥ CanGoOn inputs l.apart l.next ∥₁;
      left : PathsLeft inputs l.apart l.next (path_run l.self (named l.tree) l.fn.scope (view l.value)) (map view l.paths.items);
    }

abbrev pub decreases-apart::Around::paths_apart : goal.decreases-apart::Around::paths_apart
decreases-apart::Around::paths_apart l = 16 * l.self.now.nesting + 1
