use Rattle.jq_meaning.specs.machine.Stack.{cell_at}
use Rattle.jq_state.specs.Views.{frames_in, forks_in}
use Rattle.jv_data.specs.View.{view}
use Rattle.jq_transitions.proofs.Transitions.{no_state, some_state}
use Rattle.jq_transitions.proofs.backtracking.resuming.check_update.Goals as goal

pub returns-then-is_cell_empty : goal.returns-then-is_cell_empty
returns-then-is_cell_empty c =
    let s = c.args.state.now in
    (tt, λ inputs. no_state (cell_at c.args.height (forks_in inputs s)) (frames_in inputs s) (forks_in inputs s) c.is_cell_empty.result (view c.in_ok-path_error.field-0) (c.is_cell_empty.ensures inputs) c.if-is_cell_empty.true c.in_ok-path_error.ensures)

pub returns : goal.returns
returns c =
    let s = c.args.state.now in
    (tt, λ inputs. some_state (cell_at c.args.height (forks_in inputs s)) (frames_in inputs s) (forks_in inputs s) c.is_cell_empty.result (c.is_cell_empty.ensures inputs) c.if-is_cell_empty.false)
