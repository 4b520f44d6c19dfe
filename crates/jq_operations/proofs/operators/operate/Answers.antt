use Rattle.jv_data.specs.View.{view}
use Rattle.jq_ast.specs.Leaves as leaves
use Rattle.jq_meaning.specs.Continuations.{on_left}
use Rattle.jq_meaning.specs.Steps.{operator_of}
use Rattle.jq_state.specs.Items.{keys_of}
use Rattle.jq_state.proofs.shared.Items.{value_at}
use Rattle.jq_operations.proofs.operators.operate.Goals as goal

pub returns : goal.returns
unfolding on_left
returns c =
    let x = c.args.left in
    rw (value_at (view x.value) (keys_of x.path)) (c.answered.ensures (operator_of (leaves.operator_of c.args.operator) (view x.value) (view c.args.right.now)) c.operated.ensures)
