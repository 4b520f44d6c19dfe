use Rattle.jq_state.proofs.Walks.{inputs_end}
use Rattle.jq_state.proofs.states.State.inputs_stand_outermost.Goals as goal

pub returns : goal.returns
returns c inputs i h = inputs_end c.args.self.now.nodes inputs i h
