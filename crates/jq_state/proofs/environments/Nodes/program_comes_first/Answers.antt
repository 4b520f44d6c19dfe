use Rattle.jq_state.proofs.Walks.{program_read}
use Rattle.jq_state.proofs.environments.Nodes.program_comes_first.Goals as goal

pub returns : goal.returns
returns c inputs j h = program_read c.args.self.now inputs j h
