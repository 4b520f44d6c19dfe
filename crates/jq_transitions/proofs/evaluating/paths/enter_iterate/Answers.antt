use Rattle.jq_transitions.proofs.evaluating.paths.enter_iterate.Goals as goal

pub returns : goal.returns
returns c = c.run_operation.ensures
