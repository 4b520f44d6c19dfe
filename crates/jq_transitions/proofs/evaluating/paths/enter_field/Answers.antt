use Rattle.jq_transitions.proofs.evaluating.paths.enter_field.Goals as goal

pub returns : goal.returns
returns c = c.run_operation.ensures
