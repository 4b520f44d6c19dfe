use Rattle.jq_transitions.proofs.evaluating.composition.enter_pipe.Goals as goal

pub returns : goal.returns
returns c = c.run_combining.ensures
