use Rattle.jq_transitions.proofs.evaluating.binding.enter_reduce.Goals as goal

pub returns : goal.returns
returns c = rw c.in_ok-kept.ensures at c.run_binding.ensures
