use Rattle.jv_data.proofs.dropping.take_all_apart.Given as goal

abbrev pub decreases-loop-value : goal.decreases-loop-value
decreases-loop-value l = goal.left-loop-value l
