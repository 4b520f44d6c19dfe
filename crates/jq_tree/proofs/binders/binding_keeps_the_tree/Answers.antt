use Rattle.jq_tree.proofs.Keeping.{kept_bound_in}
use Rattle.jq_tree.proofs.binders.binding_keeps_the_tree.Goals as goal

pub returns : goal.returns
returns c = kept_bound_in
