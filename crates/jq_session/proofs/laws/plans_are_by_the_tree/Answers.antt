use Rattle.jq_session.proofs.Planning.{by_the_tree}
use Rattle.jq_session.proofs.laws.plans_are_by_the_tree.Goals as goal

pub returns : goal.returns
returns c = by_the_tree c.a_compiled_fold_comes_after_the_prelude.ensures
