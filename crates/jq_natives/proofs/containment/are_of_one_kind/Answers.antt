use Rattle.std.proofs.Common.{◌∙◌}
use Rattle.jv_data.specs.View.{view}
use Rattle.jq_natives.proofs.Ranks.{one_kind}
use Rattle.jq_natives.proofs.containment.are_of_one_kind.Goals as goal

pub returns : goal.returns
returns c = (rw (c.kind.ensures, c.kind-2.ensures) at c.eq.ensures) ∙ one_kind (view c.args.left.now) (view c.args.right.now)
