use Rattle.std.proofs.lemmas.Bool.Decides.{same_from_decides}
use Rattle.jv_data.proofs.shared.Order.{same_Decides}
use Rattle.jv_data.specs.View.{view}
use Rattle.jv_data.proofs.comparing.ValPartialEq.eq.Goals as goal

pub returns : goal.returns
returns c = same_from_decides c.same.result _ c.same.ensures (same_Decides (view c.args.self.now) (view c.args.other.now))
