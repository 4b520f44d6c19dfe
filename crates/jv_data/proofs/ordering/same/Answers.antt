use Rattle.std.proofs.Common.{◌≡◌, ◌∙◌, ap}
use Rattle.std.specs.Ordering.{is_eq}
use Rattle.jv_data.proofs.shared.Order.{same_Decides}
use Rattle.jv_data.specs.Value.{compare}
use Rattle.jv_data.specs.View.{view}
use Rattle.jv_data.proofs.ordering.same.Goals as goal

pub returns : goal.returns
returns c =
    let d = same_Decides (view c.args.left.now) (view c.args.right.now) in
    let e : c.is_eq.result ≡ is_eq (compare (view c.args.left.now) (view c.args.right.now)) = c.is_eq.ensures ∙ ap is_eq c.order.ensures in
    rw e d
