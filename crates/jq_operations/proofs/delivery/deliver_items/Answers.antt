use Rattle.std.proofs.Common.{◌<◌, length, arith}
use Rattle.jq_state.specs.Items.{item_of}
use Rattle.jq_state.specs.Views.{frames_in, forks_in}
use Rattle.jq_operations.proofs.Coming.{same_goal}
use Rattle.jq_operations.proofs.Delivering.{last_before_others}
use Rattle.jq_operations.proofs.delivery.deliver_items.Goals as goal

pub returns : goal.returns
returns c =
    let s = c.args.state.now in
    let left : 0 < length c.pop.new.self.items = grind (arith, c.if-is_empty.ensures, c.pop.new.self.ok.0) in
    same_goal c.give_first.result _ _ c.give_first.new.state
    (λ inputs. last_before_others item_of c.args.items.items c.pop.new.self.items c.in-Some.first (frames_in inputs s) (forks_in inputs s) c.in-Some.ensures.items left)
    c.give_first.ensures
