use Rattle.std.proofs.Common.{◌≡◌, ◌∙◌, ap, sym, rules}
use Rattle.jv_data.specs.Held.{members_in}
use Rattle.jv_data.specs.View.{members_view}
use Rattle.jv_arith.specs.private.Uniting.{unite_all}
use Rattle.jv_arith.proofs.Unions.{unite_all-deep_union}
use Rattle.jv_arith.proofs.objects.+uniting.Goals as goal

pub unite_near-loop-key-init : goal.unite_near-loop-key-init
unite_near-loop-key-init t c =
    let all : members_view c.into_iter-key-iterator.result ≡ members_in c.args.right.now = search rules in
    sym (unite_all-deep_union (members_in c.args.left) (members_in c.args.right.now) c.iter-key-items.ensures.ordered) ∙ ap (unite_all (members_in c.args.left)) (sym all)
