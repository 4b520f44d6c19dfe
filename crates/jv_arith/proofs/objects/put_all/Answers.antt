use Rattle.std.proofs.Common.{◌≡◌, ◌∙◌, ap, sym, rules}
use Rattle.jv_data.specs.Held.{members_in}
use Rattle.jv_data.specs.View.{members_view}
use Rattle.jv_arith.proofs.Unions.{put_all, put_all-union}
use Rattle.jv_arith.proofs.objects.put_all.Goals as goal

pub loop-key-init : goal.loop-key-init
loop-key-init c =
    let all : members_view c.into_iter-key-iterator.result ≡ members_in c.args.right.now = search rules in
    sym (put_all-union (members_in c.args.left.now) (members_in c.args.right.now) c.iter-key-items.ensures.ordered) ∙ ap (put_all (members_in c.args.left.now)) (sym all)
