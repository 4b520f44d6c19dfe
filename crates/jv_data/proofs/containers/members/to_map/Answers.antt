use Rattle.std.proofs.Common.{◌≡◌, ◌∙◌, ◌+◌, ◌-◌, ◌<◌, drop, length, zip, ap, rules}
use Rattle.jv_data.proofs.Members.{one_more}
use Rattle.jv_data.proofs.Places.{members_view-insert_entry}
use Rattle.jv_data.specs.View.{members_view}
use Rattle.jv_data.proofs.containers.members.to_map.Goals as goal

pub loop-left-preserved : goal.loop-left-preserved
loop-left-preserved c =
    let names = c.args.names.now in
    let values = c.args.values.now in
    let index = c.loop-left.left - 1 in
    let before = c.loop-left.invariant in
    let named : index < length names = search rules in
    let valued : index < length values = search rules in
    let back : c.loop-left.left ≡ index + 1 = search rules in
    let known = before.2 ∙ ap (λ i. members_view (drop i (zip names values))) back in
    let put_there = ap members_view c.in_ok-insert.ensures.entries ∙ members_view-insert_entry c.loop-left.map.entries c.in_ok-clone.field-0 c.in_ok-clone-2.field-0 in (
      search rules,
      search rules,
      put_there
          ∙ one_more names values index c.index-names-left.result c.in_ok-clone.field-0 c.index-values-left.result c.in_ok-clone-2.field-0 c.loop-left.map.entries c.requires named valued c.index-names-left.is
          c.index-values-left.is c.in_ok-clone.ensures.cases c.in_ok-clone-2.ensures.cases known,
    )
