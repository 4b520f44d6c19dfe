use Rattle.std.proofs.Common.{◌≡◌, ◌∙◌, ap, sym, subst, rules, map}
use Rattle.jv_data.specs.Held.{members_in}
use Rattle.jv_data.specs.View.{view}
use Rattle.jv_data.proofs.shared.Results.{if_ok_map}
use Rattle.jv_data.specs.Value.{array, items_of, object}
use Rattle.jv_value.specs.DeletePaths.{without_locations}
use Rattle.jv_value.specs.private.ItemGroups.{groups_in, groups_left}
use Rattle.jv_value.specs.private.Locations.{locations_in}
use Rattle.jv_value.specs.private.Removals.{GoesOn, GroupsLeave, items_with}
use Rattle.jv_value.proofs.Following.{groups_left-grouped_from}
use Rattle.jv_value.proofs.Grouped.{members_same_in}
use Rattle.jv_value.proofs.removing.go_in.Goals as goal

pub returns-in_ok-groups-in-List : goal.returns-in_ok-groups-in-List
returns-in_ok-groups-in-List c =
    let qs = locations_in c.args.locations.items in
    let vs = map view c.in_ok-items-in-List.items.items in
    let rest = c.into_iter.result.rest.items in
    let taken : rest ≡ c.in_ok-groups-in-List.groups.items = search rules in
    let seen : view c.args.value ≡ array (items_of vs) = c.into_list.ensures ∙ ap (λ ws. array (items_of ws)) (sym c.in_ok-items-in-List.ensures) in
    let same : items_with (map view c.in_ok-left-in-List.left.items) rest ≡ without_locations qs (view c.args.value) =
    ap (λ xs. items_with (map view xs) rest) c.in_ok-left-in-List.ensures.items ∙ ap (λ gs. array (items_of (groups_left (groups_in gs)))) taken
    ∙ ap (λ gs. array (items_of (groups_left gs))) c.in_ok-groups-in-List.ensures ∙ ap array (groups_left-grouped_from qs 0 vs) ∙ ap (without_locations qs) (sym seen) in
    if_ok_map c.next_item.result c.next_item.ensures (λ r e. subst (λ v. GoesOn c.args.opened.now.items v c.next_item.new.opened.items r) same e)

pub returns-in_ok-groups-in-Table : goal.returns-in_ok-groups-in-Table
returns-in_ok-groups-in-Table c =
    let qs = locations_in c.args.locations.items in
    let table = c.into_table.result in
    let whole = without_locations qs (view c.args.value) in
    let groups = c.in_ok-groups-in-Table.ensures in
    let law : GroupsLeave c.in_ok-groups-in-Table.groups (members_in table) whole =
    λ ps h. ap object (members_same_in table ps qs (λ s. h s ∙ groups.same s)) ∙ sym (ap (without_locations qs) c.into_table.ensures) in
    if_ok_map c.next_member.result c.next_member.ensures (λ r e. e whole law)
