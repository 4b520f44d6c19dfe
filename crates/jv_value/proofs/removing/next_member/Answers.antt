use Rattle.std.proofs.Common.{◌≡◌, ◌∙◌, ◌∷◌, ◌++◌, [], ap, sym, subst, rules, length, None, Some, string_cmp}
use Rattle.std.proofs.lemmas.List.{nil_from_length}
use Rattle.std.specs.BTreeMap.{get, is_at, Updates}
use Rattle.std.specs.Map.{lookup}
use Rattle.jv_data.proofs.shared.Levels.{view-Table}
use Rattle.jv_data.specs.Held.{members_in}
use Rattle.jv_data.specs.View.{view}
use Rattle.jv_data.specs.declared.values.Val as val
use Rattle.jv_data.specs.Value.{object}
use Rattle.jv_value.specs.DeletePaths.{without_locations}
use Rattle.jv_value.specs.private.Groups.{held_in}
use Rattle.jv_value.specs.private.Locations.{locations_in}
use Rattle.jv_value.specs.private.Removals.{AllLeave, Leaves}
use Rattle.jv_value.specs.declared.removing.Open.TheVariants.{Members}
use Rattle.jv_value.proofs.Following.{members_all_left, without_nothing}
use Rattle.jv_value.proofs.Grouped.{group_put, group_taken}
use Rattle.jv_value.proofs.Removals.{all_leave_more}
use Rattle.jv_value.proofs.removing.next_member.Goals as goal

pub loop-name-preserved : goal.loop-name-preserved
loop-name-preserved c =
    let old = c.loop-name.groups in
    let new = c.pop_first.new.self in
    let name = c.in-Some.name in
    let found : get string_cmp old name ≡ Some c.in-Some.locations = search rules in
    let taken : Updates string_cmp old new name None = search rules in
    let law = rw (c.in-None.is, c.as_str.ensures.value, c.as_slice.ensures.value) at c.in_ok-taken_out.ensures in
    (c.loop-name.invariant.0, λ w h. group_taken old new name c.in-Some.locations (members_in c.loop-name.members) w c.taken_out.new.members found taken (c.loop-name.invariant.1 w h) law)

pub returns-in-Some-2 : goal.returns-in-Some-2
returns-in-Some-2 c = λ w h z all.
    let old = c.loop-name.groups in
    let new = c.pop_first.new.self in
    let name = c.in-Some.name in
    let found : get string_cmp old name ≡ Some c.in-Some.locations = search rules in
    let taken : Updates string_cmp old new name None = search rules in
    let law = rw (c.in-Some-2.is, c.as_str.ensures.value, c.as_slice.ensures.value) at c.in_ok-taken_out.ensures in
    let v = without_locations (locations_in c.in-Some.locations.items) (view c.in-Some-2.part) in
    let o = Members c.taken_out.new.members new name in
    let leaves : Leaves o v w = group_put old new name c.in-Some.locations (members_in c.loop-name.members) w v c.taken_out.new.members found taken (c.loop-name.invariant.1 w h) law in
    let pushed = c.in_ok-push-in-Some-2.ensures.items ∙ ap (λ os. os ++ o ∷ []) c.loop-name.invariant.0 in
    subst (λ os. AllLeave os v z) (sym pushed) (all_leave_more c.args.opened.now.items o v w z leaves all)

pub returns : goal.returns
returns c = λ w h z all.
    let es = c.loop-name.groups.entries in
    let none : length es ≡ 0 = search rules in
    let over : es ≡ [] = nil_from_length es none in
    let ms = c.loop-name.members in
    let v = view (val.Table ms) in
    let left = c.loop-name.invariant.1 w h [] (λ s. sym (ap (λ fs. held_in (lookup (is_at (string_cmp s)) fs)) over)) in
    let same : without_locations (locations_in c.new.result.items) v ≡ w =
    ap (λ ps. without_locations (locations_in ps) v) c.new.ensures.items ∙ without_nothing v ∙ view-Table ms ∙ ap object (sym (members_all_left (members_in ms))) ∙ left in
    subst (λ os. AllLeave os (without_locations (locations_in c.new.result.items) v) z) (sym c.loop-name.invariant.0) (subst (λ x. AllLeave c.args.opened.now.items x z) (sym same) all)
