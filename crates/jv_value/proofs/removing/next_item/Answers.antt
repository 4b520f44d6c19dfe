use Rattle.std.proofs.Common.{◌≡◌, ◌∙◌, ◌∷◌, ◌++◌, [], ap, sym, subst, rules, length, map, false}
use Rattle.std.proofs.lemmas.List.{append-nil, map-append, nil_from_length}
use Rattle.jv_data.proofs.shared.Levels.{view-List}
use Rattle.jv_data.specs.Shared.{items_in}
use Rattle.jv_data.specs.View.{view}
use Rattle.jv_data.specs.declared.values.Val as val
use Rattle.jv_data.specs.Value.{array, items_of}
use Rattle.jv_value.specs.DeletePaths.{names_itself, without_locations}
use Rattle.jv_value.specs.private.Locations.{locations_in}
use Rattle.jv_value.specs.private.Removals.{AllLeave, items_with}
use Rattle.jv_value.specs.declared.removing.Open.TheVariants.{Items}
use Rattle.jv_value.proofs.Following.{without_nothing}
use Rattle.jv_value.proofs.Removals.{all_leave_more, item_kept, item_open}
use Rattle.jv_value.proofs.removing.next_item.Goals as goal

pub loop-group-preserved-then-is_empty : goal.loop-group-preserved-then-is_empty
loop-group-preserved-then-is_empty c =
    let x = c.in-Some.group in
    let left = c.loop-group.left.items in
    let rest = c.next.new.self.rest.items in
    let next : c.loop-group.groups.rest.items ≡ x ∷ rest = search rules in
    let none : length x.locations.items ≡ 0 = search rules in (
      c.loop-group.invariant.0,
      ap (λ vs. items_with vs rest) (ap (map view) c.in_ok-push.ensures.items ∙ map-append view left (x.item ∷ []))
          ∙ item_kept (map view left) x rest (nil_from_length x.locations.items none) ∙ ap (items_with (map view left)) (sym next) ∙ c.loop-group.invariant.1,
    )

pub returns-then-not-names_itself : goal.returns-then-not-names_itself
returns-then-not-names_itself c =
    let x = c.in-Some.group in
    let left = c.loop-group.left.items in
    let rest = c.next.new.self.rest.items in
    let next : c.loop-group.groups.rest.items ≡ x ∷ rest = search rules in
    let other : names_itself (locations_in x.locations.items) ≡ false = search rules in
    let old = c.args.opened.now.items in
    let v = without_locations (locations_in x.locations.items) (view x.item) in
    let o = Items c.loop-group.left c.next.new.self in
    let all = items_with (map view c.args.left.items) c.args.groups.rest.items in
    let same : items_with (map view left ++ v ∷ []) rest ≡ all = item_open (map view left) x rest other ∙ ap (items_with (map view left)) (sym next) ∙ c.loop-group.invariant.1 in
    let pushed = c.in_ok-push-2.ensures.items ∙ ap (λ os. os ++ o ∷ []) c.loop-group.invariant.0 in
    λ w h. subst (λ os. AllLeave os v w) (sym pushed) (all_leave_more old o v all w same h)

pub returns : goal.returns
returns c =
    let left = c.loop-group.left.items in
    let over : c.loop-group.groups.rest.items ≡ [] = nil_from_length c.loop-group.groups.rest.items (search rules) in
    let out = c.in_ok-items.items in
    let v = view (val.List out) in
    let held : items_in out ≡ left = c.in_ok-items.ensures in
    let none : c.new.result.items ≡ [] = c.new.ensures.items in
    let same = sym c.loop-group.invariant.1 ∙ ap (items_with (map view left)) over ∙ ap (λ ws. array (items_of ws)) (append-nil (map view left))
    ∙ sym (view-List out ∙ ap (λ ys. array (items_of (map view ys))) held) ∙ sym (ap (λ ps. without_locations (locations_in ps) v) none ∙ without_nothing v) in
    λ w h. subst (λ os. AllLeave os (without_locations (locations_in c.new.result.items) v) w) (sym c.loop-group.invariant.0) (subst (λ x. AllLeave c.args.opened.now.items x w) same h)
