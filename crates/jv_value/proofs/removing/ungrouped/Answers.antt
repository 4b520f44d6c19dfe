use Rattle.std.proofs.Common.{◌≡◌, ◌∙◌, ◌∷◌, ◌++◌, [], ap, sym, rules, map, append_assoc}
use Rattle.std.proofs.lemmas.List.{map-append}
use Rattle.jv_data.specs.View.{view}
use Rattle.jv_value.specs.private.ItemGroups.{grouped_from, groups_in}
use Rattle.jv_value.specs.private.Locations.{locations_in}
use Rattle.jv_value.proofs.ItemGroups.{grouped_nothing}
use Rattle.jv_value.proofs.removing.ungrouped.Goals as goal

pub loop-item-preserved : goal.loop-item-preserved
loop-item-preserved c =
    let ys = c.loop-item.yielded in
    let x = c.in-Some.item in
    let pushed : groups_in c.push.new.self.items ≡ groups_in c.loop-item.groups.items ++ (view x, []) ∷ [] =
    ap groups_in c.in_ok-push.ensures.items ∙ map-append (λ a. (view a.item, locations_in a.locations.items)) c.loop-item.groups.items _ ∙ ap (λ ps. groups_in c.loop-item.groups.items ++ (view x, locations_in ps) ∷ []) c.new-locations.ensures.items in
    let all : c.args.items.items ≡ ys ++ x ∷ c.next.new.self.rest.items = search rules in
    (all ∙ sym (append_assoc ys (x ∷ []) c.next.new.self.rest.items), pushed ∙ ap (λ zs. zs ++ (view x, []) ∷ []) c.loop-item.invariant.1 ∙ sym (ap (grouped_from [] 0) (map-append view ys (x ∷ [])) ∙ grouped_nothing 0 (map view ys) (view x)))
