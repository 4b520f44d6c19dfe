use Rattle.std.proofs.Common.{◌≡◌, ◌∙◌, ◌<◌, ◌≤◌, ◌∷◌, ◌++◌, [], ap, refl, rules, length, get_or}
use Rattle.std.proofs.lemmas.List.{map-append}
use Rattle.jv_value.specs.private.Locations.{location_in, locations_in}
use Rattle.jv_value.proofs.ItemGroups.{grouped_pushed, grouped_unpushed}
use Rattle.jv_value.proofs.removing.add_to_item.Goals as goal

pub returns-in_ok-push : goal.returns-in_ok-push
returns-in_ok-push c = λ qs vs e.
    let xs = c.args.groups.now.items in
    let i = c.args.index in
    let t = c.index_mut-target.result.now in
    let inside : i < length xs = search rules in
    let read : t ≡ get_or xs i t = c.index_mut-target.ensures.value in
    let pushed : c.push.new.self.items ≡ t.locations.items ++ c.args.rest ∷ [] = search rules in
    grouped_pushed xs qs vs i t record { item = t.item; locations = c.push.new.self } (location_in c.args.rest) inside read refl (ap locations_in pushed ∙ map-append location_in t.locations.items (c.args.rest ∷ [])) e

pub returns-else-index-len : goal.returns-else-index-len
returns-else-index-len c = λ qs vs e.
    let past : length c.args.groups.now.items ≤ c.args.index = search rules in
    grouped_unpushed c.args.groups.now.items qs vs c.args.index (location_in c.args.rest) past e
