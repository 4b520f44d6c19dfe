use Rattle.std.proofs.Common.{◌≡◌, ◌∙◌, ◌∷◌, ◌++◌, [], ap, rules, length, map, reverse}
use Rattle.std.proofs.lemmas.List.{nil_from_length}
use Rattle.jv_value.specs.DeletePaths.{following}
use Rattle.jv_value.specs.Locations.{at, key}
use Rattle.jv_value.specs.private.Locations.{location_in, selector_of}
use Rattle.jv_value.specs.declared.locations.Child.TheVariants.{Item}
use Rattle.jv_value.proofs.Grouped.{grouped_elsewhere}
use Rattle.jv_value.proofs.Selectors.{popped}
use Rattle.jv_value.proofs.grouping.group_location.Goals as goal

pub returns-in-Some-Item : goal.returns-in-Some-Item
returns-in-Some-Item c = λ qs a.
    let location = c.args.location in
    let rest = c.pop.new.self in
    let i = c.in-Some-Item.field-0-0 in
    let split : location.items ≡ rest.items ++ Item i ∷ [] = c.in-Some-Item.ensures.items ∙ ap (λ d. rest.items ++ d ∷ []) c.in-Some-Item.field-0-is in
    let first : location_in location ≡ at i ∷ location_in rest = popped location.items rest.items (Item i) split in
    grouped_elsewhere c.args.groups.now qs (location_in location) (λ t. ap (λ q. following (key t) (q ∷ [])) first) a

pub returns-in-None : goal.returns-in-None
returns-in-None c = λ qs a.
    let location = c.args.location in
    let none : length location.items ≡ 0 = search rules in
    let itself : location_in location ≡ [] = ap (λ xs. map selector_of (reverse xs)) (nil_from_length location.items none) in
    grouped_elsewhere c.args.groups.now qs (location_in location) (λ t. ap (λ q. following (key t) (q ∷ [])) itself) a
