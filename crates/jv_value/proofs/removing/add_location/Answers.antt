use Rattle.std.proofs.Common.{◌≡◌, ◌∙◌, ◌∷◌, ◌++◌, [], ap, sym, rules, length, map, reverse}
use Rattle.std.proofs.lemmas.List.{nil_from_length}
use Rattle.jv_data.specs.Shared.{text_in}
use Rattle.jv_value.specs.private.Locations.{location_in, selector_of}
use Rattle.jv_value.specs.declared.locations.Child.TheVariants.{Member}
use Rattle.jv_value.proofs.ItemGroups.{grouped_no_item, grouped_itself}
use Rattle.jv_value.proofs.Selectors.{popped}
use Rattle.jv_value.proofs.removing.add_location.Goals as goal

pub returns-in-Some-Member : goal.returns-in-Some-Member
returns-in-Some-Member c = λ qs vs e.
    let xs = c.args.location.items in
    let rest = c.pop.new.self.items in
    let name = c.in-Some-Member.field-0-0 in
    let taken : xs ≡ rest ++ Member name ∷ [] = search rules in
    e ∙ sym (grouped_no_item qs (location_in c.args.location) (text_in name) (map selector_of (reverse rest)) vs (popped xs rest (Member name) taken))

pub returns-in-None : goal.returns-in-None
returns-in-None c = λ qs vs e.
    let none : length c.args.location.items ≡ 0 = search rules in
    e ∙ sym (grouped_itself qs (location_in c.args.location) vs (ap (λ xs. map selector_of (reverse xs)) (nil_from_length c.args.location.items none)))
