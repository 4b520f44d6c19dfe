use Rattle.std.proofs.Common.{◌≡◌, ◌∙◌, ◌≤◌, ap, sym, rules, map, take, drop, length, Some}
use Rattle.std.proofs.lemmas.List.{length-map, take-map, drop-map}
use Rattle.jv_data.specs.Held.{values_in}
use Rattle.jv_data.specs.Shared.{items_in}
use Rattle.jv_data.specs.Value.{array, items_of}
use Rattle.jv_data.specs.View.{view}
use Rattle.jv_value.specs.Slice.{range_of}
use Rattle.jv_value.proofs.Taken.{takes_slice}
use Rattle.jv_data.proofs.shared.Levels.{view-List}
use Rattle.jv_value.proofs.setting.take_items.Goals as goal

pub returns : goal.returns
returns c =
    let a = c.in-Some.from in
    let b = c.in-Some.to in
    let vs = values_in c.args.items in
    let xs = c.in_ok-front.front.items in
    let out = c.in_ok-from_vec.field-0 in
    let seen : map view xs ≡ vs = c.in_ok-front.ensures in
    let found : range_of (length (items_in c.args.items)) (view c.args.start.now) (view c.args.end.now) ≡ Some (a, b) = search rules in
    let ordered : a ≤ b = search rules in
    let held : items_in out ≡ drop a (take b xs) = search rules in
    let front : c.split_off-2.new.self.items ≡ take a (take b xs) = search rules in
    let back : c.in_ok-back.back.items ≡ drop b xs = search rules in
    takes_slice vs (view c.args.start.now) (view c.args.end.now) a b _ c.split_off-2.new.self c.in_ok-back.back ordered
    (ap (λ n. range_of n (view c.args.start.now) (view c.args.end.now)) (length-map (items_in c.args.items) view) ∙ found)
    (view-List out ∙ ap (λ ys. array (items_of (map view ys))) held ∙ ap (λ ws. array (items_of ws)) (sym (drop-map view a (take b xs)) ∙ ap (drop a) (sym (take-map view b xs) ∙ ap (take b) seen)))
    (ap (map view) front ∙ sym (take-map view a (take b xs)) ∙ ap (take a) (sym (take-map view b xs) ∙ ap (take b) seen))
    (ap (map view) back ∙ sym (drop-map view b xs) ∙ ap (drop b) seen)
