use Rattle.std.proofs.Common.{◌≡◌, ◌∙◌, ap, sym, rules, length, map, Some, Ok}
use Rattle.std.proofs.lemmas.List.{length-map}
use Rattle.jv_data.specs.Held.{members_in}
use Rattle.jv_data.specs.View.{view}
use Rattle.jv_data.specs.Value.{array, items_of}
use Rattle.jv_value.specs.Index.{start_in, end_in}
use Rattle.jv_value.specs.Slice.{range_of}
use Rattle.jv_value.specs.private.Steps.{to_items}
use Rattle.jv_value.proofs.Slices.{map-slice_range}
use Rattle.jv_value.proofs.Strides.{stride_slice}
use Rattle.jv_value.proofs.finding.step_to_slice.Goals as goal

pub returns-in-Some : goal.returns-in-Some
returns-in-Some c =
    let xs = c.args.items.now in
    let ms = members_in c.args.bounds.now in
    let a = c.in-Some.from in
    let b = c.in-Some.to in
    let found : range_of (length xs) (start_in ms) (end_in ms) ≡ Some (a, b) = search rules in
    stride_slice (map view xs) ms (Some (a, b)) (ap (λ m. range_of m (start_in ms) (end_in ms)) (length-map xs view) ∙ found)
    ∙ ap (λ ws. Ok (Some (to_items a b, array (items_of ws)))) (sym (map-slice_range view xs a b))
