use Rattle.std.proofs.Common.{◌≡◌, ◌∙◌, ap, sym, rules, Ok, Some, length, map, slice_range}
use Rattle.jv_data.specs.Shared.{items_in}
use Rattle.jv_data.specs.Value.{array, items_of}
use Rattle.jv_data.specs.View.{view}
use Rattle.jv_value.specs.Slice.{range_of}
use Rattle.jv_value.proofs.Slices.{sliced_items}
use Rattle.jv_data.proofs.shared.Levels.{view-List}
use Rattle.jv_value.proofs.slicing.slice_array.Goals as goal

pub returns : goal.returns
returns c =
    let xs = c.args.items.now in
    let ps = c.in_ok-part.part.items in
    let bounds : Some (c.in-Some.start, c.in-Some.end) ≡ range_of (length xs) (view c.args.start.now) (view c.args.end.now) = search rules in
    let part : map view ps ≡ map view (slice_range xs c.in-Some.start c.in-Some.end) = search rules in
    let held : items_in c.in_ok-from_vec.field-0 ≡ ps = search rules in
    sliced_items xs ps (view c.args.start.now) (view c.args.end.now) c.in-Some.start c.in-Some.end bounds part
    ∙ ap Ok (sym (view-List c.in_ok-from_vec.field-0 ∙ ap (λ ys. array (items_of (map view ys))) held))
