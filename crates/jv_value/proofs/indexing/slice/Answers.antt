use Rattle.std.proofs.Common.{◌≡◌, ap, map}
use Rattle.jv_data.proofs.shared.Items.{values_of-items_of}
use Rattle.jv_data.specs.Shared.{items_in}
use Rattle.jv_data.specs.View.{view}
use Rattle.jv_value.specs.Index.{slice_of}
use Rattle.jv_value.specs.Slice.{slice_of_array}
use Rattle.jv_value.proofs.Answered.{same_answer}
use Rattle.jv_data.proofs.shared.Levels.{view-List}
use Rattle.jv_value.proofs.indexing.slice.Goals as goal

pub returns-in-List : goal.returns-in-List
returns-in-List c =
    let vs = items_in c.in-List.items in
    let start = view c.args.start.now in
    let end = view c.args.end.now in
    let part : slice_of (view c.args.value.now) start end ≡ slice_of_array (map view vs) start end =
    rw (c.in-List.is, view-List c.in-List.items) (ap (λ ws. slice_of_array ws start end) (values_of-items_of (map view vs))) in
    same_answer c.slice_array.result _ _ part (rw c.as_slice.ensures at c.slice_array.ensures)
