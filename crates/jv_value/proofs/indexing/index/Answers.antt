use Rattle.std.proofs.Common.{◌≡◌, ◌∙◌, ap, refl, sym, map, Ok, unwrap_or}
use Rattle.jv_data.specs.Held.{members_in}
use Rattle.jv_data.proofs.shared.Items.{values_of-items_of}
use Rattle.jv_data.specs.Shared.{items_in, text_in}
use Rattle.jv_data.specs.Value.{null}
use Rattle.jv_data.specs.View.{view}
use Rattle.jv_value.specs.Index.{index_of, item_at, start_in, end_in}
use Rattle.jv_value.specs.Slice.{slice_of_array, slice_of_string}
use Rattle.jv_value.proofs.Answered.{found_part, same_answer}
use Rattle.jv_data.proofs.shared.Levels.{view-List, view-Num, view-Table, view-Text}
use Rattle.jv_value.proofs.indexing.index.Goals as goal

pub returns-in-List-Num : goal.returns-in-List-Num
returns-in-List-Num c =
    let vs = items_in c.in-List-Num.items in
    let n = c.in-List-Num.place in
    let part : index_of (view c.args.value.now) (view c.args.key.now) ≡ Ok (unwrap_or (item_at n (map view vs)) null) =
    rw (c.in-List-Num.is-0, c.in-List-Num.is-1, view-List c.in-List-Num.items, view-Num n) (ap (λ ws. Ok (unwrap_or (item_at n ws) null)) (values_of-items_of (map view vs))) in
    found_part c.part_or_null-in-List-Num.result _ _ (part ∙ ap (λ o. Ok (unwrap_or o null)) (sym (rw c.as_slice.ensures at c.item_at.ensures))) c.part_or_null-in-List-Num.ensures

pub returns-in-List-Table : goal.returns-in-List-Table
returns-in-List-Table c =
    let vs = items_in c.in-List-Table.items in
    let ms = members_in c.in-List-Table.bounds in
    let part : index_of (view c.args.value.now) (view c.args.key.now) ≡ slice_of_array (map view vs) (start_in ms) (end_in ms) =
    rw (c.in-List-Table.is-0, c.in-List-Table.is-1, view-List c.in-List-Table.items, view-Table c.in-List-Table.bounds) (ap (λ ws. slice_of_array ws (start_in ms) (end_in ms)) (values_of-items_of (map view vs))) in
    same_answer c.slice_array.result _ _ part (rw (c.bounds_in.ensures.start, c.bounds_in.ensures.end, c.as_slice-in-List-Table.ensures) at c.slice_array.ensures)

pub returns-in-Text-Table : goal.returns-in-Text-Table
returns-in-Text-Table c =
    let s = text_in c.in-Text-Table.text in
    let ms = members_in c.in-Text-Table.bounds in
    let part : index_of (view c.args.value.now) (view c.args.key.now) ≡ slice_of_string s (start_in ms) (end_in ms) =
    rw (c.in-Text-Table.is-0, c.in-Text-Table.is-1, view-Text c.in-Text-Table.text, view-Table c.in-Text-Table.bounds) refl in
    same_answer c.slice_string.result _ _ part (rw (c.bounds_in-in-Text-Table.ensures.start, c.bounds_in-in-Text-Table.ensures.end, c.as_str-in-Text-Table.ensures) at c.slice_string.ensures)
