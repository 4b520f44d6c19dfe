use Rattle.std.proofs.Common.{◌∙◌, ap, sym, map, Ok, reverse}
use Rattle.jv_data.specs.Value.{array, items_of}
use Rattle.jv_data.specs.View.{items_view, view}
use Rattle.jq_natives.specs.Arrays.{reverse_of}
use Rattle.jv_data.proofs.shared.Levels.{view-List}
use Rattle.jv_data.proofs.shared.Views.{values-List}
use Rattle.jq_natives.proofs.arrays.reversed.Goals as goal

pub returns-in_ok-from_vec-in-List : goal.returns-in_ok-from_vec-in-List
returns-in_ok-from_vec-in-List c =
    let a = c.in-List.items in
    ap reverse_of (ap view c.in-List.is ∙ view-List a)
    ∙ ap (λ vs. Ok (array (items_of (reverse vs)))) (values-List a ∙ ap (map view) (sym c.as_slice.ensures))
    ∙ ap (λ vs. Ok (array (items_of vs))) (sym c.in_ok-items-in-List.ensures)
    ∙ ap Ok (sym (view-List c.in_ok-from_vec-in-List.field-0 ∙ ap (λ xs. array (items_view xs)) c.in_ok-from_vec-in-List.ensures))
