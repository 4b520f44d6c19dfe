use Rattle.std.proofs.Common.{◌∙◌, ap, sym, Ok}
use Rattle.std.specs.List.{range_with_len}
use Rattle.jv_data.specs.Value.{array, items_of}
use Rattle.jv_data.specs.View.{items_view, view}
use Rattle.jq_natives.specs.Answers.{counts}
use Rattle.jq_natives.specs.Sizes.{keys_of}
use Rattle.jv_data.proofs.shared.Levels.{view-List, view-Table}
use Rattle.jv_data.proofs.shared.Views.{length-List}
use Rattle.jq_natives.proofs.sizes.keys.Goals as goal

pub returns-in_ok-from_vec-in-Table : goal.returns-in_ok-from_vec-in-Table
returns-in_ok-from_vec-in-Table c =
    let o = c.in-Table.members in
    let out = c.in_ok-from_vec-in-Table.field-0 in
    ap keys_of (ap view c.in-Table.is ∙ view-Table o)
    ∙ ap (λ vs. Ok (array (items_of vs))) (sym c.in_ok-names-in-Table.ensures)
    ∙ ap Ok (sym (view-List out ∙ ap (λ xs. array (items_view xs)) c.in_ok-from_vec-in-Table.ensures))

pub returns-in_ok-from_vec-in-List : goal.returns-in_ok-from_vec-in-List
returns-in_ok-from_vec-in-List c =
    let a = c.in-List.items in
    let out = c.in_ok-from_vec-in-List.field-0 in
    ap keys_of (ap view c.in-List.is ∙ view-List a) ∙ ap (λ n. Ok (counts (range_with_len 0 n))) (length-List a ∙ sym c.len.ensures)
    ∙ ap (λ vs. Ok (array (items_of vs))) (sym c.in_ok-places-in-List.ensures)
    ∙ ap Ok (sym (view-List out ∙ ap (λ xs. array (items_view xs)) c.in_ok-from_vec-in-List.ensures))
