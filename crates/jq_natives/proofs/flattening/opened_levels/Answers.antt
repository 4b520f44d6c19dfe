use Rattle.std.proofs.Common.{◌∙◌, ap, sym, subst, Ok}
use Rattle.jv_data.specs.Fails.{FailsAs}
use Rattle.jv_data.specs.Value.{array, items_of}
use Rattle.jv_data.specs.View.{items_view, view}
use Rattle.jv_value.specs.Parts.{parts_of}
use Rattle.jv_value.specs.Results.{map_ok}
use Rattle.jq_natives.specs.Arrays.{opened}
use Rattle.jq_natives.proofs.Failures.{fails_through}
use Rattle.jq_natives.proofs.Opened.{flattened_parts}
use Rattle.jv_data.proofs.shared.Levels.{view-List}
use Rattle.jq_natives.proofs.flattening.opened_levels.Goals as goal

pub returns-in_ok-from_vec-in-Ok : goal.returns-in_ok-from_vec-in-Ok
returns-in_ok-from_vec-in-Ok c =
    let n = c.args.levels in
    flattened_parts n (view c.args.value.now) ∙ ap (map_ok (λ vs. array (items_of (opened n (items_of vs))))) c.in-Ok.ensures
    ∙ ap (λ xs. Ok (array (items_of (opened n (items_view xs))))) (sym c.as_slice.ensures.value)
    ∙ ap (λ vs. Ok (array (items_of vs))) (sym c.in_ok-flat-in-Ok.ensures)
    ∙ ap Ok (sym (view-List c.in_ok-from_vec-in-Ok.field-0 ∙ ap (λ xs. array (items_view xs)) c.in_ok-from_vec-in-Ok.ensures))

pub returns-in-Err : goal.returns-in-Err
returns-in-Err c =
    let n = c.args.levels in
    let v = view c.args.value.now in
    subst (FailsAs c.in-Err.failure) (sym (flattened_parts n v)) (fails_through (λ vs. array (items_of (opened n (items_of vs)))) c.in-Err.failure (parts_of v) c.in-Err.ensures)
