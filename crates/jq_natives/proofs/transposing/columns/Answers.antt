use Rattle.std.proofs.Common.{◌∙◌, ◌++◌, ◌∷◌, [], ap, sym, map, arith}
use Rattle.std.proofs.lemmas.List.{map-append}
use Rattle.std.proofs.lemmas.List.FromFn.{map-range_with_len_more}
use Rattle.jv_data.specs.View.{view}
use Rattle.jq_natives.specs.Arrays.{column}
use Rattle.jq_natives.specs.private.Lists.{lists_in}
use Rattle.jq_natives.proofs.transposing.columns.Goals as goal

pub loop-place-preserved : goal.loop-place-preserved
loop-place-preserved c =
    let n = c.loop-place.place in
    let old = c.loop-place.columns.items in
    let v = c.in_ok-column.field-0 in
    let at = column (lists_in c.args.lists.now) in
    ap (map view) c.in_ok-push.ensures.items ∙ map-append view old (v ∷ []) ∙ ap (λ w. map view old ++ w ∷ []) c.in_ok-column.ensures
    ∙ ap (λ ws. ws ++ at n ∷ []) c.loop-place.invariant ∙ sym (map-range_with_len_more at 0 n n (omega arith))
