use Rattle.std.proofs.Common.{◌∙◌, ◌++◌, ◌∷◌, [], ap, sym, map, arith}
use Rattle.std.proofs.lemmas.List.{map-append}
use Rattle.std.proofs.lemmas.List.FromFn.{map-range_with_len_more}
use Rattle.jv_data.specs.View.{view}
use Rattle.jq_natives.specs.Answers.{count}
use Rattle.jq_natives.proofs.keys.places.Goals as goal

pub loop-place-preserved : goal.loop-place-preserved
loop-place-preserved c =
    let n = c.loop-place.place in
    let old = c.loop-place.places.items in
    let v = c.in_ok-count.field-0 in
    ap (map view) c.in_ok-push.ensures.items ∙ map-append view old (v ∷ []) ∙ ap (λ w. map view old ++ w ∷ []) c.in_ok-count.ensures.value
    ∙ ap (λ ws. ws ++ count n ∷ []) c.loop-place.invariant ∙ sym (map-range_with_len_more count 0 n n (omega arith))
