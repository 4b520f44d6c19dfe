use Rattle.std.proofs.Common.{◌∙◌, ◌<◌, ◌+◌, ap, rules, length, map, [], ◌∷◌, ◌++◌}
use Rattle.std.proofs.lemmas.List.{map-append, length-map}
use Rattle.jv_data.specs.View.{view}
use Rattle.jv_data.specs.declared.values.Val as val
use Rattle.jv_value.specs.SetPath.{filled}
use Rattle.jv_value.proofs.Filled.{filled_step}
use Rattle.jv_data.proofs.shared.Levels.{view-Null}
use Rattle.jv_value.proofs.setting.fill.Goals as goal

pub loop-items-preserved : goal.loop-items-preserved
loop-items-preserved c =
    let n = c.args.index + 1 in
    let xs = c.loop-items.items.items in
    let short : length xs < n = search rules in
    ap (λ ys. filled n (map view ys)) c.in_ok-push.ensures.items ∙ ap (filled n) (map-append view xs (val.Null ∷ []) ∙ ap (λ w. map view xs ++ w ∷ []) view-Null)
    ∙ filled_step n (map view xs) (rw (length-map xs view) short) ∙ c.loop-items.invariant
