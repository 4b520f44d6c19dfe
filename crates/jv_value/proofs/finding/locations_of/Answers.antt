use Rattle.std.proofs.Common.{◌≡◌, ◌∙◌, ◌∷◌, ◌+◌, [], ap, sym, rules, drop, map, Some, None, Ok}
use Rattle.std.proofs.lemmas.List.{drop_more, map-append}
use Rattle.jv_data.specs.View.{view}
use Rattle.jv_value.specs.Locations.{locations_of}
use Rattle.jv_value.specs.Results.{map_ok}
use Rattle.jv_value.specs.private.Locations.{locations_in}
use Rattle.jv_value.specs.private.Steps.{before_all, led, place_view, stride, stride_of}
use Rattle.jv_value.proofs.Strides.{strides_end, strides_further}
use Rattle.jv_value.proofs.finding.locations_of.Goals as goal

pub returns-in-None : goal.returns-in-None
returns-in-None c =
    let path = c.args.path.now in
    let k = c.key-item.result in
    let rest = drop (c.loop-key.key-index + 1) path in
    let next = drop_more path c.loop-key.key-index k (search rules) ∙ ap (λ y. y ∷ rest) (sym c.key-item.is) in
    let part = place_view c.loop-key.place in
    let ss = map stride_of c.loop-key.steps.items in
    let end : stride part (view k) ≡ Ok None = c.in_ok-next_step.ensures ∙ ap (λ o. Ok (led o)) c.in-None.is in
    sym c.loop-key.invariant ∙ ap (λ xs. map_ok (before_all ss) (locations_of part (map view xs))) next ∙ strides_end part (view k) (map view rest) ss end
    ∙ ap (λ ps. Ok (locations_in ps)) (sym c.new.ensures.items)

pub loop-key-preserved : goal.loop-key-preserved
loop-key-preserved c =
    let path = c.args.path.now in
    let k = c.key-item.result in
    let rest = drop (c.loop-key.key-index + 1) path in
    let next = drop_more path c.loop-key.key-index k (search rules) ∙ ap (λ y. y ∷ rest) (sym c.key-item.is) in
    let part = place_view c.loop-key.place in
    let inner = place_view c.in-Some.part in
    let steps = c.loop-key.steps.items in
    let ss = map stride_of steps in
    let s = stride_of c.in-Some.step in
    let found : stride part (view k) ≡ Ok (Some (s, inner)) = search rules in
    ap (λ ts. map_ok (before_all ts) (locations_of inner (map view rest))) (ap (map stride_of) c.in_ok-push-in-Some.ensures.items ∙ map-append stride_of steps (c.in-Some.step ∷ []))
    ∙ strides_further part (view k) inner (map view rest) s ss found
    ∙ ap (λ xs. map_ok (before_all ss) (locations_of part (map view xs))) (sym next) ∙ c.loop-key.invariant
