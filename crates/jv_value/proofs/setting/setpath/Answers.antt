use Rattle.std.proofs.Common.{◌∙◌, ◌∷◌, ◌+◌, ap, sym, rules, drop, map}
use Rattle.std.proofs.lemmas.List.{drop_more}
use Rattle.jv_data.specs.View.{view}
use Rattle.jv_value.specs.Results.{and_then}
use Rattle.jv_value.specs.SetPath.{setpath_of}
use Rattle.jv_value.specs.private.Frames.{TakesPart, put_into_all}
use Rattle.jv_value.proofs.Frames.{set_deeper}
use Rattle.jv_value.proofs.setting.setpath.Goals as goal

pub loop-key-preserved : goal.loop-key-preserved
loop-key-preserved c =
    let path = c.args.path.now in
    let k = c.key-item.result in
    let rest = drop (c.loop-key.key-index + 1) path in
    let next = drop_more path c.loop-key.key-index k (search rules) ∙ ap (λ y. y ∷ rest) (sym c.key-item.is) in
    let part = view c.loop-key.part in
    let inner = view c.in_ok-inner.inner in
    let frame = c.in_ok-inner.frame in
    let frames = c.loop-key.frames.items in
    let x = view c.args.new in
    let taken : TakesPart part (view k) inner frame = search rules in
    ap (λ fs. and_then (setpath_of inner (map view rest) x) (put_into_all fs)) c.in_ok-push.ensures.items
    ∙ set_deeper part (view k) inner (map view rest) x frame frames taken
    ∙ ap (λ xs. and_then (setpath_of part (map view xs) x) (put_into_all frames)) (sym next) ∙ c.loop-key.invariant
