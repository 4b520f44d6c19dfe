use Rattle.std.proofs.Common.{◌<◌, ◌++◌, ◌∷◌, [], length, arith, ap, ◌∙◌, refl}
use Rattle.jq_pages.specs.declared.page.Page.{Page}
use Rattle.jq_pages.proofs.Edits.{same_default}
use Rattle.jq_pages.proofs.Grown.{page_more, set_last}
use Rattle.jq_pages.proofs.building.add_to_last.Goals as goal

pub returns : goal.returns
returns g c =
    let ps = c.args.pages.now.items in
    let j = c.args.j in
    let l : j < length ps = omega (arith, c.requires.last) in
    let new : Page _ = record { inputs = c.push.new.self; pieces = c.push-2.new.self; exit = c.args.exit } in
    let e = c.index_mut-page.ensures.value ∙ same_default ps j _ new l in
    page_more ps _ j new c.args.value c.args.piece c.args.exit c.requires.last (set_last ps j new c.requires.last)
    (c.in_ok-push.ensures.items ∙ ap (λ z. z.inputs.items ++ c.args.value ∷ []) e) (c.in_ok-push-2.ensures.items ∙ ap (λ z. z.pieces.items.items ++ c.args.piece ∷ []) e) refl c.requires.fits
