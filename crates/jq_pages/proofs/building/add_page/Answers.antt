use Rattle.std.proofs.Common.{◌++◌, ◌∷◌, [], ap, ◌∙◌, refl}
use Rattle.jq_pages.specs.declared.page.Page.{Page}
use Rattle.jq_pages.proofs.Grown.{page_added}
use Rattle.jq_pages.proofs.building.add_page.Goals as goal

pub returns : goal.returns
returns g c =
    let new : Page _ = record { inputs = c.push.new.self; pieces = c.push-2.new.self; exit = c.args.exit } in
    page_added c.args.pages.now.items c.push-3.new.self.items new c.args.value c.args.piece c.args.exit c.in_ok-push-3.ensures.items
    (c.in_ok-push.ensures.items ∙ ap (λ z. z ++ c.args.value ∷ []) c.new-inputs.ensures.items) (c.in_ok-push-2.ensures.items ∙ ap (λ z. z ++ c.args.piece ∷ []) c.new-pieces.ensures.items) refl
