use Rattle.std.proofs.Common.{take, drop, ap, ◌∙◌}
use Rattle.jq_pages.proofs.Divided.{set_and_put}
use Rattle.jq_pages.proofs.Edits.{same_default}
use Rattle.jq_pages.specs.declared.page.Page.{Page}
use Rattle.jq_pages.proofs.dividing.divide.Goals as goal

pub returns : goal.returns
returns g c =
    let ps = c.args.pages.now.items in
    let j = c.args.j in
    let p = c.index_mut-page.result.now in
    let one : Page _ = record { inputs = c.move_tail.new.from; pieces = c.move_tail-2.new.self; exit = c.replace-exit.new.dest } in
    let l = c.requires.page in
    let e = c.index_mut-page.ensures.value ∙ same_default ps j _ one l in
    record {
      one = one;
      two = record { inputs = c.move_tail.new.to; pieces = c.move_tail-2.new.to; exit = c.replace-exit.result };
      list = c.put_page.ensures ∙ set_and_put ps j one _ l;
      inputs = c.move_tail.ensures.first ∙ ap (λ z. take 32 z.inputs.items) e;
      later_inputs = c.move_tail.ensures.last ∙ ap (λ z. drop 32 z.inputs.items) e;
      pieces = c.move_tail-2.ensures.first ∙ ap (λ z. take 32 z.pieces.items.items) e;
      later_pieces = c.move_tail-2.ensures.last ∙ ap (λ z. drop 32 z.pieces.items.items) e;
      middle_exit = c.replace-exit.ensures.after;
      exit = c.replace-exit.ensures.value ∙ ap (λ z. z.exit) e;
    }
