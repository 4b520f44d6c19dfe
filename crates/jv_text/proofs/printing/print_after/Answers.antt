use Rattle.std.proofs.Common.{◌∙◌, ◌++◌, ap}
use Rattle.std.proofs.lemmas.Result.{on_ok_weaker}
use Rattle.json.specs.Print.{print}
use Rattle.jv_data.specs.View.{view}
use Rattle.jv_text.specs.Printed.{tokens_of}
use Rattle.jv_text.proofs.Spelt.{print-tokens_of}
use Rattle.jv_text.proofs.printing.print_after.Goals as goal

pub returns-clause-ok : goal.returns-clause-ok
returns-clause-ok c =
    let v = view c.args.value.now in
    let held = c.args.out.now.items in
    let front = c.write-written.ensures.before ∙ c.new-writer.ensures.before ∙ ap (λ b. b.items) c.replace.ensures.value in
    on_ok_weaker c.write-written.result (λ e.
    c.into_inner.ensures.items
    ∙ ap (λ b. b ++ print c.write-written.new.out.tokens) front
    ∙ ap (λ ts. held ++ print ts) (e ∙ ap (λ ts. ts ++ tokens_of v) c.new-writer.ensures.tokens)
    ∙ ap (λ text. held ++ text) (print-tokens_of v)) c.write-written.ensures.ok
