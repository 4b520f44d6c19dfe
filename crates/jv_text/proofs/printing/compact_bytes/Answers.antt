use Rattle.std.proofs.Common.{◌∙◌, ◌++◌, ap}
use Rattle.json.specs.Print.{print}
use Rattle.jv_data.specs.View.{view}
use Rattle.jv_text.specs.Printed.{tokens_of}
use Rattle.jv_text.proofs.Spelt.{print-tokens_of}
use Rattle.jv_text.proofs.printing.compact_bytes.Goals as goal

pub returns-clause-text : goal.returns-clause-text
returns-clause-text c =
    let v = view c.args.value.now in
    let front = c.write.ensures.before ∙ c.new-writer.ensures.before ∙ c.requires in
    c.into_inner.ensures.items
    ∙ ap (λ b. b ++ print c.write.new.out.tokens) front
    ∙ ap print (c.in_ok-write.ensures.ok ∙ ap (λ ts. ts ++ tokens_of v) c.new-writer.ensures.tokens)
    ∙ print-tokens_of v
