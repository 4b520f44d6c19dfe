use Rattle.std.proofs.Common.{◌≡◌, ◌∙◌, ◌++◌, ap, sym, rules, arith, string_bytes}
use Rattle.std.specs.Str.{chars}
use Rattle.jv_arith.proofs.Repeats.{copies_more, chars-copies}
use Rattle.jv_arith.specs.Strings.{copies}
use Rattle.jv_arith.proofs.strings.copies.Goals as goal

pub loop-preserved : goal.loop-preserved
loop-preserved c =
    let pushed : string_bytes c.push_str.new.self ≡ string_bytes c.loop.copies ++ c.args.text.now = search rules in
    pushed ∙ ap (λ bs. bs ++ c.args.text.now) c.loop.invariant ∙ sym (copies_more c.loop.counter c.args.text.now)

pub returns : goal.returns
returns c =
    let whole : c.loop.counter ≡ c.args.count = omega arith in
    ap chars (c.loop.invariant ∙ ap (λ n. copies n c.args.text.now) whole) ∙ chars-copies c.args.count c.args.text.now c.utf8.text
