use Rattle.std.proofs.Common.{◌≡◌, ◌∙◌, ap, sym, pos, arith}
use Rattle.std.proofs.lemmas.Int.{ints}
use Rattle.jv_data.specs.Value.{string}
use Rattle.jq_meaning.specs.Builtins.{numbers_between}
use Rattle.jq_meaning.specs.Runs.{Item, fail}
use Rattle.jq_operations.proofs.Messages.{text-no_step}
use Rattle.jq_operations.proofs.ranges.numbers.Goals as goal

pub returns-then-step-eq0 : goal.returns-then-step-eq0
returns-then-step-eq0 c =
    let zero : c.args.step ≡ pos 0 = omega (arith, ints) in
    ap (fail {A = Item}) (c.in_ok-from_text.ensures ∙ ap string text-no_step) ∙ sym (ap (numbers_between c.args.start c.args.end) zero)
