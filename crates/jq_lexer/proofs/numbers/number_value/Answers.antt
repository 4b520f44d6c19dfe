use Rattle.std.proofs.Common.{◌≡◌, ◌∙◌, None, ap, arith, rules, subst, sym}
use Rattle.std.specs.Float.Numeral.{scan_numeral}
use Rattle.jq_lexer.specs.private.Numbers.{HasValue}
use Rattle.jq_lexer.proofs.NumberValues.{no_value_at, too_large, value_at}
use Rattle.jq_lexer.proofs.numbers.number_value.Goals as goal

pub returns-in_err-value : goal.returns-in_err-value
returns-in_err-value c =
    let none : c.from_residual.result ≡ None = search rules in
    λ r i. subst (HasValue r) (sym none) (no_value_at c.shifted_digits_solve_the_equation.ensures c.args.text.now c.scan.result (c.scan.ensures.parts ∙ ap scan_numeral c.as_bytes.ensures.value) c.in_err-value.ensures r i)

pub returns-then-value : goal.returns-then-value
returns-then-value c = value_at c.shifted_digits_solve_the_equation.ensures c.args.text.now c.scan.result (c.scan.ensures.parts ∙ ap scan_numeral c.as_bytes.ensures.value) c.in_ok-value.value c.in_ok-value.ensures (omega arith)

pub returns-else-value : goal.returns-else-value
returns-else-value c = too_large c.shifted_digits_solve_the_equation.ensures c.args.text.now c.scan.result (c.scan.ensures.parts ∙ ap scan_numeral c.as_bytes.ensures.value) c.in_ok-value.value (c.in_ok-value.ensures.1) (omega arith)
