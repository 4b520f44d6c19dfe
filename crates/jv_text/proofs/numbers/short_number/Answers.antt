use Rattle.std.proofs.Common.{length, take, drop, ◌-◌, refl, sym}
use Rattle.jv_text.proofs.SmallTexts.{short_positive, short_negative}
use Rattle.jv_text.proofs.numbers.short_number.Goals as goal

pub returns-then-not-has_minus : goal.returns-then-not-has_minus
returns-then-not-has_minus c =
    short_positive c.number_test_is_the_grammar.ensures c.value_solves_the_equation.ensures c.args.run.now _ _ refl c.in_ok-short_digits.ensures.value

pub returns-then-n-gt0 : goal.returns-then-n-gt0
returns-then-n-gt0 c =
    let run = c.args.run.now in
    let begins = c.if-not-has_minus.ensures in
    short_negative c.number_test_is_the_grammar.ensures c.value_solves_the_equation.ensures run (take (length run - 1) (drop 1 run)) c.in_ok-n.n (sym begins.value) (begins.some refl) refl c.in_ok-n.ensures.value c.if-n-gt0.true
