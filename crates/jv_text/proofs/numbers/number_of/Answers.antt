use Rattle.std.proofs.Common.{◌∙◌, ap, sym, subst, option_map}
use Rattle.std.proofs.lemmas.Bool.{false≢true}
use Rattle.std.specs.Fmt.{signed_decimal}
use Rattle.json.specs.Print.{IsNumber}
use Rattle.jv_number.specs.Number.{number_value}
use Rattle.jv_text.proofs.RunTexts.{run_no_text, run_no_number, run_number, number_is, number_fails}
use Rattle.jv_text.proofs.numbers.number_of.Goals as goal

pub returns-in_default : goal.returns-in_default
returns-in_default c = run_no_text c.args.run.now c.in_default.ensures.cases.0

pub returns-then-not-is_number : goal.returns-then-not-is_number
returns-then-not-is_number c =
    run_no_number c.number_test_is_the_grammar.ensures c.args.run.now (λ n. false≢true (sym c.if-not-is_number.true ∙ c.is_number.ensures.1 (subst IsNumber (sym c.in-Ok.ensures.cases.0) n)))

pub returns-else-is_some : goal.returns-else-is_some
returns-else-is_some c =
    let run = c.args.run.now in
    let same = c.in-Ok.ensures.cases.0 in
    let number = subst IsNumber same (c.is_number.ensures.0 c.if-not-is_number.false) in
    number_fails c.number_text-value.result run (sym c.is_some.ensures ∙ c.if-is_some.false)
    (run_number c.number_test_is_the_grammar.ensures run c.in-Ok.ensures.cases.1 number ∙ ap (λ t. option_map signed_decimal (number_value t)) (sym same) ∙ ap (option_map signed_decimal) (sym c.number_text-value.ensures.value))

pub returns-then-is_some : goal.returns-then-is_some
returns-then-is_some c =
    let run = c.args.run.now in
    let same = c.in-Ok.ensures.cases.0 in
    let number = subst IsNumber same (c.is_number.ensures.0 c.if-not-is_number.false) in
    number_is c.number_text-value.result run (sym c.is_some.ensures ∙ c.if-is_some.true)
    (run_number c.number_test_is_the_grammar.ensures run c.in-Ok.ensures.cases.1 number ∙ ap (λ t. option_map signed_decimal (number_value t)) (sym same) ∙ ap (option_map signed_decimal) (sym c.number_text-value.ensures.value))
