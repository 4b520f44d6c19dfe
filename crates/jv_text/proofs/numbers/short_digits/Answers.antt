use Rattle.std.proofs.Common.{◌≡◌, ◌≤◌, ◌<◌, ◌∙◌, length, get_or, sym, subst, arith}
use Rattle.std.proofs.lemmas.Bool.{eqb-false}
use Rattle.std.specs.Prelude.{◌^◌}
use Rattle.jv_text.specs.private.Runs.{AreShort}
use Rattle.jv_text.proofs.Short.{below_small}
use Rattle.jv_text.proofs.numbers.short_digits.Goals as goal
use Rattle.jv_text.proofs.numbers.short_digits.Goals.{else-digits-gt1-via-then-digits-gt1+else-digits-eq48, else-digits-gt1-via-else-digits-gt1}

pub returns : goal.returns
returns c =
    let ds = c.args.digits.now in
    let read = c.in_ok-value_of_digits in
    let filled = eqb-false (length ds) 0 (sym c.is_empty.ensures ∙ c.if-is_empty.false) in
    let some : 0 < length ds = omega (arith, filled) in
    let few : length ds ≤ 18 = omega arith in
    let lead : get_or ds 0 0 ≡ 48 → length ds ≡ 1 = elim c.else-digits-gt1.branch [
      | else-digits-gt1-via-then-digits-gt1+else-digits-eq48 w ↦ λ z. absurd (grind (arith, z))
      | else-digits-gt1-via-else-digits-gt1 w ↦ λ z. omega (arith, some)
    ] in
    let short : AreShort ds = record { some = some; few = few; lead = lead; digits = read.ensures.digits } in
    record { value = record { short = short; value = read.ensures.value }; below = subst (λ n. n < 2 ^ 63) (sym read.ensures.value) (below_small ds short) }
