use Rattle.std.proofs.Common.{◌<◌, ◌≤◌, length, get_or, arith}
use Rattle.std.proofs.lemmas.Int.Digits.{digits_value_more}
use Rattle.std.proofs.lemmas.Str.{digit_value_digit}
use Rattle.jq_script.proofs.Asking.{digit_in, small_at, small_step}
use Rattle.jq_script.proofs.requests.number.Goals as goal

pub overflow_mul-number : goal.overflow_mul-number
overflow_mul-number c =
    let at : c.loop-digit.digit-index ≤ 18 = omega arith in
    let small = small_at c.loop-digit.digit-index c.loop-digit.number at c.loop-digit.invariant.small in
    omega arith

pub overflow_add-number : goal.overflow_add-number
overflow_add-number c =
    let at : c.loop-digit.digit-index ≤ 18 = omega arith in
    let small = small_at c.loop-digit.digit-index c.loop-digit.number at c.loop-digit.invariant.small in
    let inside : c.loop-digit.digit-index < length c.args.digits.now = omega arith in
    let range = digit_in c.args.digits.now c.loop-digit.digit-index c.requires.all inside in
    omega (arith, range.1, c.from.ensures)

pub loop-digit-preserved : goal.loop-digit-preserved
loop-digit-preserved c =
    let i = c.loop-digit.digit-index in
    let digits = c.args.digits.now in
    let inside : i < length digits = omega arith in
    let range = digit_in digits i c.requires.all inside in
    let more = digits_value_more 10 digits i inside in
    let worth = digit_value_digit (get_or digits i 0) range in
    let digit : c.from.result ≤ 9 = omega (arith, range.0, range.1, c.from.ensures) in
    record {
      number = omega (arith, more, worth, range.0, c.from.ensures, c.loop-digit.invariant.number);
      small = small_step i c.loop-digit.number c.from.result c.loop-digit.invariant.small digit;
    }
