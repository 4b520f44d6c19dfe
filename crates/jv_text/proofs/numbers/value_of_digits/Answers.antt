use Rattle.std.proofs.Common.{◌<◌, length, get_or, arith}
use Rattle.std.proofs.lemmas.Int.Digits.{digits_value_more}
use Rattle.std.proofs.lemmas.Str.{digit_value_digit}
use Rattle.jv_text.proofs.Short.{below_digits, digits_more}
use Rattle.jv_text.proofs.numbers.value_of_digits.Goals as goal

pub overflow_mul-value : goal.overflow_mul-value
overflow_mul-value c =
    let so_far = c.loop-digit.invariant in
    omega (arith, so_far.value, below_digits c.args.digits.now c.loop-digit.digit-index c.requires (omega arith) so_far.digits)

pub overflow_add-value : goal.overflow_add-value
overflow_add-value c =
    let ds = c.args.digits.now in
    let i = c.loop-digit.digit-index in
    let so_far = c.loop-digit.invariant in
    let digit = c.if-not-is_ascii_digit.ensures in
    omega (arith, so_far.value, below_digits ds i c.requires (omega arith) so_far.digits, digit.bound, digit_value_digit (get_or ds i 0) digit.cases)

pub loop-digit-preserved : goal.loop-digit-preserved
loop-digit-preserved c =
    let ds = c.args.digits.now in
    let i = c.loop-digit.digit-index in
    let within : i < length ds = omega arith in
    let so_far = c.loop-digit.invariant in
    let digit = c.if-not-is_ascii_digit.ensures in
    record {
      digits = digits_more ds i within so_far.digits digit.bound;
      value = omega (arith, so_far.value, digits_value_more 10 ds i within, digit_value_digit (get_or ds i 0) digit.cases);
    }
