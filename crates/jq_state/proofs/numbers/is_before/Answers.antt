use Rattle.std.proofs.Common.{◌<ℤ◌, pos, arith}
use Rattle.std.proofs.lemmas.Int.{ints, to_z-of_z}
use Rattle.jq_state.proofs.Ranges.{before_up, before_down, tested}
use Rattle.jq_state.proofs.numbers.is_before.Goals as goal

pub returns-then-step-gt0 : goal.returns-then-step-gt0
returns-then-step-gt0 c =
    let h : pos 0 <ℤ c.args.step = omega (arith, ints) in
    simp (to_z-of_z, c.ranges.first, c.ranges.end) (tested c.args.first c.args.end (before_up c.ranges_stop_at_the_end.ensures.upwards c.args.first c.args.end c.args.step h))

pub returns-then-step-lt0 : goal.returns-then-step-lt0
returns-then-step-lt0 c =
    let h : c.args.step <ℤ pos 0 = omega (arith, ints) in
    simp (to_z-of_z, c.ranges.first, c.ranges.end) (tested c.args.end c.args.first (before_down c.ranges_stop_at_the_end.ensures.downwards c.args.first c.args.end c.args.step h))
