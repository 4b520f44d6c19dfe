use Rattle.std.proofs.Common.{◌≡◌, ◌+ℤ◌, ◌<◌, IsTrue, false, true, length, refl, arith, w64}
use Rattle.std.proofs.lemmas.Int.{to_z-of_z}
use Rattle.std.specs.Prelude.{FitsSigned}
use Rattle.jq_meaning.specs.Builtins.{steps_between, numbers_up_to}
use Rattle.jq_state.proofs.Ranges.{ends_at, numbers_counted, numbers_on, one_number, steps_back}
use Rattle.jq_state.proofs.numbers.number_after.Goals as goal

pub returns-in_err-next-clause-last : goal.returns-in_err-next-clause-last
returns-in_err-next-clause-last c =
    let up = c.ranges_stop_at_the_end.ensures.upwards in
    let down = c.ranges_stop_at_the_end.ensures.downwards in
    let over = simp (to_z-of_z, c.ranges.first, c.ranges.step) at c.in_err-next.ensures in
    rw c.from_residual.ensures
    (λ (h : 0 < steps_between c.args.first c.args.end c.args.step). one_number up down c.args.first c.args.end c.args.step h (ends_at up down c.args.first c.args.end c.args.step c.ranges.first c.ranges.end over))

pub returns-then-not-is_before-clause-last : goal.returns-then-not-is_before-clause-last
returns-then-not-is_before-clause-last c =
    let up = c.ranges_stop_at_the_end.ensures.upwards in
    let down = c.ranges_stop_at_the_end.ensures.downwards in
    let h : FitsSigned w64 (c.args.first +ℤ c.args.step) × (c.in_ok-next.next ≡ c.args.first +ℤ c.args.step) = simp (to_z-of_z, c.ranges.first, c.ranges.step) at c.in_ok-next.ensures in
    let k : 0 < steps_between (c.args.first +ℤ c.args.step) c.args.end c.args.step → IsTrue false = simp (to_z-of_z, h.0, h.1, c.ranges.step, c.ranges.end) at c.if-not-is_before.ensures.1 in
    λ h. one_number up down c.args.first c.args.end c.args.step h (λ l. absurd (grind (arith, k l)))

pub returns-clause-left : goal.returns-clause-left
returns-clause-left c =
    let h : FitsSigned w64 (c.args.first +ℤ c.args.step) × (c.in_ok-next.next ≡ c.args.first +ℤ c.args.step) = simp (to_z-of_z, c.ranges.first, c.ranges.step) at c.in_ok-next.ensures in
    let k : IsTrue true → 0 < steps_between (c.args.first +ℤ c.args.step) c.args.end c.args.step = simp (to_z-of_z, h.0, h.1, c.ranges.step, c.ranges.end) at c.if-not-is_before.ensures.0 in
    let counted : 0 < length (numbers_up_to (c.args.first +ℤ c.args.step) c.args.end c.args.step).items = rw (numbers_counted (c.args.first +ℤ c.args.step) c.args.end c.args.step) (k refl) in
    simp (to_z-of_z, h.0, h.1) counted

pub returns-clause-others : goal.returns-clause-others
returns-clause-others c =
    let up = c.ranges_stop_at_the_end.ensures.upwards in
    let down = c.ranges_stop_at_the_end.ensures.downwards in
    let h : FitsSigned w64 (c.args.first +ℤ c.args.step) × (c.in_ok-next.next ≡ c.args.first +ℤ c.args.step) = simp (to_z-of_z, c.ranges.first, c.ranges.step) at c.in_ok-next.ensures in
    let k : IsTrue true → 0 < steps_between (c.args.first +ℤ c.args.step) c.args.end c.args.step = simp (to_z-of_z, h.0, h.1, c.ranges.step, c.ranges.end) at c.if-not-is_before.ensures.0 in
    let more = steps_back up down c.args.first c.args.end c.args.step (k refl) in
    simp (to_z-of_z, h.0, h.1) (numbers_on up down c.args.first c.args.end c.args.step (c.args.first +ℤ c.args.step) more refl)
