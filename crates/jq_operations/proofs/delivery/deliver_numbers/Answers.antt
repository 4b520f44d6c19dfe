use Rattle.std.proofs.Common.{◌≡◌, ◌<◌, ◌∷◌, [], ℤ, IsTrue, false, length, ap, refl, ◌∙◌, arith, rules, to_z, of_z, w64}
use Rattle.std.specs.Prelude.{FitsSigned}
use Rattle.std.proofs.lemmas.Int.{to_z-of_z}
use Rattle.jv_data.proofs.shared.Levels.{view-Num}
use Rattle.jv_data.specs.Value.{Value, number}
use Rattle.jq_meaning.specs.Builtins.{steps_between, numbers_up_to}
use Rattle.jq_meaning.specs.Runs.{Run, Item, plain, before}
use Rattle.jq_meaning.specs.machine.Operations.{deliver}
use Rattle.jq_meaning.specs.machine.State.{give, remaining, fork, State, state}
use Rattle.jq_state.specs.Items.{item_of}
use Rattle.jq_state.specs.Views.{frames_in, forks_in}
use Rattle.jq_operations.proofs.Coming.{same_goal}
use Rattle.jq_operations.proofs.Delivering.{no_number, others_wait-before}
use Rattle.jq_operations.proofs.delivery.deliver_numbers.Goals as goal

pub returns-then-not-is_before : goal.returns-then-not-is_before
returns-then-not-is_before c =
    let s = c.args.state.now in
    let h : 0 < steps_between c.args.first c.args.end c.args.step → IsTrue false = simp (to_z-of_z, c.ranges.first, c.ranges.end, c.ranges.step) at c.if-not-is_before.ensures.1 in
    (tt, λ inputs. ap (λ r. deliver r (frames_in inputs s) (forks_in inputs s)) (no_number c.args.first c.args.end c.args.step (λ l. absurd (grind (arith, h l)))))

pub returns-in-Some : goal.returns-in-Some
returns-in-Some c =
    let s = c.args.state.now in
    let next = c.in-Some.next in
    let on : numbers_up_to c.args.first c.args.end c.args.step ≡ before (plain (number c.args.first) ∷ []) (numbers_up_to next c.args.end c.args.step)
    = simp (to_z-of_z, c.ranges.first, c.ranges.end, c.ranges.step) at c.in-Some.ensures.others in
    let item : item_of c.plain-item.result ≡ plain (number c.args.first) = simp (to_z-of_z, c.ranges.first, view-Num) at c.plain-item.ensures in
    let fits : FitsSigned w64 next = search rules in
    let gives : Run Value → Item → ℤ → ℤ → ℤ → State = λ inputs x n end step. state (give x) (frames_in inputs s) (fork (remaining (numbers_up_to n end step)) [] (frames_in inputs s) ∷ forks_in inputs s) in
    let left : 0 < length (numbers_up_to next c.args.end c.args.step).items = simp (to_z-of_z, c.ranges.end, c.ranges.step) at c.in-Some.ensures.left in
    same_goal c.give_first.result _ _ c.give_first.new.state
    (λ inputs.
    ap (λ n. gives inputs (item_of c.plain-item.result) n (to_z w64 (of_z w64 c.args.end)) (to_z w64 (of_z w64 c.args.step))) (to_z-of_z w64 next fits)
    ∙ ap (λ end. gives inputs (item_of c.plain-item.result) next end (to_z w64 (of_z w64 c.args.step))) (to_z-of_z w64 c.args.end c.ranges.end)
    ∙ ap (λ step. gives inputs (item_of c.plain-item.result) next c.args.end step) (to_z-of_z w64 c.args.step c.ranges.step)
    ∙ ap (λ x. gives inputs x next c.args.end c.args.step) item
    ∙ others_wait-before (plain (number c.args.first)) (numbers_up_to c.args.first c.args.end c.args.step) (numbers_up_to next c.args.end c.args.step) (frames_in inputs s) (forks_in inputs s) refl on left)
    c.give_first.ensures
