use Rattle.std.proofs.Common.{◌≡◌, ◌<◌, ◌∷◌, [], length, refl, rules, w64}
use Rattle.std.proofs.lemmas.Int.{to_z-of_z}
use Rattle.std.specs.Prelude.{FitsSigned}
use Rattle.jv_data.proofs.shared.Levels.{view-Num}
use Rattle.jv_data.specs.Value.{number}
use Rattle.jq_meaning.specs.Builtins.{steps_between, numbers_up_to}
use Rattle.jq_meaning.specs.Runs.{before, one, plain}
use Rattle.jq_state.specs.Items.{item_of}
use Rattle.jq_state.specs.declared.forks.Choice.TheVariants.{Numbers}
use Rattle.jq_state.proofs.Giving.{few_numbers, number_given}
use Rattle.jq_state.proofs.forks.Choice.take_first.Goals as goal
use Rattle.jq_state.proofs.forks.Choice.take_first.Goals.{in-Numbers-self, in_default-self}

pub returns-in_err-next-clause-few : goal.returns-in_err-next-clause-few
returns-in_err-next-clause-few c =
    let first = c.in-Numbers.first in
    let end = c.in-Numbers.end in
    let step = c.in-Numbers.step in
    let first_fits : FitsSigned w64 first = search rules in
    let end_fits : FitsSigned w64 end = search rules in
    let step_fits : FitsSigned w64 step = search rules in
    let last : 0 < steps_between first end step → numbers_up_to first end step ≡ one (plain (number first)) = simp (to_z-of_z, first_fits, end_fits, step_fits) at c.in_err-next.ensures.last in
    rw c.from_residual.ensures (few_numbers c.args.self.now first end step (plain (number first)) c.in-Numbers.is last)

pub returns-in-Numbers-clause-some : goal.returns-in-Numbers-clause-some
returns-in-Numbers-clause-some c =
    let old = c.args.self.now in
    let new = c.match-self-2.self in
    let first = c.in-Numbers.first in
    let end = c.in-Numbers.end in
    let step = c.in-Numbers.step in
    let next = c.in_ok-next.next in
    let first_fits : FitsSigned w64 first = search rules in
    let end_fits : FitsSigned w64 end = search rules in
    let step_fits : FitsSigned w64 step = search rules in
    let next_fits : FitsSigned w64 next = search rules in
    let others : numbers_up_to first end step ≡ before (plain (number first) ∷ []) (numbers_up_to next end step) = simp (to_z-of_z, first_fits, end_fits, step_fits) at c.in_ok-next.ensures.others in
    let left : 0 < length (numbers_up_to next end step).items = simp (to_z-of_z, end_fits, step_fits) at c.in_ok-next.ensures.left in
    let item : item_of c.plain.result ≡ plain (number first) = simp (to_z-of_z, first_fits, view-Num) at c.plain.ensures in
    elim c.match-self-2.branch [
      | in-Numbers-self w ↦
          let now = w.in-Numbers-self in
          let is : new ≡ Numbers next now.field-1 now.field-2 = simp (to_z-of_z, next_fits) at w.self-is in
          number_given old new first end step now.left now.field-1 now.field-2 next c.plain.result c.in-Numbers.is now.is is item left others
      | in_default-self w ↦ absurd (w.in_default-self.not-Numbers first end step refl)
    ]
