use Rattle.std.proofs.Common.{◌∙◌, ap, sym}
use Rattle.jv_arith.specs.Arith.{neg_of}
use Rattle.jv_data.proofs.shared.Levels.{view-Bool}
use Rattle.jv_data.specs.Value.{boolean}
use Rattle.jv_data.specs.View.{view}
use Rattle.jq_meaning.specs.machine.Operations.{result_of}
use Rattle.jq_meaning.specs.Continuations.{truth, negated}
use Rattle.jq_meaning.specs.Runs.{one, plain}
use Rattle.jq_natives.specs.Answers.{is_true}
use Rattle.jq_state.specs.Items.{item_of, keys_of}
use Rattle.jq_state.specs.Steps.{operation_of}
use Rattle.jq_state.proofs.shared.Items.{value_at}
use Rattle.jq_operations.proofs.operations.run.Goals as goal

pub returns-in-ToTruth : goal.returns-in-ToTruth
unfolding truth
returns-in-ToTruth c =
    let x = c.args.item in
    let same = value_at (view x.value) (keys_of x.path) in
    c.value-in-ToTruth.ensures ∙ ap (λ v. one (plain v)) (view-Bool c.truth.result ∙ ap boolean (c.truth.ensures ∙ ap is_true (sym same)))
    ∙ sym (ap (λ o. result_of (operation_of o) (item_of x)) c.in-ToTruth.is)

pub returns-in-Negate : goal.returns-in-Negate
unfolding negated
returns-in-Negate c =
    let x = c.args.item in
    let same = value_at (view x.value) (keys_of x.path) in
    rw (c.in-Negate.is, same) (c.answered.ensures (neg_of (view x.value)) c.neg.ensures)
