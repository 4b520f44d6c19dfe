use Rattle.std.proofs.Common.{◌≡◌, ◌∙◌, ap, sym, subst, map}
use Rattle.std.specs.Result.{IfOk}
use Rattle.jv_data.specs.View.{view}
use Rattle.jq_meaning.specs.Builtins.{plain_native}
use Rattle.jq_meaning.specs.Runs.{Item, Run}
use Rattle.jq_natives.specs.Natives.{answer_of_native}
use Rattle.jq_state.specs.Items.{item_of, keys_of}
use Rattle.jq_operations.specs.Outputs.{outputs_of}
use Rattle.jq_state.proofs.shared.Items.{value_at}
use Rattle.jq_operations.proofs.NativeCalls.{native_of-other}
use Rattle.jq_operations.proofs.builtins.apply_native.Goals as goal

pub returns-in_default : goal.returns-in_default
returns-in_default c =
    let x = c.args.item in
    let f = c.args.native in
    let vs = map view c.args.arguments.now in
    subst (λ (r : Run Item). IfOk c.answered.result (λ o. outputs_of o ≡ r))
    (sym (native_of-other f (item_of x) vs c.in_default.not-GetPath ∙ ap (λ v. plain_native f v vs) (value_at (view x.value) (keys_of x.path))))
    (c.answered.ensures (answer_of_native f (view x.value) vs) c.call_in_place.ensures)
