use Rattle.std.proofs.Common.{◌≡◌, ◌∙◌, sym, ap}
use Rattle.jq_meaning.specs.Runs.{plain, as_value}
use Rattle.jq_state.specs.Items.{item_of}
use Rattle.jq_state.proofs.shared.Items.{value_of_item}
use Rattle.jq_transitions.proofs.evaluating.binding.enter_bind_as.Goals as goal

pub returns : goal.returns
returns c =
    let value : item_of c.plain.result ≡ as_value (item_of c.args.input) = c.plain.ensures ∙ ap plain (c.in_ok-value.ensures ∙ sym (value_of_item c.args.input)) in rw value at c.run_binding.ensures
