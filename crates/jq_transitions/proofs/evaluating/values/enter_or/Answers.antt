use Rattle.std.proofs.Common.{◌∙◌, sym}
use Rattle.jq_state.proofs.shared.Items.{absent}
use Rattle.jq_transitions.proofs.evaluating.values.enter_or.Goals as goal

pub returns : goal.returns
returns c =
    let alone = absent c.args.input (sym c.is_present.ensures ∙ c.if-is_present.false) in
    rw alone (rw (c.in_ok-kept.ensures, alone) at c.run_combining.ensures)
