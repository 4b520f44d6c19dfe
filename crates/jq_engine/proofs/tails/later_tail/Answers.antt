use Rattle.std.proofs.Common.{refl}
use Rattle.jq_state.specs.Inputs.{inputs_of}
use Rattle.jq_state.specs.Items.{item_of}
use Rattle.jq_state.specs.Nexts.{stands}
use Rattle.jq_engine.specs.private.Leading.{at_item, here, by_transition}
use Rattle.jq_engine.proofs.Leading.{later_leads, leads_to}
use Rattle.jq_engine.proofs.tails.later_tail.Goals as goal

pub returns-in-Evaluate : goal.returns-in-Evaluate
returns-in-Evaluate c before e = (rw c.in-Evaluate.is at c.requires, record { from = before; advances = here; steps = rw c.in-Evaluate.is at e })

pub returns-in_ok-progress-in-Give : goal.returns-in_ok-progress-in-Give
returns-in_ok-progress-in-Give c before e =
    let inputs = inputs_of c.args.inputs.now in
    later_leads inputs before (at_item inputs c.args.state.now (item_of c.in-Give.item)) c.deliver.new.state c.in_ok-progress-in-Give.progress (by_transition (rw c.in-Give.is at e) here) c.in_ok-progress-in-Give.ensures

pub returns-in-Leave : goal.returns-in-Leave
returns-in-Leave c before e =
    let inputs = inputs_of c.args.inputs.now in
    record { from = stands inputs c.args.state.now c.args.next; advances = by_transition e here; steps = λ f. rw c.in-Leave.is (c.leave.ensures inputs) }

pub returns-in_default : goal.returns-in_default
returns-in_default c before e =
    let inputs = inputs_of c.args.inputs.now in
    leads_to inputs before (stands inputs c.args.state.now c.args.next) c.args.state.now _ e (c.requires, refl)
