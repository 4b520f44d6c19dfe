use Rattle.jq_ast.specs.Named.{named}
use Rattle.jq_state.specs.Inputs.{inputs_of}
use Rattle.jq_state.specs.Items.{item_of}
use Rattle.jq_state.specs.declared.next.Next.TheVariants as next
use Rattle.jq_transitions.specs.declared.backtracking.outcomes.Progress.TheVariants as progress
use Rattle.jq_engine.specs.private.Leading.{here, at_filter}
use Rattle.jq_engine.proofs.Leading.{and_then, leads_later, later_leads}
use Rattle.jq_engine.proofs.Following.{arrives_later}
use Rattle.jq_engine.proofs.tails.evaluate.Goals as goal

pub tails-init : goal.tails-init
tails-init c = record { env = c.requires; run = here }

pub tails-preserved : goal.tails-preserved
tails-preserved c =
    let h = rw c.in-Filter.is at c.in_ok-later.ensures in record { env = h.0; run = and_then c.tails.invariant.run (arrives_later h.1) }

pub returns-in-Progress : goal.returns-in-Progress
returns-in-Progress c =
    let inputs = inputs_of c.args.inputs.now in
    let start = at_filter inputs c.args.state.now (named c.args.tree.now) c.args.scope (item_of c.args.input) in
    let now = at_filter inputs c.tails.state (named c.tails.tree.now) c.tails.scope (item_of c.tails.input) in
    later_leads inputs start now c.tail_or_whole.new.state c.in-Progress.progress c.tails.invariant.run (rw c.in-Progress.is at c.in_ok-later.ensures)

pub returns : goal.returns
returns c =
    let inputs = inputs_of c.args.inputs.now in
    let start = at_filter inputs c.args.state.now (named c.args.tree.now) c.args.scope (item_of c.args.input) in
    let now = at_filter inputs c.tails.state (named c.tails.tree.now) c.tails.scope (item_of c.tails.input) in
    leads_later inputs start now c.begin.new.state c.begin.result c.tails.invariant.run c.begin.ensures

pub returns-then-is_update : goal.returns-then-is_update
returns-then-is_update c =
    let inputs = inputs_of c.args.inputs.now in
    let start = at_filter inputs c.args.state.now (named c.args.tree.now) c.args.scope (item_of c.args.input) in
    let now = at_filter inputs c.tails.state (named c.tails.tree.now) c.tails.scope (item_of c.tails.input) in
    let h = rw c.in-Filter.is at c.in_ok-later.ensures in
    later_leads inputs start now c.tail_or_whole.new.state (progress.Moves (next.Evaluate c.in-Filter.later c.in-Filter.inside c.tail_or_whole.new.input)) c.tails.invariant.run
    (record { from = h.1.from; advances = h.1.advances; steps = λ f. (h.0, h.1.steps) })
