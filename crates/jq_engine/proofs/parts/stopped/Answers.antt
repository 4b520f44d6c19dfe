use Rattle.std.proofs.Common.{◌≡◌, ◌∙◌, sym, ap}
use Rattle.std.proofs.lemmas.Result.{IfOk-weaker}
use Rattle.jv_data.specs.View.{view}
use Rattle.jq_ast.specs.Named.{named}
use Rattle.jq_meaning.specs.Runs.{plain, Done, Raised}
use Rattle.jq_meaning.specs.machine.Machine.{step}
use Rattle.jq_meaning.specs.machine.State.{go_back, raise, moves}
use Rattle.jq_state.specs.Inputs.{inputs_of}
use Rattle.jq_state.specs.Items.{item_of}
use Rattle.jq_state.proofs.shared.Transitions.{evaluates}
use Rattle.jq_transitions.specs.declared.backtracking.outcomes.Progress.TheVariants.{Moves}
use Rattle.jq_engine.proofs.Waiting.{part_begins, part_ends, steps_at}
use Rattle.jq_engine.proofs.parts.stopped.Goals as goal

pub returns-in-Raised : goal.returns-in-Raised
returns-in-Raised c v h l =
    let inputs = inputs_of c.args.inputs.now in
    let u = c.raise.new.state in
    let e = view c.in-Raised.error in
    let m = rw c.in-Raised.is at h in
    let pushed = c.in_ok-push.ensures in
    IfOk-weaker c.raise.result _ _
    (λ r g. part_ends inputs c.args.state.now (named c.args.part.now) c.args.step c.args.scope (plain v) u r (Raised e) m (steps_at inputs (raise e) u r (pushed.frames inputs) (pushed.forks inputs) (g inputs))) c.raise.ensures

pub returns-in-Nothing : goal.returns-in-Nothing
returns-in-Nothing c v h l =
    let inputs = inputs_of c.args.inputs.now in
    let u = c.go_back_once.new.state in
    let m = rw c.in-Nothing.is at h in
    let pushed = c.in_ok-push.ensures in
    IfOk-weaker c.go_back_once.result _ _
    (λ r g. part_ends inputs c.args.state.now (named c.args.part.now) c.args.step c.args.scope (plain v) u r Done m (steps_at inputs go_back u r (pushed.frames inputs) (pushed.forks inputs) g)) c.go_back_once.ensures

pub returns-in_ok-next-in-Unknown : goal.returns-in_ok-next-in-Unknown
returns-in_ok-next-in-Unknown c v h l =
    let inputs = inputs_of c.args.inputs.now in
    let s = c.args.state.now in
    let t = named c.args.part.now in
    let next = c.in_ok-next-in-Unknown.ensures in
    let pushed = c.in_ok-push.ensures in
    let same : item_of c.plain.result ≡ plain v = c.plain.ensures ∙ ap plain (rw c.in-Unknown.is at l) in
    let steps = ap step (evaluates s c.push.new.self t c.args.scope inputs pushed.envs same (pushed.frames inputs) (pushed.forks inputs)) ∙ ap moves (sym next.1) in
    part_begins inputs s t c.args.step c.args.scope (plain v) c.enter.new.state (Moves c.in_ok-next-in-Unknown.next) (next.0, steps)
