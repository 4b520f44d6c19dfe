use Rattle.std.proofs.Common.{◌≡◌, ◌∙◌, IfOk, refl, sym, ap, subst}
use Rattle.jv_data.specs.View.{view}
use Rattle.jq_ast.specs.Named.{named}
use Rattle.jq_meaning.specs.Meaning.{meaning}
use Rattle.jq_meaning.specs.Runs.{Item, plain, one}
use Rattle.jq_meaning.specs.machine.State.{moves}
use Rattle.jq_single.specs.Single.{Ends}
use Rattle.jq_state.specs.Environments.{envs_of}
use Rattle.jq_state.specs.Inputs.{inputs_of}
use Rattle.jq_state.specs.Items.{item_of}
use Rattle.jq_state.specs.Nodes.{env_at}
use Rattle.jq_state.specs.Views.{envs_in}
use Rattle.jq_state.specs.declared.environments.Nodes.{Nodes}
use Rattle.jq_state.proofs.shared.Items.{absent}
use Rattle.jq_transitions.specs.declared.backtracking.outcomes.Progress.TheVariants.{Moves}
use Rattle.jq_engine.specs.private.Leading.{HasStopped, LeadsAfter, at_part}
use Rattle.jq_engine.proofs.Waiting.{part_gives}
use Rattle.jq_engine.proofs.parts.run_part.Goals as goal

pub returns-in-Ok : goal.returns-in-Ok
returns-in-Ok c =
    let inputs = inputs_of c.args.inputs.now in
    let s = c.args.state.now in
    let q = c.args.scope in
    let t = named c.args.part.now in
    let x = plain (view c.args.input.value) in
    let y = item_of c.plain.result in
    let u = c.receive.new.state in
    let next = c.in_ok-next-in-Ok.ensures in
    let r = Moves c.in_ok-next-in-Ok.next in
    let m : meaning q.depth t (env_at (envs_in inputs s) q.env) q.level x ≡ one y =
    subst (λ (ns : Nodes). meaning q.depth t (env_at (envs_of inputs ns) q.env) q.level x ≡ one (plain (view c.change.new.value))) c.nodes.ensures (c.in-Ok.ensures.runs inputs q.level)
    ∙ ap one (sym c.plain.ensures) in
    subst (λ (z : Item). LeadsAfter inputs (at_part inputs s t c.args.step q z) u r) (sym (absent c.args.input (c.if-not-tries.ensures refl)))
    (part_gives inputs s t c.args.step q x u r y m (next.0, ap moves (sym (next.1 inputs))))

pub returns : goal.returns
returns c =
    let inputs = inputs_of c.args.inputs.now in
    let s = c.args.state.now in
    let q = c.args.scope in
    let t = named c.args.part.now in
    let v = view c.args.input.value in
    let stop = c.in-Err.stop in
    let h : HasStopped inputs s t q v stop = subst (λ (ns : Nodes). Ends stop (meaning q.depth t (env_at (envs_of inputs ns) q.env) q.level (plain v))) c.nodes.ensures (c.in-Err.ensures.runs inputs q.level) in
    subst (λ (z : Item). IfOk c.stopped.result (LeadsAfter inputs (at_part inputs s t c.args.step q z) c.stopped.new.state)) (sym (absent c.args.input (c.if-not-tries.ensures refl)))
    (c.stopped.ensures v h c.in-Err.ensures.keeps)
