use Rattle.std.proofs.Common.{◌≡◌, ◌∷◌, ◌<◌, refl, sym, ap, subst}
use Rattle.jv_data.specs.View.{view}
use Rattle.jq_ast.specs.Named.{named}
use Rattle.jq_tree.specs.Tree.{pipe}
use Rattle.jq_meaning.specs.Meaning.{meaning}
use Rattle.jq_meaning.specs.Runs.{Item, plain, one}
use Rattle.jq_meaning.specs.machine.State.{pipe_into, state, give, moves}
use Rattle.jq_single.specs.Single.{Ends, Leaves}
use Rattle.jq_state.specs.Environments.{count_of, envs_of}
use Rattle.jq_state.specs.Inputs.{inputs_of}
use Rattle.jq_state.specs.Items.{item_of}
use Rattle.jq_state.specs.Links.{scope_in}
use Rattle.jq_state.specs.Nodes.{env_at}
use Rattle.jq_state.specs.Views.{envs_in, frames_in, forks_in}
use Rattle.jq_state.specs.declared.environments.Nodes.{Nodes}
use Rattle.jq_state.specs.declared.items.Item as items
use Rattle.jq_state.proofs.shared.Items.{absent}
use Rattle.jq_state.proofs.shared.Transitions.{evaluates}
use Rattle.jq_engine.specs.private.Leading.{HasStopped, Leads, at_filter, gives, here, by_transition, by_run}
use Rattle.jq_engine.specs.private.Tails.{Arrives}
use Rattle.jq_engine.proofs.tails.pipe_tail.Goals as goal

pub returns-then-not-tries : goal.returns-then-not-tries
returns-then-not-tries c =
    let inputs = inputs_of c.args.inputs.now in
    let s = c.args.state.now in
    let q = c.args.scope in
    let x = item_of c.args.input.now in
    let pushed = c.in_ok-push.ensures in (
      subst (λ ns. q.env < count_of ns) (sym pushed.envs) c.requires,
      record {
        from = at_filter inputs s (pipe (named c.args.first.now) (named c.args.second.now)) q x;
        advances = here;
        steps = ap moves (evaluates s c.push.new.self (named c.args.first.now) q inputs pushed.envs refl (pushed.frames inputs) (pushed.forks inputs));
      },
    )

pub returns-in-Ok : goal.returns-in-Ok
returns-in-Ok c =
    let inputs = inputs_of c.args.inputs.now in
    let s = c.args.state.now in
    let q = c.args.scope in
    let t = named c.args.first.now in
    let g = named c.args.second.now in
    let old = c.args.input.now in
    let new : items.Item = record { value = c.change.new.value; path = old.path } in
    let x = plain (view old.value) in
    let y = plain (view c.change.new.value) in
    let m : meaning q.depth t (env_at (envs_in inputs s) q.env) q.level x ≡ one y =
    subst (λ (ns : Nodes). meaning q.depth t (env_at (envs_of inputs ns) q.env) q.level x ≡ one y) c.nodes.ensures (c.in-Ok.ensures.runs inputs q.level) in
    let arrives : Arrives (at_filter inputs s (pipe t g) q x) (at_filter inputs s g q y) = record {
      from = state (give y) (pipe_into g (scope_in (envs_in inputs s) q) ∷ frames_in inputs s) (forks_in inputs s);
      advances = by_transition refl (by_run (gives y m) here);
      steps = refl;
    } in (
      c.requires,
      subst (λ (z : Item). Arrives (at_filter inputs s (pipe t g) q z) (at_filter inputs s g q (item_of new))) (sym (absent old (c.if-not-tries.ensures refl)))
          (subst (λ (z : Item). Arrives (at_filter inputs s (pipe t g) q x) (at_filter inputs s g q z)) (sym (absent new (c.if-not-tries.ensures refl))) arrives),
    )

pub returns-in_ok-progress-in-Err : goal.returns-in_ok-progress-in-Err
returns-in_ok-progress-in-Err c =
    let inputs = inputs_of c.args.inputs.now in
    let s = c.args.state.now in
    let q = c.args.scope in
    let t = named c.args.first.now in
    let f = pipe t (named c.args.second.now) in
    let old = c.args.input.now in
    let v = view old.value in
    let stop = c.in-Err.stop in
    let h : HasStopped inputs s t q v stop = subst (λ (ns : Nodes). Ends stop (meaning q.depth t (env_at (envs_of inputs ns) q.env) q.level (plain v))) c.nodes.ensures (c.in-Err.ensures.runs inputs q.level) in
    let left : Leaves stop v (view c.taken-value.result.value) = subst (λ (z : items.Item). Leaves stop v (view z.value)) (sym c.taken-value.ensures) c.in-Err.ensures.keeps in
    subst (λ (z : Item). Leads inputs (at_filter inputs s f q z) c.stopped.new.state c.in_ok-progress-in-Err.progress) (sym (absent old (c.if-not-tries.ensures refl)))
    (c.in_ok-progress-in-Err.ensures v h left (at_filter inputs s f q (plain v)) refl)
