use Rattle.std.proofs.Common.{◌≡◌, ◌<◌, ap, subst}
use Rattle.std.proofs.lemmas.Result.{IfOk-weaker}
use Rattle.jq_ast.specs.Named.{named}
use Rattle.jq_meaning.specs.machine.Evaluating.{enter}
use Rattle.jq_meaning.specs.machine.State.{state, evaluate, moves}
use Rattle.jq_meaning.specs.machine.State as machine
use Rattle.jq_state.specs.Environments.{count_of, envs_of}
use Rattle.jq_state.specs.Inputs.{inputs_of}
use Rattle.jq_state.specs.Items.{item_of}
use Rattle.jq_state.specs.Links.{scope_in}
use Rattle.jq_state.specs.Views.{frames_in, forks_in}
use Rattle.jq_state.specs.declared.environments.Nodes.{Nodes}
use Rattle.jq_state.specs.declared.items.Item as items
use Rattle.jq_engine.specs.private.Leading.{Advances, at_filter, here}
use Rattle.jq_engine.proofs.Following.{follows_later}
use Rattle.jq_engine.proofs.tails.other_tail.Goals as goal

pub returns-in-Some : goal.returns-in-Some
returns-in-Some c =
    let inputs = inputs_of c.args.inputs.now in
    let s = c.args.state.now in
    let x = item_of c.args.input.now in
    let k = frames_in inputs s in
    let fs = forks_in inputs s in
    let t = named c.args.tree.now in
    let body = named c.in-Some.body.now in
    let from = λ (ns : Nodes). scope_in (envs_of inputs ns) c.args.scope in
    let to = λ (ns : Nodes). scope_in (envs_of inputs ns) c.in-Some.inside in (
      subst (λ (ns : Nodes). c.in-Some.inside.env < count_of ns) c.nodes.ensures c.in-Some.ensures.within,
      record {
        from = at_filter inputs s t c.args.scope x;
        advances = here;
        steps = ap moves (subst (λ (ns : Nodes). enter t (from ns) x k fs ≡ state (evaluate body (to ns) x) k fs) c.nodes.ensures (c.in-Some.ensures.body inputs x k fs));
      },
    )

pub returns : goal.returns
returns c =
    let inputs = inputs_of c.args.inputs.now in
    let at : items.Item → machine.State = λ z. at_filter inputs c.args.state.now (named c.args.tree.now) c.args.scope (item_of z) in
    let next = c.in_ok-next.ensures.1 in
    let came : Advances (at c.args.input.now) next.from = subst (λ z. Advances (at z) next.from) c.taken.ensures next.advances in
    IfOk-weaker c.later_tail.result _ _ (λ r g. follows_later inputs (at c.args.input.now) next.from c.later_tail.new.state c.later_tail.new.input r came (g next.from next.steps)) c.later_tail.ensures
