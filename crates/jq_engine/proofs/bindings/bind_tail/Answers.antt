use Rattle.std.proofs.Common.{◌∙◌, sym, ap, subst, refl}
use Rattle.jv_data.specs.Text.{text_of}
use Rattle.jv_data.specs.View.{view}
use Rattle.jq_ast.specs.Named.{named, named_as_pattern}
use Rattle.jq_tree.specs.Tree.{Pattern, bind_as}
use Rattle.jq_meaning.specs.Env.{bound, value_of}
use Rattle.jq_meaning.specs.machine.State.{with_env, state, evaluate}
use Rattle.jq_state.specs.Inputs.{inputs_of}
use Rattle.jq_state.specs.Items.{item_of}
use Rattle.jq_state.specs.Links.{scope_in}
use Rattle.jq_state.specs.Nodes.{env_at}
use Rattle.jq_state.specs.Views.{envs_in, frames_in, forks_in}
use Rattle.jq_state.specs.declared.environments.Nodes.{Nodes}
use Rattle.jq_state.specs.declared.items.Item as items
use Rattle.jq_engine.specs.private.Leading.{Leads, at_filter}
use Rattle.jq_engine.specs.private.Simple.{BindsOne}
use Rattle.jq_engine.specs.private.Tails.{Arrives}
use Rattle.jq_engine.proofs.BoundAtOnce.{binds}
use Rattle.jq_engine.proofs.Waiting.{value_alone}
use Rattle.jq_engine.proofs.bindings.bind_tail.Goals as goal

pub returns-in-Some : goal.returns-in-Some
returns-in-Some c =
    let inputs = inputs_of c.args.inputs.now in
    let s = c.args.state.now in
    let q = c.args.scope in
    let p = scope_in (envs_in inputs s) q in
    let k = frames_in inputs s in
    let fs = forks_in inputs s in
    let t = named c.args.source.now in
    let f = named c.args.body.now in
    let n = text_of c.in-Some.name.now in
    let v = view c.args.input.now.value in
    let w = view c.in-Some.value in
    let x = item_of c.args.input.now in
    let added = c.in_ok-env.ensures in
    let u = c.add.new.self in
    let one : BindsOne s.nodes t (named_as_pattern c.args.pattern.now) q v n w = subst (λ (ns : Nodes). BindsOne ns t (named_as_pattern c.args.pattern.now) q v n w) c.nodes.ensures (rw c.in-Some.is at c.in_ok-name.ensures) in
    let arrived : Arrives (at_filter inputs s (bind_as t (named_as_pattern c.args.pattern.now) f) q x) (state (evaluate f (with_env (bound (value_of n w) p.env) p) x) k fs) =
    subst (λ (o : Pattern). Arrives (at_filter inputs s (bind_as t o f) q x) (state (evaluate f (with_env (bound (value_of n w) p.env) p) x) k fs)) (sym one.0)
    (binds p t f n x v w k fs (value_alone c.args.input.now v refl) (λ l. one.1 inputs l fs)) in
    let same =
    ap (λ e. state (evaluate f (with_env e p) x) k fs) (sym (added.env inputs))
    ∙ ap (λ l. state (evaluate f (with_env (env_at (envs_in inputs u) c.in_ok-env.env) p) x) l fs) (sym (added.frames inputs))
    ∙ ap (λ gs. state (evaluate f (with_env (env_at (envs_in inputs u) c.in_ok-env.env) p) x) (frames_in inputs u) gs) (sym (added.forks inputs)) in
    (added.within, subst (Arrives (at_filter inputs s (bind_as t (named_as_pattern c.args.pattern.now) f) q x)) same arrived)

pub returns : goal.returns
returns c =
    let inputs = inputs_of c.args.inputs.now in
    let s = c.args.state.now in
    let t = bind_as (named c.args.source.now) (named_as_pattern c.args.pattern.now) (named c.args.body.now) in
    subst (λ (z : items.Item). Leads inputs (at_filter inputs s t c.args.scope (item_of z)) c.begin_binding.new.state c.in_ok-progress.progress) c.taken-input.ensures c.in_ok-progress.ensures
