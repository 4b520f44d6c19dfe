use Rattle.std.proofs.Common.{◌∙◌, ◌<◌, map, ap, subst}
use Rattle.std.proofs.lemmas.Result.{IfOk-weaker}
use Rattle.jq_ast.specs.Named.{name_of, named}
use Rattle.jq_tree.specs.Tree.{trees_of}
use Rattle.jq_meaning.specs.machine.Evaluating.{enter_callee}
use Rattle.jq_meaning.specs.machine.State.{state, go_back}
use Rattle.jq_state.specs.Environments.{count_of}
use Rattle.jq_state.specs.Items.{item_of}
use Rattle.jq_state.specs.Links.{scope_in}
use Rattle.jq_state.specs.Views.{envs_in, frames_in, forks_in}
use Rattle.jq_operations.specs.declared.callees.Callee.TheVariants as callee
use Rattle.jq_operations.proofs.Transitions.{called_in_prelude}
use Rattle.jq_operations.proofs.calls.enter_prelude_call.Goals as goal

pub returns-in-Function : goal.returns-in-Function
returns-in-Function c =
    let s = c.args.state.now in
    let p = c.args.scope in
    let ts = c.args.arguments.now in
    let found = callee.Function c.in-Function.function c.in-Function.own in
    IfOk-weaker c.enter_function.result _ _
    (λ n h. (
      h.0,
      λ inputs. h.1 inputs
          ∙ ap (λ z. enter_callee z (trees_of (map named ts)) (scope_in (envs_in inputs s) p) (item_of c.args.input) (frames_in inputs s) (forks_in inputs s) (state go_back (frames_in inputs s) (forks_in inputs s)))
          (called_in_prelude inputs c.nodes.result.now s.nodes (name_of c.args.name.now) ts found p.env c.nodes.ensures c.in-Function.ensures.callee),
    ))
    c.enter_function.ensures

pub returns-in-Closure : goal.returns-in-Closure
returns-in-Closure c =
    let s = c.args.state.now in
    let p = c.args.scope in
    let ts = c.args.arguments.now in
    let found = callee.Closure c.in-Closure.body c.in-Closure.own in (
      c.enter_body.ensures.fits (count_of s.nodes) (subst (λ ns. c.in-Closure.own < count_of ns) c.nodes.ensures c.in-Closure.ensures.fits),
      λ inputs. c.enter_body.ensures.next (envs_in inputs s) (frames_in inputs s) (forks_in inputs s)
          ∙ ap (λ z. enter_callee z (trees_of (map named ts)) (scope_in (envs_in inputs s) p) (item_of c.args.input) (frames_in inputs s) (forks_in inputs s) (state go_back (frames_in inputs s) (forks_in inputs s)))
          (called_in_prelude inputs c.nodes.result.now s.nodes (name_of c.args.name.now) ts found p.env c.nodes.ensures c.in-Closure.ensures.callee),
    )

pub returns-in-NoCallee : goal.returns-in-NoCallee
returns-in-NoCallee c =
    let s = c.args.state.now in
    let p = c.args.scope in
    let ts = c.args.arguments.now in (
      tt,
      λ inputs. ap (λ z. enter_callee z (trees_of (map named ts)) (scope_in (envs_in inputs s) p) (item_of c.args.input) (frames_in inputs s) (forks_in inputs s) (state go_back (frames_in inputs s) (forks_in inputs s)))
          (called_in_prelude inputs c.nodes.result.now s.nodes (name_of c.args.name.now) ts callee.NoCallee p.env c.nodes.ensures c.in-NoCallee.ensures.callee),
    )
