use Rattle.std.proofs.Common.{◌∙◌, ◌<◌, map, length, ap, sym, subst}
use Rattle.std.specs.Str.{chars}
use Rattle.std.proofs.lemmas.Result.{IfOk-weaker}
use Rattle.jq_ast.specs.Named.{name_of, named}
use Rattle.jq_tree.specs.Tree.{trees_of, trees_count}
use Rattle.jq_meaning.specs.Builtins.{builtin_named}
use Rattle.jq_meaning.specs.machine.Evaluating.{enter_callee, enter_builtin}
use Rattle.jq_state.specs.Environments.{count_of}
use Rattle.jq_state.specs.Inputs.{inputs_of}
use Rattle.jq_state.specs.Items.{item_of}
use Rattle.jq_state.specs.Links.{scope_in}
use Rattle.jq_state.specs.Views.{envs_in, frames_in, forks_in}
use Rattle.jq_operations.specs.declared.callees.Callee.TheVariants as callee
use Rattle.jq_ast.proofs.shared.Counts.{count_trees}
use Rattle.jq_operations.proofs.Transitions.{called}
use Rattle.jq_operations.proofs.calls.enter_call.Goals as goal

pub returns-in-Function : goal.returns-in-Function
returns-in-Function c =
    let s = c.args.state.now in
    let p = c.args.scope in
    let n = name_of c.args.name.now in
    let ts = c.args.arguments.now in
    let us = trees_of (map named ts) in
    let x = item_of c.args.input in
    let inputs = inputs_of c.args.inputs.now in
    let q = scope_in (envs_in inputs s) p in
    let k = frames_in inputs s in
    let fs = forks_in inputs s in
    let found = callee.Function c.in-Function.function c.in-Function.own in
    IfOk-weaker c.enter_function.result _ _
    (λ next h. (
      h.0,
      h.1 inputs ∙ ap (λ z. enter_callee z us q x k fs (enter_builtin (builtin_named n (trees_count us)) n us q x k fs))
          (called inputs c.nodes.result.now s.nodes n ts found p.env c.nodes.ensures c.in-Function.ensures.callee),
    ))
    c.enter_function.ensures

pub returns-in-Closure : goal.returns-in-Closure
returns-in-Closure c =
    let s = c.args.state.now in
    let p = c.args.scope in
    let n = name_of c.args.name.now in
    let ts = c.args.arguments.now in
    let us = trees_of (map named ts) in
    let x = item_of c.args.input in
    let inputs = inputs_of c.args.inputs.now in
    let q = scope_in (envs_in inputs s) p in
    let k = frames_in inputs s in
    let fs = forks_in inputs s in
    let found = callee.Closure c.in-Closure.body c.in-Closure.own in (
      c.enter_body.ensures.fits (count_of s.nodes) (subst (λ ns. c.in-Closure.own < count_of ns) c.nodes.ensures c.in-Closure.ensures.fits),
      c.enter_body.ensures.next (envs_in inputs s) k fs
          ∙ ap (λ z. enter_callee z us q x k fs (enter_builtin (builtin_named n (trees_count us)) n us q x k fs))
          (called inputs c.nodes.result.now s.nodes n ts found p.env c.nodes.ensures c.in-Closure.ensures.callee),
    )

pub returns-in-NoCallee : goal.returns-in-NoCallee
returns-in-NoCallee c =
    let s = c.args.state.now in
    let p = c.args.scope in
    let n = name_of c.args.name.now in
    let ts = c.args.arguments.now in
    let us = trees_of (map named ts) in
    let x = item_of c.args.input in
    let inputs = inputs_of c.args.inputs.now in
    let q = scope_in (envs_in inputs s) p in
    let k = frames_in inputs s in
    let fs = forks_in inputs s in
    let means = c.builtin_named-builtin.ensures ∙ ap (λ bs. builtin_named (chars bs) (length ts)) c.as_str.ensures.value ∙ ap (builtin_named n) (sym (count_trees ts)) in
    IfOk-weaker c.enter_builtin.result _ _
    (λ next h. let came = h n c.requires.tree in (
      came.0,
      came.1 ∙ ap (λ b. enter_builtin b n us q x k fs) means
          ∙ ap (λ z. enter_callee z us q x k fs (enter_builtin (builtin_named n (trees_count us)) n us q x k fs))
          (called inputs c.nodes.result.now s.nodes n ts callee.NoCallee p.env c.nodes.ensures c.in-NoCallee.ensures.callee),
    ))
    c.enter_builtin.ensures
