use Rattle.std.proofs.Common.{◌∙◌, length, map, ap}
use Rattle.jq_ast.specs.Named.{name_of, named}
use Rattle.jq_tree.specs.Tree.{prelude_call, trees_of}
use Rattle.jq_meaning.specs.Env.{callee_or, find_in_prelude}
use Rattle.jq_state.specs.Environments.{envs_of}
use Rattle.jq_state.specs.Nodes.{env_at}
use Rattle.jq_single.specs.private.Scopes.{scope_env}
use Rattle.jq_single.proofs.Calls.{prelude_outside, prelude_runs}
use Rattle.jq_single.proofs.contexts.Context.called_in_prelude.Goals as goal

pub returns-in-Function : goal.returns-in-Function
returns-in-Function c =
    let p = c.args.self.now in
    let n = name_of c.args.name.now in
    let ts = c.args.arguments.now in
    c.body_of.ensures p (prelude_call n (trees_of (map named ts))) (λ inputs level x. prelude_runs p inputs level n ts c.in-Function.function.now _ x
    (ap (λ z. callee_or z (find_in_prelude n (length ts) (scope_env inputs p.scope.now))) (c.in-Function.ensures.callee inputs ∙ ap (λ o. find_in_prelude n (length ts) (env_at (envs_of inputs o.nodes.now) o.env)) c.outside_of-outside.ensures)
    ∙ prelude_outside inputs n (length ts) p.scope.now))
