use Rattle.std.proofs.Common.{◌∙◌, map, sym, ap}
use Rattle.jv_data.specs.Text.{text_of}
use Rattle.jq_ast.specs.Named.{name_of, named}
use Rattle.jq_tree.specs.Tree.{no_trees}
use Rattle.jq_meaning.specs.Builtins.{builtin_named}
use Rattle.jq_meaning.specs.machine.Evaluating.{enter_callee, enter_body, enter_builtin}
use Rattle.jq_state.specs.Environments.{envs_of}
use Rattle.jq_state.specs.Links.{scope_in}
use Rattle.jq_state.specs.Nodes.{env_at}
use Rattle.jq_engine.proofs.Following.{with_none}
use Rattle.jq_engine.proofs.bodies.body_of.Goals as goal

pub returns-in_ok-inside-in-Function-clause-body : goal.returns-in_ok-inside-in-Function-clause-body
returns-in_ok-inside-in-Function-clause-body c inputs x k fs =
    let envs = envs_of inputs c.args.nodes.now in
    let p = scope_in envs c.args.scope in
    let n = name_of c.args.name.now in
    let own = env_at envs c.in-Function.own in
    let f = c.in-Function.function.now in
    ap (λ z. enter_callee z no_trees p x k fs (enter_builtin (builtin_named n 0) n no_trees p x k fs)) (sym (c.in-Function.ensures.callee inputs))
    ∙ ap (λ e. enter_body p.depth (named f.body) e p.level x k fs) (with_none (map text_of f.parameters.items) p.env own)
    ∙ c.in_ok-inside-in-Function.ensures.enters envs (named f.body) x k fs

pub returns-in_ok-inside-in-Closure-clause-body : goal.returns-in_ok-inside-in-Closure-clause-body
returns-in_ok-inside-in-Closure-clause-body c inputs x k fs =
    let envs = envs_of inputs c.args.nodes.now in
    let p = scope_in envs c.args.scope in
    let n = name_of c.args.name.now in
    ap (λ z. enter_callee z no_trees p x k fs (enter_builtin (builtin_named n 0) n no_trees p x k fs)) (sym (c.in-Closure.ensures.callee inputs))
    ∙ c.in_ok-inside-in-Closure.ensures.enters envs (named c.in-Closure.body.now) x k fs
