use Rattle.std.proofs.Common.{◌≡◌, subst}
use Rattle.jv_data.specs.Value.{Value}
use Rattle.jv_data.specs.View.{view}
use Rattle.jq_ast.specs.Named.{named}
use Rattle.jq_meaning.specs.Meaning.{meaning}
use Rattle.jq_meaning.specs.Runs.{plain, one}
use Rattle.jq_state.specs.Environments.{envs_of}
use Rattle.jq_state.specs.Links.{scope_in}
use Rattle.jq_engine.specs.private.Leading.{gives, here, by_run}
use Rattle.jq_engine.proofs.simple.output_of.Goals as goal

pub returns-in-Ok : goal.returns-in-Ok
returns-in-Ok c inputs k fs =
    let q = scope_in (envs_of inputs c.args.nodes.now) c.args.scope in
    let y = plain (view c.change.new.value) in
    let m : meaning q.depth (named c.args.tree.now) q.env q.level (plain (view c.args.value.now)) ≡ one y =
    subst (λ (v : Value). meaning q.depth (named c.args.tree.now) q.env q.level (plain v) ≡ one y) c.in_ok-output.ensures (c.in-Ok.ensures.runs inputs q.level) in
    by_run (gives y m) here
