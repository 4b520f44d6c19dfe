use Rattle.std.proofs.Common.{◌∙◌, sym, ap, subst}
use Rattle.jv_data.specs.View.{view}
use Rattle.jq_ast.specs.Leaves.{literal_of, operator_of}
use Rattle.jq_meaning.specs.Meaning.{meaning}
use Rattle.jq_meaning.specs.Runs.{Item, Run, plain}
use Rattle.jq_single.specs.Single.{Changed}
use Rattle.jq_state.specs.Environments.{envs_of}
use Rattle.jq_state.specs.Nodes.{env_at}
use Rattle.jq_engine.proofs.OnConstants.{on_constant}
use Rattle.jq_engine.proofs.at_once.change.Goals as goal

pub returns-in-Some-clause-runs : goal.returns-in-Some-clause-runs
returns-in-Some-clause-runs c inputs level =
    let v = view c.args.value.now in
    let e = env_at (envs_of inputs c.args.nodes.now) c.args.scope.env in
    let same =
    ap (λ t. meaning c.args.scope.depth t e level (plain v)) c.in-Some.ensures
    ∙ on_constant c.args.scope.depth (operator_of c.in-Some.operator) (literal_of c.in-Some.constant.now) e level v in
    subst (λ (r : Run Item). Changed c.operate.result (view c.operate.new.value) r) (sym same) c.operate.ensures.runs
