use Rattle.std.proofs.Common.{◌≡◌, Ok, Err, ap, rules}
use Rattle.jv_data.specs.View.{view}
use Rattle.jq_ast.specs.Leaves as leaves
use Rattle.jq_meaning.specs.Continuations.{value_of_literal}
use Rattle.jq_meaning.specs.Runs.{answered, plain}
use Rattle.jq_meaning.specs.Steps.{operator_of}
use Rattle.jq_engine.proofs.operators.operate.Goals as goal

pub returns-in-Ok-clause-runs : goal.returns-in-Ok-clause-runs
returns-in-Ok-clause-runs c =
    let e : operator_of (leaves.operator_of c.args.operator) (view c.args.value.now) (value_of_literal (leaves.literal_of c.args.constant.now)) ≡ Ok (view c.in-Ok.found) = search rules in
    ap (answered plain) e

pub returns-in-Err-Raised-clause-runs : goal.returns-in-Err-Raised-clause-runs
returns-in-Err-Raised-clause-runs c =
    let e : operator_of (leaves.operator_of c.args.operator) (view c.args.value.now) (value_of_literal (leaves.literal_of c.args.constant.now)) ≡ Err (view c.in-Err-Raised.error) = search rules in
    ap (answered plain) e
