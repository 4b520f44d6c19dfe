use Rattle.std.proofs.Common.{subst}
use Rattle.jv_data.specs.Value.{Value}
use Rattle.jv_data.specs.View.{view}
use Rattle.jq_ast.specs.Named.{named}
use Rattle.jq_engine.specs.private.Simple.{GivesOne}
use Rattle.jq_engine.proofs.Leading.{if_some}
use Rattle.jq_engine.proofs.ranges.number_of.Goals as goal

pub returns-in-Some : goal.returns-in-Some
returns-in-Some c =
    if_some c.as_number.result
    (λ n e. subst (λ (w : Value). GivesOne c.args.nodes.now (named c.args.tree.now) c.args.scope (view c.args.value.now) w) e (rw c.in-Some.is at c.in_ok-output.ensures))
    c.as_number.ensures
