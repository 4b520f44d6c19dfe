use Rattle.std.proofs.Common.{ap}
use Rattle.std.proofs.lemmas.Result.{IfOk-weaker}
use Rattle.jv_data.specs.View.{view}
use Rattle.jq_meaning.specs.Runs.{plain}
use Rattle.jq_meaning.specs.machine.State.{moves}
use Rattle.jq_engine.specs.private.Leading.{by_transition}
use Rattle.jq_engine.proofs.Leading.{if_some}
use Rattle.jq_engine.proofs.simple.simple_output.Goals as goal

pub returns-in-Some : goal.returns-in-Some
returns-in-Some c =
    IfOk-weaker c.output_of.result _ _
    (λ o h. if_some o (λ w g inputs k fs. by_transition (ap moves (c.in-Some.ensures.body inputs (plain (view c.args.value.now)) k fs)) (g inputs k fs)) h) c.output_of.ensures
