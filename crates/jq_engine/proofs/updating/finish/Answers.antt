use Rattle.std.proofs.lemmas.Result.{IfOk-weaker}
use Rattle.jv_data.specs.View.{view}
use Rattle.jq_meaning.specs.Runs.{one, plain}
use Rattle.jq_natives.specs.PathNatives.{delpaths_native_of}
use Rattle.jq_engine.proofs.UpdateTurns.{as_output}
use Rattle.jq_engine.proofs.updating.finish.Goals as goal

pub returns-in-Done : goal.returns-in-Done
returns-in-Done c = rw (c.in-Done.is, as_output (delpaths_native_of (view c.args.value.now) (view c.args.listed))) (IfOk-weaker c.delete.result _ _ (λ o h. h (λ w. one (plain w))) c.delete.ensures)
