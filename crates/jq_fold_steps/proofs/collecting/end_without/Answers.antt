use Rattle.jq_transitions.specs.Outcomes.{ending_of}
use Rattle.jq_fold_steps.proofs.Outputs.{kept-none}
use Rattle.jq_fold_steps.proofs.collecting.end_without.Goals as goal

pub returns : goal.returns
returns c = λ style s done xs leads p h w. kept-none style s done xs (ending_of c.args.ending) c.args.piece c.report.new.piece leads p h w c.in_ok-report.ensures
