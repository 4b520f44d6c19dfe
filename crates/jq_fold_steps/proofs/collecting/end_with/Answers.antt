use Rattle.jq_transitions.specs.Outcomes.{ending_of}
use Rattle.jq_fold_steps.proofs.Outputs.{kept-stopped, not-done}
use Rattle.jq_fold_steps.proofs.collecting.end_with.Goals as goal

pub returns : goal.returns
returns c = λ s done xs leads p h w.
    kept-stopped c.args.style s done xs (ending_of c.args.ending) c.args.value c.args.piece c.add_output.new.piece c.report.new.piece (not-done c.args.ending c.in_default.not-Done) leads p h w
    c.in_ok-add_output.ensures c.in_ok-report.ensures
