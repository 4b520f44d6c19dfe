use Rattle.jq_meaning.proofs.shared.machine.Kept.{keeps-reaches, reaches-produces, fits-reaches}
use Rattle.jq_meaning.proofs.machine.several_transitions_keep_the_run.Goals as goal

pub returns : goal.returns
returns c = record { run = keeps-reaches; back = reaches-produces; heights = fits-reaches }
