use Rattle.jq_folds.proofs.Starting.{step-produces, step-fit, begin-produces, close-produces}
use Rattle.jq_folds.proofs.laws.the_machine_makes_the_pieces.Goals as goal

pub returns : goal.returns
returns c = record { begin = begin-produces; step = step-produces; close = close-produces; fits = step-fit }
