use Rattle.jq_meaning.proofs.shared.machine.Kept.{start-fits, fits-moves, fits-outputs}
use Rattle.jq_meaning.proofs.machine.heights_stay_in_range.Goals as goal

pub returns : goal.returns
returns c = record { start = start-fits; moves = fits-moves; outputs = fits-outputs }
