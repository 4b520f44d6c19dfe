use Rattle.std.proofs.Common.{length}
use Rattle.jq_single.proofs.finding.+argument_of.Given as goal

abbrev pub decreases-argument_of : goal.decreases-argument_of
decreases-argument_of l = length l.parameters.now
