use Rattle.jq_meaning.proofs.NoBreaks.{run_of-no_break}
use Rattle.jq_meaning.proofs.laws.no_filter_ends_in_a_break.Goals as goal

pub returns : goal.returns
returns c = run_of-no_break
