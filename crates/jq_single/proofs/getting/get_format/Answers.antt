use Rattle.std.proofs.Common.{ap}
use Rattle.std.specs.Str.{chars}
use Rattle.jv_data.proofs.shared.Levels.{view-Text}
use Rattle.jq_meaning.specs.Continuations.{text_item}
use Rattle.jq_meaning.specs.Runs.{bind}
use Rattle.jq_single.proofs.Binding.{part_stops}
use Rattle.jq_single.proofs.getting.get_format.Goals as goal

pub returns : goal.returns
unfolding chars
returns c = rw view-Text (ap (λ q. bind q text_item) c.in_ok-text.ensures)

pub returns-in_err-text : goal.returns-in_err-text
unfolding chars
returns-in_err-text c = part_stops _ _ _ _ text_item c.from_residual.ensures.1 c.in_err-text.ensures
