use Rattle.std.proofs.Common.{◌∙◌, ap}
use Rattle.jv_data.specs.Value.{string}
use Rattle.jq_meaning.specs.Runs.{Item, fail}
use Rattle.jq_operations.proofs.Messages.{text-not_numeric}
use Rattle.jq_operations.proofs.ranges.not_numeric.Goals as goal

pub returns : goal.returns
returns c = ap (fail {A = Item}) (c.in_ok-from_text.ensures ∙ ap string text-not_numeric)
