use Rattle.std.proofs.Common.{◌∙◌, ap}
use Rattle.jv_data.specs.Value.{string}
use Rattle.jq_meaning.specs.Runs.{Item, fail}
use Rattle.jq_operations.proofs.Messages.{text-no_exit_code}
use Rattle.jq_operations.proofs.halts.not_an_exit_code.Goals as goal

pub returns : goal.returns
returns c = ap (fail {A = Item}) (c.in_ok-from_text.ensures ∙ ap string text-no_exit_code)
