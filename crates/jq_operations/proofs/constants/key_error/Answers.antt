use Rattle.std.proofs.Common.{◌∙◌, ap}
use Rattle.jv_data.specs.Value.{string}
use Rattle.jq_operations.proofs.Messages.{text-no_key}
use Rattle.jq_operations.proofs.constants.key_error.Goals as goal

pub returns : goal.returns
returns c = c.in_ok-from_text.ensures ∙ ap string text-no_key
