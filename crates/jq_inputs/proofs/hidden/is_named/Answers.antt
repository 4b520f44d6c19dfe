use Rattle.std.proofs.Common.{◌∙◌}
use Rattle.jv_data.proofs.shared.Ascii.{ascii_same_as}
use Rattle.jq_inputs.proofs.hidden.is_named.Goals as goal

pub returns : goal.returns
returns c = c.eq.ensures ∙ ascii_same_as c.args.known.now c.args.name.now c.requires c.utf8.name
