use Rattle.std.proofs.Common.{◌∙◌}
use Rattle.jv_text.proofs.FormatNames.{format_same}
use Rattle.jv_text.proofs.formats.names.format_of.Goals as goal

pub returns : goal.returns
returns c = c.by_bytes.ensures ∙ format_same c.args.name.now c.utf8.name
