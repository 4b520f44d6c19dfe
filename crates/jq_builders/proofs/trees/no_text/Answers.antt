use Rattle.std.proofs.Common.{◌∙◌, ap}
use Rattle.std.specs.Str.{chars}
use Rattle.jq_builders.proofs.Levels.{no_characters}
use Rattle.jq_builders.proofs.trees.no_text.Goals as goal

pub returns : goal.returns
returns c = ap chars c.new.ensures.bytes ∙ no_characters
