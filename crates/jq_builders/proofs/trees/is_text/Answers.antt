use Rattle.std.proofs.Common.{◌∙◌, ap}
use Rattle.std.specs.Str.{bytes_eq, chars}
use Rattle.jv_data.proofs.shared.Texts.{same_characters}
use Rattle.jq_builders.proofs.trees.is_text.Goals as goal

pub returns : goal.returns
returns c = c.eq.ensures ∙ same_characters c.as_str.result.now c.args.wanted.now c.as_str.utf8 c.utf8.wanted ∙ ap (λ bs. bytes_eq (chars bs) (chars c.args.wanted.now)) c.as_str.ensures.value
