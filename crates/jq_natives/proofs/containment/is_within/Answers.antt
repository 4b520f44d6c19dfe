use Rattle.jq_natives.proofs.Within.{text_within}
use Rattle.jq_natives.proofs.containment.is_within.Goals as goal

pub returns : goal.returns
returns c = text_within c.contains.result c.args.part.now c.args.whole.now c.utf8.part c.utf8.whole c.contains.ensures.cases
