use Rattle.jq_natives.proofs.Ends.{stripped_back}
use Rattle.jq_natives.proofs.texts.before.Goals as goal

pub returns : goal.returns
returns c = stripped_back c.strip_suffix.result c.args.part.now c.args.text.now c.utf8.part c.utf8.text c.strip_suffix.ensures.cases
