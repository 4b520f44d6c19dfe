use Rattle.jq_natives.proofs.Ends.{stripped_front}
use Rattle.jq_natives.proofs.texts.after.Goals as goal

pub returns : goal.returns
returns c = stripped_front c.strip_prefix.result c.args.part.now c.args.text.now c.utf8.part c.utf8.text c.strip_prefix.ensures.cases
