use Rattle.jq_single.proofs.Binding.{taken}
use Rattle.jq_single.proofs.folding.take.Goals as goal

pub returns : goal.returns
returns c = taken c.pop.result c.args.states.now.items c.pop.new.self.items c.pop.ensures.items
