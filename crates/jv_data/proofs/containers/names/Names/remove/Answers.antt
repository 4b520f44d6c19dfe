use Rattle.jv_data.proofs.Names.{rising_removed}
use Rattle.jv_data.proofs.containers.names.Names.remove.Goals as goal

pub invariant_of-self : goal.invariant_of-self
invariant_of-self c = record { rising = rw c.remove.ensures.items (rising_removed c.args.self.now.texts.items c.args.index c.args.self.now.rising) }
