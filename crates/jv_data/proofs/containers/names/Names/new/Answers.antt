use Rattle.jv_data.proofs.Names.{rising_none}
use Rattle.jv_data.proofs.containers.names.Names.new.Goals as goal

pub invariant_of-result : goal.invariant_of-result
invariant_of-result c = record { rising = rw c.new.ensures.items rising_none }
