use Rattle.jv_data.proofs.Names.{keys_rise}
use Rattle.jv_data.proofs.containers.members.Members.iter.Goals as goal

pub returns-in-Few-clause-ordered : goal.returns-in-Few-clause-ordered
returns-in-Few-clause-ordered g c = rw c.in-Few.is (keys_rise c.in-Few.names.value.texts.items c.in-Few.values.items (rw c.deref.ensures at c.as_slice.ensures.rising))
