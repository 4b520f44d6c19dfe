use Rattle.jv_value.proofs.DeleteLaws.{deletion_has_no_order}
use Rattle.jv_value.proofs.laws.a_deletion_has_no_order.Goals as goal

pub returns : goal.returns
returns c = deletion_has_no_order
