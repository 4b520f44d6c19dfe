-- Laws of deletions.
use Rattle.std.proofs.Common.{ap, Ok}
use Rattle.jv_value.specs.DeletePaths.{all_locations, removed}
use Rattle.jv_value.specs.laws.PlainPaths.{DeletingNothing, DeletionHasNoOrder}
use Rattle.jv_value.specs.Results.{map_ok}
use Rattle.jv_value.proofs.Following.{without_nothing}
use Rattle.jv_value.proofs.Orders.{same_in_order}

pub deleting_nothing : DeletingNothing
deleting_nothing v = ap Ok (without_nothing v)

pub deletion_has_no_order : DeletionHasNoOrder
deletion_has_no_order v ps qs moved = ap (λ rs. map_ok (λ locations. removed locations v) (all_locations v rs)) (same_in_order ps qs moved)
