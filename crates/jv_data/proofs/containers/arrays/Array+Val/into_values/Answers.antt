use Rattle.jv_data.proofs.Shares.{same_items}
use Rattle.jv_data.specs.Shared.{items_in}
use Rattle.jv_data.proofs.containers.arrays.Array+Val.into_values.Goals as goal

pub returns : goal.returns
returns c = same_items (items_in c.args.self) c.in_ok-into_vec.field-0.items c.in_ok-into_vec.ensures
