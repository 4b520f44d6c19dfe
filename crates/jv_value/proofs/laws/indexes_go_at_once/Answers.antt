use Rattle.jv_value.proofs.AtOnce.{indexes_go_at_once}
use Rattle.jv_value.proofs.laws.indexes_go_at_once.Goals as goal

pub returns : goal.returns
returns c = indexes_go_at_once
