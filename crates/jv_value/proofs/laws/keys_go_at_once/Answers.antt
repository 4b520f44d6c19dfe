use Rattle.jv_value.proofs.AtOnce.{keys_go_at_once}
use Rattle.jv_value.proofs.laws.keys_go_at_once.Goals as goal

pub returns : goal.returns
returns c = keys_go_at_once
