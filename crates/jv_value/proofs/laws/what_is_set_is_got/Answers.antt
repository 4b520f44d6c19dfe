use Rattle.jv_value.proofs.SetLaws.{set_is_got}
use Rattle.jv_value.proofs.laws.what_is_set_is_got.Goals as goal

pub returns : goal.returns
returns c = set_is_got
