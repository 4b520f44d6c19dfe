use Rattle.jv_value.proofs.SetLaws.{set_leaves_others}
use Rattle.jv_value.proofs.laws.a_set_leaves_other_paths.Goals as goal

pub returns : goal.returns
returns c = set_leaves_others
