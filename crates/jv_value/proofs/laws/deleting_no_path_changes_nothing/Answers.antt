use Rattle.jv_value.proofs.DeleteLaws.{deleting_nothing}
use Rattle.jv_value.proofs.laws.deleting_no_path_changes_nothing.Goals as goal

pub returns : goal.returns
returns c = deleting_nothing
