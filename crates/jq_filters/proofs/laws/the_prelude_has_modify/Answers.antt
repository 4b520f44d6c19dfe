use Rattle.jq_filters.proofs.Known.{modify_is_known}
use Rattle.jq_filters.proofs.laws.the_prelude_has_modify.Goals as goal

pub returns : goal.returns
returns c = modify_is_known
