use Rattle.jv_data.proofs.shared.Keyed.{gone_without, others_without, without_ordered}
use Rattle.jv_data.proofs.laws.without_removes_one_key.Goals as goal

pub returns : goal.returns
returns c = record { gone = gone_without; others = others_without; ordered = without_ordered }
