use Rattle.jv_data.proofs.shared.Keyed.{found_put, others_put, put_ordered}
use Rattle.jv_data.proofs.laws.put_changes_one_key.Goals as goal

pub returns : goal.returns
returns c = record { found = found_put; others = others_put; ordered = put_ordered }
