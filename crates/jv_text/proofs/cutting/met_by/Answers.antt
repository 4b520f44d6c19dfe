use Rattle.jv_text.proofs.Streams.{met_some}
use Rattle.jv_text.proofs.cutting.met_by.Goals as goal

pub returns-in_default : goal.returns-in_default
returns-in_default c = met_some c.args.fault c.in_default.not-NoMemory
