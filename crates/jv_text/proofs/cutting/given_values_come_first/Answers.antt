use Rattle.jv_text.proofs.Streams.{given_first}
use Rattle.jv_text.proofs.cutting.given_values_come_first.Goals as goal

pub returns : goal.returns
returns c = λ cutter given fed h. given_first cutter.fault cutter.splitter given fed h
