use Rattle.jq_stream.proofs.Texts.{fault_chars}
use Rattle.jq_stream.proofs.reports.fault_text.Goals as goal

pub returns-clause-chars : goal.returns-clause-chars
returns-clause-chars c = fault_chars c.args.fault _ c.in_ok-format.ensures.ok
