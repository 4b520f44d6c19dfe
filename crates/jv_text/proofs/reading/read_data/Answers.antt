use Rattle.jv_text.proofs.PlainTexts.{plain_of, plain_none}
use Rattle.jv_text.proofs.reading.read_data.Goals as goal

pub returns-in-Ok : goal.returns-in-Ok
returns-in-Ok c = rw (plain_of c.args.text.now _ c.in-Ok.ensures.ok.0 c.in-Ok.ensures.ok.1) c.value_of.ensures

pub returns-in_default : goal.returns-in_default
returns-in_default c = plain_none c.args.text.now (c.in-Err.ensures.err (λ m. c.in_default.not-Memory (c.classify.ensures.memory.1 m)))
