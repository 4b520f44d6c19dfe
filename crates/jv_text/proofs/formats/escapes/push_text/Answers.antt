use Rattle.std.proofs.Common.{rules}
use Rattle.jv_text.proofs.TextSteps.{text_written}
use Rattle.jv_text.proofs.formats.escapes.push_text.Goals as goal

pub returns : goal.returns
returns c = text_written c.args.out.now c.push_str.new.self c.args.text.now (search rules)
