use Rattle.std.proofs.Common.{sym, ap, ◌∙◌}
use Rattle.jq_script.specs.Requests.{request}
use Rattle.jq_script.proofs.Asking.{asked, asked_alone}
use Rattle.jq_script.proofs.requests.instruction_of.Goals as goal

pub returns-in-Some : goal.returns-in-Some
returns-in-Some c = let h = c.in-Some.ensures in c.instruction_with.ensures ∙ sym (asked c.args.line.now c.in-Some.word.now c.in-Some.rest.now c.requires h.0 h.1)

pub returns-in-None : goal.returns-in-None
returns-in-None c = ap request c.word_alone.ensures ∙ sym (asked_alone c.args.line.now c.requires c.in-None.ensures)
