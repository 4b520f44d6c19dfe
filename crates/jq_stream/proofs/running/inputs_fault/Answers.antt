use Rattle.std.proofs.Common.{◌∙◌, ap, sym}
use Rattle.jv_data.specs.Value.{string}
use Rattle.jq_meaning.specs.Runs.{Raised}
use Rattle.jq_stream.specs.private.Gathering.{stop_ending}
use Rattle.jq_stream.proofs.running.inputs_fault.Goals as goal

pub returns-in_ok-from_string-in-Some : goal.returns-in_ok-from_string-in-Some
returns-in_ok-from_string-in-Some c =
    ap Raised c.in_ok-from_string-in-Some.ensures ∙ ap (λ t. Raised (string t)) c.in_ok-fault_text-in-Some.ensures.chars ∙ sym (ap stop_ending c.in-Some.is)
