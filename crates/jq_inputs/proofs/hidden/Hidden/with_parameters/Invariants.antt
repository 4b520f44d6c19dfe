use Rattle.std.proofs.Common.{◌≡◌, map, drop}
use Rattle.jv_data.specs.Text.{text_of}
use Rattle.jq_inputs.specs.private.Hidden.{hiding_parameters}
use Rattle.jq_inputs.proofs.hidden.Hidden.with_parameters.Given as goal

-- the remaining parameters will be hidden too
abbrev pub invariant-loop-parameter : goal.invariant-loop-parameter
invariant-loop-parameter l =
    hiding_parameters (map text_of l.parameters) l.initial.hidden ≡ hiding_parameters (map text_of (drop l.parameter-index l.parameters)) l.hidden
