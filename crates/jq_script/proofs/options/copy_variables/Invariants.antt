use Rattle.std.proofs.Common.{◌≡◌, take}
use Rattle.jq_syntax.specs.Chosen.{variables_of}
use Rattle.jq_script.proofs.options.copy_variables.Given as goal

-- the variables so far
abbrev pub invariant-loop-name : goal.invariant-loop-name
invariant-loop-name l = variables_of l.copies.items ≡ variables_of (take l.name-index l.variables)
