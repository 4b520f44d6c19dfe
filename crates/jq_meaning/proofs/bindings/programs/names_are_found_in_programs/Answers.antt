use Rattle.jq_meaning.proofs.environments.Running.{names_in_program, values_in_program, functions_in_program, prelude_in_program}
use Rattle.jq_meaning.proofs.bindings.programs.names_are_found_in_programs.Goals as goal

pub returns : goal.returns
returns c = record { names = names_in_program; values = values_in_program; functions = functions_in_program; prelude = prelude_in_program }
