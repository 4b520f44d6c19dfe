use Rattle.jq_meaning.proofs.environments.Running.{filters_run, programs_bind, filters_keep}
use Rattle.jq_meaning.proofs.bindings.programs.filters_run_in_the_program.Goals as goal

pub returns : goal.returns
returns c = record { run = filters_run; names = programs_bind; places = filters_keep }
