use Rattle.jq_meaning.proofs.environments.Running.{programs_grow, programs_count}
use Rattle.jq_meaning.proofs.bindings.programs.programs_are_lists.Goals as goal

pub returns : goal.returns
returns c = record { grow = programs_grow; count = programs_count }
