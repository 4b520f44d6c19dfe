use Rattle.jq_meaning.proofs.environments.Running.{programs_begin, bindings_stay, calls_stay, patterns_stay, walks_stay, programs_give}
use Rattle.jq_meaning.proofs.bindings.programs.environments_stand_over_programs.Goals as goal

pub returns : goal.returns
returns c = record {
  begin = programs_begin;
  bindings = bindings_stay;
  calls = calls_stay;
  patterns = patterns_stay;
  walks = walks_stay;
  inputs = programs_give;
}
