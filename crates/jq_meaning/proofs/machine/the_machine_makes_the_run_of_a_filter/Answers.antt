use Rattle.jq_meaning.specs.Runs.{plain}
use Rattle.jq_meaning.specs.laws.Starts.{outer_scope}
use Rattle.jq_meaning.proofs.shared.machine.Correct.{start-produces}
use Rattle.jq_meaning.proofs.machine.the_machine_makes_the_run_of_a_filter.Goals as goal

pub returns : goal.returns
returns c = record {
  in_a_scope = start-produces;
  of_a_program = λ depth variables inputs t v. start-produces t (outer_scope depth variables inputs) (plain v);
}
