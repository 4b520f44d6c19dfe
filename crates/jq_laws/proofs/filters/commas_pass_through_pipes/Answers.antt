use Rattle.jq_meaning.proofs.shared.machine.RunLaws.{bind-then_run}
use Rattle.jq_meaning.specs.Meaning.{meaning}
use Rattle.jq_laws.proofs.filters.commas_pass_through_pipes.Goals as goal

pub returns : goal.returns
returns c = λ f g h. record { run = λ d e k x. bind-then_run (meaning d f e k x) (meaning d g e k x) (meaning d h e k) }
