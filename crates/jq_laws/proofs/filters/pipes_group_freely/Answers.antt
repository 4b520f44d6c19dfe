use Rattle.jq_meaning.proofs.shared.machine.RunLaws.{bind-bind}
use Rattle.jq_meaning.specs.Meaning.{meaning}
use Rattle.jq_laws.proofs.filters.pipes_group_freely.Goals as goal

pub returns : goal.returns
returns c = λ f g h. record { run = λ d e k x. bind-bind (meaning d f e k x) (meaning d g e k) (meaning d h e k) }
