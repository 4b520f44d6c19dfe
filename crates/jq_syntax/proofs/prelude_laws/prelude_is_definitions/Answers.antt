use Rattle.jq_syntax.proofs.Acceptance.{only_definitions, all_names_bound}
use Rattle.jq_syntax.proofs.prelude_laws.prelude_is_definitions.Goals as goal

pub returns-clause-alone : goal.returns-clause-alone
returns-clause-alone c = only_definitions

pub returns-clause-bound : goal.returns-clause-bound
returns-clause-bound c = all_names_bound
