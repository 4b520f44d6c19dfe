use Rattle.jq_syntax.proofs.Acceptance.{calls_no_inputs, defines_no_inputs}
use Rattle.jq_syntax.proofs.prelude_laws.prelude_leaves_inputs_alone.Goals as goal

pub returns-clause-calls : goal.returns-clause-calls
returns-clause-calls c = calls_no_inputs

pub returns-clause-names : goal.returns-clause-names
returns-clause-names c = defines_no_inputs
