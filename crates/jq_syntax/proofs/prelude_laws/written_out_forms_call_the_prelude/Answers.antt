use Rattle.jq_syntax.proofs.Places.{recurse_placed, assign_placed, modify_placed}
use Rattle.jq_syntax.proofs.prelude_laws.written_out_forms_call_the_prelude.Goals as goal

pub returns-clause-recurse : goal.returns-clause-recurse
returns-clause-recurse c = recurse_placed

pub returns-clause-assign : goal.returns-clause-assign
returns-clause-assign c = assign_placed

pub returns-clause-modify : goal.returns-clause-modify
returns-clause-modify c = modify_placed
