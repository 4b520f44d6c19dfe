use Rattle.jq_tree.proofs.Standing.{uses_are_the_names, closed_has_no_unbound}
use Rattle.jq_tree.proofs.names.no_name_is_forgotten.Goals as goal

pub returns-clause-names : goal.returns-clause-names
returns-clause-names c = uses_are_the_names

pub returns-clause-closed : goal.returns-clause-closed
returns-clause-closed c = closed_has_no_unbound
