use Rattle.jq_tree.proofs.shared.Binding.{has_prelude_binder, one_prelude_binder, prelude_binder_nowhere}
use Rattle.jq_tree.proofs.binders.prelude_names_have_one_binder.Goals as goal

pub returns-clause-where_bound : goal.returns-clause-where_bound
returns-clause-where_bound c = has_prelude_binder

pub returns-clause-one : goal.returns-clause-one
returns-clause-one c = one_prelude_binder

pub returns-clause-nowhere : goal.returns-clause-nowhere
returns-clause-nowhere c = prelude_binder_nowhere
