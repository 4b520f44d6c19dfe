use Rattle.jq_tree.proofs.shared.Binding.{has_binder, has_binder_only, one_binder, binder_nowhere}
use Rattle.jq_tree.proofs.binders.names_have_one_binder.Goals as goal

pub returns-clause-where_bound : goal.returns-clause-where_bound
returns-clause-where_bound c = has_binder

pub returns-clause-only_where_bound : goal.returns-clause-only_where_bound
returns-clause-only_where_bound c = has_binder_only

pub returns-clause-one : goal.returns-clause-one
returns-clause-one c = one_binder

pub returns-clause-nowhere : goal.returns-clause-nowhere
returns-clause-nowhere c = binder_nowhere
