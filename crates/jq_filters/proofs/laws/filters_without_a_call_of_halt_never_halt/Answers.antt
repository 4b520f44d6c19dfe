use Rattle.jq_filters.proofs.NeverHalting.{after_the_prelude, in_its_bindings}
use Rattle.jq_filters.proofs.laws.filters_without_a_call_of_halt_never_halt.Goals as goal

pub returns-clause-after_the_prelude : goal.returns-clause-after_the_prelude
returns-clause-after_the_prelude c = after_the_prelude c.prelude_is_accepted.ensures.one c.only_halt_error_halts.ensures

pub returns-clause-in_its_bindings : goal.returns-clause-in_its_bindings
returns-clause-in_its_bindings c = in_its_bindings c.prelude_is_accepted.ensures.one c.only_halt_error_halts.ensures
