use Rattle.jv_data.proofs.Drafts.{none_present}
use Rattle.jv_data.proofs.containers.slots.Slots.new.Goals as goal

pub returns-clause-members : goal.returns-clause-members
returns-clause-members c = none_present c.args.names.value.texts.items c.in_ok-values.values.items c.in_ok-values.ensures.none
