use Rattle.jv_data.proofs.Drafts.{present_put}
use Rattle.jv_data.proofs.containers.slots.Slots.put.Goals as goal

pub returns : goal.returns
returns c = λ name u place. present_put name u c.args.self.now.names.value.texts.items c.args.self.now.values.items c.args.index c.args.value c.args.self.now.names.value.rising place.0 place.1
