use Rattle.std.proofs.Common.{sym, subst}
use Rattle.jv_data.proofs.Names.{AreRising, cloned_names}
use Rattle.jv_data.proofs.containers.names.NamesClone.clone.Goals as goal

pub invariant_of-result : goal.invariant_of-result
invariant_of-result c =
    record { rising = subst AreRising (sym (cloned_names c.args.self.now.texts.items c.in_ok-clone.field-0.items c.in_ok-clone.ensures.cases.0)) c.args.self.now.rising }

pub returns : goal.returns
returns c = record { cases = cloned_names c.args.self.now.texts.items c.in_ok-clone.field-0.items c.in_ok-clone.ensures.cases.0 }
