use Rattle.std.proofs.Common.{arith, string_bytes, insert, is_ok}
use Rattle.jv_data.proofs.Names.{within_place, rising_either, rising_inserted}
use Rattle.jv_data.proofs.containers.names.Names.insert.Goals as goal

pub insert-requires : goal.insert-requires
insert-requires c = omega (arith, within_place (string_bytes c.args.name) c.args.self.now.texts.items c.args.index c.requires, c.args.self.now.texts.ok.0)

pub invariant_of-self : goal.invariant_of-self
invariant_of-self c =
    let old = c.args.self.now.texts.items in
    record { rising = rw c.insert.ensures.items (rising_either (is_ok c.insert.result) (insert old c.args.index c.args.name) old (rising_inserted old c.args.index c.args.name c.requires c.args.self.now.rising) c.args.self.now.rising) }
