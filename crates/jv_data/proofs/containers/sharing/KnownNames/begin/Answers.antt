use Rattle.std.proofs.Common.{◌∙◌, length, map, string_bytes, sym, ap, subst, arith}
use Rattle.jv_data.proofs.Names.{below_length}
use Rattle.jv_data.specs.Names.{IsAt}
use Rattle.jv_data.proofs.containers.sharing.KnownNames.begin.Goals as goal

pub returns-in_ok-slots-in-Some : goal.returns-in_ok-slots-in-Some
returns-in_ok-slots-in-Some c =
    let name = c.args.name.now in
    let index = c.in-Some.index in
    let made = c.in_ok-slots-in-Some in
    let same = made.ensures.names ∙ c.in_ok-clone-in-Some.ensures.cases in
    let is_at : IsAt name (map string_bytes made.slots.names.value.texts.items) index = subst (λ n. IsAt name (map string_bytes n.texts.items) index) (sym same) c.in-Some.ensures in
    (made.ensures.members, (is_at, omega (arith, below_length name made.slots.names.value.texts.items index is_at, made.ensures.len, ap (λ n. length n.texts.items) made.ensures.names)))
