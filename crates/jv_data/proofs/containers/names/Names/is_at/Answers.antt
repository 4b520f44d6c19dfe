use Rattle.std.proofs.Common.{◌≡◌, ◌∙◌, ◌<◌, length, get_or, string_bytes, nat_cmp, ap, rules}
use Rattle.std.proofs.lemmas.Cmp.{nat_list_cmp_total, tied_itself}
use Rattle.std.specs.Cmp.Lexicographic.{slice_cmp}
use Rattle.jv_data.proofs.Names.{past_here}
use Rattle.jv_data.proofs.containers.names.Names.is_at.Goals as goal

pub returns-in-Some : goal.returns-in-Some
returns-in-Some c = λ h.
    let name = c.args.name.now in
    let texts = c.args.self.now.texts.items in
    let n = c.in-Some.text.now in
    let within : c.args.index < length texts = search rules in
    let is : n ≡ get_or texts c.args.index n = rw c.deref.ensures.value at c.in-Some.ensures.lookup.1 in
    let same : string_bytes n ≡ name = search (rules, c.are_equal.ensures h) in
    past_here name texts c.args.index n c.args.self.now.rising within is (ap (slice_cmp nat_cmp name) same ∙ tied_itself nat_list_cmp_total name)
