use Rattle.std.proofs.Common.{◌∙◌, ◌<◌, arith, sym, ap, length}
use Rattle.std.proofs.lemmas.Bool.{eqb-true, eqb-false}
use Rattle.jv_cut.proofs.Cuts.{none_of_nothing, finds_first}
use Rattle.jv_cut.proofs.splitting.Splitter.find.Goals as goal

pub returns-then-is_empty-clause-found : goal.returns-then-is_empty-clause-found
returns-then-is_empty-clause-found c =
    none_of_nothing c.pass_spaces.new.self (ap length (sym c.unread.ensures) ∙ eqb-true (length c.unread.result.now) 0 (sym c.is_empty.ensures ∙ c.if-is_empty.true))

pub returns-clause-found : goal.returns-clause-found
returns-clause-found c =
    let r = c.pass_spaces.new.self in
    let some = eqb-false (length c.unread.result.now) 0 (sym c.is_empty.ensures ∙ c.if-is_empty.false) in
    let more : 0 < length r.unread = omega (arith, some, ap length c.unread.ensures) in
    rw c.scan_text.ensures.same (finds_first r c.scan_text.result c.pass_spaces.ensures.mark more (c.pass_spaces.ensures.space more) c.scan_text.ensures.found)
