use Rattle.std.proofs.Common.{◌∙◌, ap, subst, take}
use Rattle.jv_text.specs.Reading.{reading, FaultIs}
use Rattle.jv_text.specs.Stream.{Stands}
use Rattle.jv_text.proofs.Streams.{fails_first}
use Rattle.jv_text.proofs.cutting.Cutter.read_first.Goals as goal

pub returns-in-Err-clause-next : goal.returns-in-Err-clause-next
returns-in-Err-clause-next c = λ given fed h.
    let rest = c.args.self.now.splitter in
    let f = c.in-Err.fault in
    let none = subst (λ m. Stands m rest given fed) c.requires.fault h in
    let text = ap (reading c.place.result) c.text.ensures ∙ ap (λ p. reading p (take c.args.len rest.unread)) c.place.ensures in
    let stop = fails_first f rest given fed c.args.len c.requires.first (subst (FaultIs f) text c.in-Err.ensures) none in
    rw c.met_by-self.ensures (stop.stands, stop.ends)
