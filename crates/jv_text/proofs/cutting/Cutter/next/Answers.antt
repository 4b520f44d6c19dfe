use Rattle.std.proofs.Common.{◌∙◌, ap, sym, subst, Ok}
use Rattle.jv_cut.specs.Finds.{FindsFirst}
use Rattle.jv_text.specs.Reading.{fault_at}
use Rattle.jv_text.specs.Stream.{Stands}
use Rattle.jv_text.proofs.Streams.{stands_passed, stops_here, ends_in, all_given}
use Rattle.jv_text.proofs.cutting.Cutter.next.Goals as goal

pub returns-in-Some-clause-next : goal.returns-in-Some-clause-next
returns-in-Some-clause-next c = λ given fed h. (h, ends_in c.in-Some.fault c.args.self.now.fault c.args.self.now.splitter given fed c.in-Some.is h)

pub returns-in-Ok-None-clause-next : goal.returns-in-Ok-None-clause-next
returns-in-Ok-None-clause-next c = λ given fed h.
    let old = c.args.self.now.splitter in
    let new = c.find.new.self in
    let s = stands_passed old new given fed c.in-Ok-None.ensures.passed (subst (λ m. Stands m old given fed) c.in_default.is h) in
    let none = subst (λ o. FindsFirst (Ok o) new) c.in-Ok-None.field-0-is c.in-Ok-None.ensures.found in
    (subst (λ m. Stands m new given fed) (sym c.in_default.is) s, all_given new given fed s none)

pub returns-in-Err-clause-next : goal.returns-in-Err-clause-next
returns-in-Err-clause-next c = λ given fed h.
    let old = c.args.self.now.splitter in
    let new = c.find.new.self in
    let s = stands_passed old new given fed c.in-Err.ensures.passed (subst (λ m. Stands m old given fed) c.in_default.is h) in
    let stop = stops_here c.fault_at-fault.result new given fed c.in-Err.cut_fault (c.fault_at-fault.ensures ∙ ap (fault_at c.in-Err.cut_fault) c.place.ensures) c.in-Err.ensures.found s in
    (stop.stands, stop.ends)
