use Rattle.std.proofs.Common.{◌≡◌, ◌∙◌, ap, sym, rules, length}
use Rattle.std.proofs.lemmas.List.{nil_from_length}
use Rattle.jq_natives.specs.private.Searches.{found_by, leads_to}
use Rattle.jq_natives.proofs.Searched.{after_all, after_all-last}
use Rattle.jq_natives.proofs.containment.is_contained.Goals as goal

pub returns-in-None : goal.returns-in-None
returns-in-None c =
    let none : length c.loop.open.items ≡ 0 = search rules in
    sym (ap leads_to c.in-Answer.is) ∙ sym (ap (λ ss. after_all ss (leads_to c.loop.step)) (nil_from_length c.loop.open.items none)) ∙ c.loop.invariant

pub loop-preserved-in-Some : goal.loop-preserved-in-Some
loop-preserved-in-Some c =
    let rest = c.pop.new.self.items in
    let b = c.in-Answer.answer in
    ap (after_all rest) c.resumed-step.ensures ∙ sym (after_all-last rest c.in-Some.search b) ∙ sym (ap (λ ss. after_all ss b) c.in-Some.ensures.items)
    ∙ sym (ap (λ s. after_all c.loop.open.items (leads_to s)) c.in-Answer.is) ∙ c.loop.invariant

pub loop-preserved-in-Next : goal.loop-preserved-in-Next
loop-preserved-in-Next c =
    let open_ones = c.loop.open.items in
    ap (after_all open_ones) c.next_step-step.ensures ∙ sym (ap (λ s. after_all open_ones (leads_to s)) c.in-Next.is) ∙ c.loop.invariant

pub loop-preserved : goal.loop-preserved
loop-preserved c =
    let open_ones = c.loop.open.items in
    ap (λ ss. after_all ss (found_by c.in-Deeper.inner)) c.in_ok-push-in-Deeper.ensures.items ∙ after_all-last open_ones c.in-Deeper.outer (found_by c.in-Deeper.inner)
    ∙ sym (ap (λ s. after_all open_ones (leads_to s)) c.in-Deeper.is) ∙ c.loop.invariant
