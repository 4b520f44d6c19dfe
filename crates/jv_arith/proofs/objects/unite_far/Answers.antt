use Rattle.std.proofs.Common.{◌≡◌, ◌∙◌, ap, sym}
use Rattle.jv_data.specs.Held.{members_in}
use Rattle.jv_arith.specs.Objects.{deep_union}
use Rattle.jv_arith.specs.private.Uniting.{leads_to, unite_all}
use Rattle.jv_arith.proofs.Uniting.{after_all, after_all-last}
use Rattle.jv_arith.proofs.Unions.{unite_all-deep_union}
use Rattle.jv_arith.proofs.objects.unite_far.Goals as goal

pub loop-init : goal.loop-init
loop-init c =
    let left = members_in c.args.left in
    let right = members_in c.args.right.now in
    ap (λ os. after_all os (leads_to c.in_ok-step.step)) c.new-open.ensures.items
    ∙ c.in_ok-step.ensures ∙ ap (unite_all left) c.iter.ensures.members ∙ unite_all-deep_union left right c.iter.ensures.ordered

pub loop-preserved-in-Some : goal.loop-preserved-in-Some
loop-preserved-in-Some c =
    let rest = c.pop.new.self.items in
    let inner = members_in c.in-Done.members in
    ap (after_all rest) c.in_ok-step-in-Some.ensures ∙ sym (after_all-last rest c.in-Some.outer inner) ∙ sym (ap (λ os. after_all os inner) c.in-Some.ensures.items)
    ∙ sym (ap (λ s. after_all c.loop.open.items (leads_to s)) c.in-Done.is) ∙ c.loop.invariant

pub loop-preserved : goal.loop-preserved
loop-preserved c =
    let opened = c.loop.open.items in
    let left = members_in c.in-Deeper.left in
    let right = members_in c.in-Deeper.right.now in
    let inner = deep_union left right in
    let made : leads_to c.in_ok-step-in-Deeper.step ≡ inner =
    c.in_ok-step-in-Deeper.ensures ∙ ap (unite_all left) c.iter-in-Deeper.ensures.members ∙ unite_all-deep_union left right c.iter-in-Deeper.ensures.ordered in
    ap (after_all c.push.new.self.items) made ∙ ap (λ os. after_all os inner) c.in_ok-push-in-Deeper.ensures.items ∙ after_all-last opened c.in-Deeper.outer inner
    ∙ sym (ap (λ s. after_all opened (leads_to s)) c.in-Deeper.is) ∙ c.loop.invariant
