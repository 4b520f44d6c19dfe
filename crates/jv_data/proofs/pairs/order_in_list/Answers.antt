use Rattle.std.proofs.Common.{◌∙◌, Equal, ap, sym}
use Rattle.std.specs.Ordering.{ordering_then}
use Rattle.jv_data.specs.private.Pairs.{parts_order}
use Rattle.jv_data.proofs.Pending.{open_order, open_order-last, then_again}
use Rattle.jv_data.proofs.pairs.order_in_list.Goals.{in-Err-Equal+in-Some, in-Ok+in-Err-Equal-pair_of, in-Ok+in-Ok-pair_of+in-Ok-push}
use Rattle.jv_data.proofs.pairs.order_in_list.Goals as goal

pub loop-preserved : goal.loop-preserved
loop-preserved c =
    let known = c.loop.invariant in
    let above = open_order c.loop.open.items Equal in
    elim c.match-next_parts.branch [
      | in-Err-Equal+in-Some w ↦
          rw (w.open-is, w.pair-is)
          (known ∙ ap (λ o. ordering_then o above) (sym w.in-Err-Equal.ensures ∙ w.in-Err-Equal.field-0-is)
          ∙ ap (λ ps. open_order ps Equal) w.in-Some.ensures.items ∙ open_order-last w.pop.new.self.items w.in-Some.above Equal)
      | in-Ok+in-Err-Equal-pair_of w ↦
          rw (w.open-is, w.pair-is)
          (known ∙ ap (λ o. ordering_then o above) (sym w.in-Ok.ensures ∙ ap (λ o. ordering_then o (parts_order w.in-Ok.rest)) (sym w.in-Err-Equal-pair_of.ensures ∙ w.in-Err-Equal-pair_of.field-0-is)))
      | in-Ok+in-Ok-pair_of+in-Ok-push w ↦
          rw (w.open-is, w.pair-is)
          (known ∙ ap (λ o. ordering_then o above) (sym w.in-Ok.ensures ∙ ap (λ o. ordering_then o (parts_order w.in-Ok.rest)) (sym w.in-Ok-pair_of.ensures))
          ∙ then_again (parts_order w.in-Ok-pair_of.parts) (parts_order w.in-Ok.rest) above
          ∙ ap (ordering_then (parts_order w.in-Ok-pair_of.parts)) (sym (ap (λ ps. open_order ps Equal) w.in-Ok-push.ensures.items ∙ open_order-last c.loop.open.items w.in-Ok.rest Equal)))
    ]
