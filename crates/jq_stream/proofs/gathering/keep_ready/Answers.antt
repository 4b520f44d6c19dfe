use Rattle.std.proofs.Common.{rules, [], ◌∷◌, map, sym, ap, subst, ◌∙◌}
use Rattle.std.proofs.lemmas.List.{map-append}
use Rattle.jv_data.specs.View.{view}
use Rattle.jv_text.specs.Cutting.{HasGiven}
use Rattle.jq_stream.proofs.Giving.{fewer_left, met_fault}
use Rattle.jq_stream.proofs.gathering.keep_ready.Goals as goal

pub loop-value-smaller : goal.loop-value-smaller
loop-value-smaller c =
    let so_far = c.loop-value.invariant.cutting in
    let next = rw c.in-Ok-Some.field-0-is at c.in-Ok-Some.ensures.next (map view c.loop-value.values.items) so_far.0 so_far.1 in
    fewer_left c.loop-value.cutter c.next.new.self (map view c.loop-value.values.items) so_far.0 (view c.in-Ok-Some.value) c.in-Ok-Some.ensures.finished so_far.1 next

pub loop-value-preserved : goal.loop-value-preserved
loop-value-preserved c =
    let items = ap (map view) c.in_ok-push-in-Ok-Some.ensures.items ∙ map-append view c.loop-value.values.items (c.in-Ok-Some.value ∷ []) in
    let cutting = c.loop-value.invariant.cutting in
    let now = rw c.in-Ok-Some.field-0-is at c.in-Ok-Some.ensures.next (map view c.loop-value.values.items) cutting.0 cutting.1 in
    record {
      cutting = (cutting.0, subst (λ vs. HasGiven c.next.new.self vs cutting.0) (sym items) now);
      given = λ fed has.
          let next = rw c.in-Ok-Some.field-0-is at c.in-Ok-Some.ensures.next (map view c.loop-value.values.items) fed (c.loop-value.invariant.given fed has) in
          subst (λ vs. HasGiven c.next.new.self vs fed) (sym items) next;
      finished = c.in-Ok-Some.ensures.finished ∙ c.loop-value.invariant.finished;
      count = c.in-Ok-Some.ensures.count ∙ c.loop-value.invariant.count;
    }

pub returns-in-Err-clause-given : goal.returns-in-Err-clause-given
returns-in-Err-clause-given c = λ fed has.
    let next = c.in-Err.ensures.next (map view c.loop-value.values.items) fed (c.loop-value.invariant.given fed has) in
    (next.0, met_fault c.in-Err.fault _ _ _ _ (search rules) next.1)
