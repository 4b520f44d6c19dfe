use Rattle.std.proofs.Common.{rules, [], ◌∷◌, ◌++◌, refl, sym, subst, append-nil, append_assoc, ◌∙◌}
use Rattle.jv_data.specs.View.{view}
use Rattle.jv_text.specs.Cutting.{HasGiven}
use Rattle.jv_data.proofs.shared.Results.{error_returned, on_err}
use Rattle.jq_filters.specs.Runner.{job_of}
use Rattle.jq_stream.proofs.Answering.{answered_none, first_of_answered, halted_more, one_halts, one_more_made, unhalted_more, values_more, values_then_first}
use Rattle.jq_filters.proofs.shared.Halting.{none_halts}
use Rattle.jq_stream.proofs.Blaming.{after_none}
use Rattle.jq_stream.proofs.Giving.{fewer_left, met_fault}
use Rattle.jq_stream.proofs.answers.OutputBuffers.answer_all.Goals as goal

pub loop-value-init : goal.loop-value-init
loop-value-init g c = record {
  cutting = c.requires;
  answered = λ given fed has. ([], subst (λ l. HasGiven c.args.cutter.now l fed) (sym (append-nil given)) has, refl, answered_none _ _ _);
  finished = refl;
  count = refl;
  unfailed = refl;
}

pub loop-value-smaller : goal.loop-value-smaller
loop-value-smaller g c =
    let so_far = c.loop-value.invariant.cutting in
    let next = rw c.in-Ok-Some.field-0-is at c.in-Ok-Some.ensures.next so_far.0 so_far.1 so_far.2 in
    fewer_left c.loop-value.cutter c.next.new.self so_far.0 so_far.1 (view c.in-Ok-Some.value) c.in-Ok-Some.ensures.finished so_far.2 next

pub loop-value-preserved : goal.loop-value-preserved
loop-value-preserved g c =
    let cutting = c.loop-value.invariant.cutting in
    let now = rw c.in-Ok-Some.field-0-is at c.in-Ok-Some.ensures.next cutting.0 cutting.1 cutting.2 in
    record {
      cutting = (cutting.0 ++ view c.in-Ok-Some.value ∷ [], cutting.1, now);
      answered = λ given fed has.
          let so_far = c.loop-value.invariant.answered given fed has in
          let next = rw c.in-Ok-Some.field-0-is at c.in-Ok-Some.ensures.next (given ++ so_far.0) fed so_far.1 in (
            so_far.0 ++ view c.in-Ok-Some.value ∷ [],
            subst (λ l. HasGiven c.next.new.self l fed) (append_assoc given so_far.0 (view c.in-Ok-Some.value ∷ [])) next,
            unhalted_more (job_of c.args.settings c.args.runner.now) so_far.0 (view c.in-Ok-Some.value ∷ []) so_far.2 (sym c.in_ok-halt-in-Ok-Some.ensures.halt ∙ c.in_default.is),
            values_more (job_of c.args.settings c.args.runner.now) _ so_far.0 (view c.in-Ok-Some.value ∷ []) _ _ _ _ _ _ so_far.3 c.in_ok-halt-in-Ok-Some.ensures.ok,
          );
      finished = c.in-Ok-Some.ensures.finished ∙ c.loop-value.invariant.finished;
      count = c.in-Ok-Some.ensures.count ∙ c.loop-value.invariant.count;
      unfailed = c.in_ok-halt-in-Ok-Some.ensures.unfailed ∙ c.loop-value.invariant.unfailed;
    }

pub returns-in_err-halt-in-Ok-Some-clause-stopped : goal.returns-in_err-halt-in-Ok-Some-clause-stopped
returns-in_err-halt-in-Ok-Some-clause-stopped g c = on_err c.from_residual.result (λ given fed has.
    let so_far = c.loop-value.invariant.answered given fed has in
    let next = rw c.in-Ok-Some.field-0-is at c.in-Ok-Some.ensures.next (given ++ so_far.0) fed so_far.1 in (
      so_far.0 ++ view c.in-Ok-Some.value ∷ [],
      subst (λ l. HasGiven c.next.new.self l fed) (append_assoc given so_far.0 (view c.in-Ok-Some.value ∷ [])) next,
      one_more_made (job_of c.args.settings c.args.runner.now) so_far.0 (view c.in-Ok-Some.value) so_far.2,
      values_then_first (job_of c.args.settings c.args.runner.now) _ so_far.0 (view c.in-Ok-Some.value ∷ []) _ _ _ _ _ _ so_far.3 c.in_err-halt-in-Ok-Some.ensures.err,
    ))

-- a run halts
pub returns-in-Some-clause-answered : goal.returns-in-Some-clause-answered
returns-in-Some-clause-answered g c = λ given fed has.
    let so_far = c.loop-value.invariant.answered given fed has in
    let next = rw c.in-Ok-Some.field-0-is at c.in-Ok-Some.ensures.next (given ++ so_far.0) fed so_far.1 in
    let job = job_of c.args.settings c.args.runner.now in
    let value = view c.in-Ok-Some.value in
    let halts = one_halts job value c.in_ok-halt-in-Ok-Some.halt c.in-Some.status c.in_ok-halt-in-Ok-Some.ensures.halt c.in-Some.is in (
      so_far.0 ++ value ∷ [],
      record {
        has_given = subst (λ l. HasGiven c.next.new.self l fed) (append_assoc given so_far.0 (value ∷ [])) next;
        up_to = halted_more job so_far.0 (value ∷ []) c.in-Some.status so_far.2 halts;
      },
      values_more job _ so_far.0 (value ∷ []) _ _ _ _ _ _ so_far.3 c.in_ok-halt-in-Ok-Some.ensures.ok,
    )

pub returns-in-Err-NoMemory-clause-stopped : goal.returns-in-Err-NoMemory-clause-stopped
returns-in-Err-NoMemory-clause-stopped g c = λ given fed has.
    let so_far = c.loop-value.invariant.answered given fed has in
    let next = c.in-Err-NoMemory.ensures.next (given ++ so_far.0) fed so_far.1 in
    (so_far.0, next.0, none_halts _ so_far.2, first_of_answered _ _ _ _ _ _ so_far.3)

pub returns-in-Err-clause-answered : goal.returns-in-Err-clause-answered
returns-in-Err-clause-answered g c = λ given fed has.
    let so_far = c.loop-value.invariant.answered given fed has in
    let next = c.in-Err.ensures.next (given ++ so_far.0) fed so_far.1 in
    (so_far.0, record { has_given = next.0; up_to = (met_fault c.in-Err.fault _ _ _ _ (search rules) next.1, so_far.2) }, so_far.3)

pub returns-in_err-halt-in-Ok-Some-clause-blamed : goal.returns-in_err-halt-in-Ok-Some-clause-blamed
returns-in_err-halt-in-Ok-Some-clause-blamed g c =
    let fault = c.in_err-halt-in-Ok-Some.field-0.0 in
    error_returned c.from_residual.result fault _ c.from_residual.ensures.1 (after_none fault _ _ _ c.loop-value.invariant.unfailed c.in_err-halt-in-Ok-Some.ensures.blamed)
