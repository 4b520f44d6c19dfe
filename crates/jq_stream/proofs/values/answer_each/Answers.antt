use Rattle.std.proofs.Common.{◌≡◌, ◌∙◌, ◌<◌, ◌≤◌, ◌+◌, length, arith, refl, sym, subst}
use Rattle.jv_data.proofs.shared.Results.{on_err}
use Rattle.jq_starts.specs.Starts.{HasStarted}
use Rattle.jq_filters.specs.Runner.{job_of}
use Rattle.jq_stream.proofs.Answering.{answered_none}
use Rattle.jq_stream.proofs.Copying.{all_made, answered_as, answered_next, halted_at, halted_next, next_run_made, runs_at_least, unhalted_next}
use Rattle.jq_stream.proofs.values.answer_each.Goals as goal

pub loop-i-init : goal.loop-i-init
loop-i-init g c = record { answered = answered_none _ _ _; no_halt = refl; started = c.starts_add_up.ensures.none _ }

pub loop-i-preserved : goal.loop-i-preserved
loop-i-preserved g c =
    let job = job_of c.args.settings c.args.runner.now in
    let values = c.args.values.now in
    let i = c.loop-i.i in
    let end = c.loop-i.auto.i-end in
    let below : i < length values = omega (arith, c.loop-i-test.true, end) in
    let copy = c.in_ok-value.value in
    let value = c.index-values-i.result in
    record {
      answered = answered_next job c.args.settings.style values i copy value _ _ _ _ _ _ below c.index-values-i.is c.in_ok-value.ensures c.loop-i.invariant.answered c.in_ok-halt.ensures.ok;
      no_halt = unhalted_next job values i copy value below c.index-values-i.is c.in_ok-value.ensures c.loop-i.invariant.no_halt (sym c.in_ok-halt.ensures.halt ∙ c.in_default.is);
      started = c.starts_add_up.ensures.both i 1 _ _ _ c.loop-i.invariant.started c.in_ok-halt.ensures.started;
    }

pub returns-in_err-value-clause-at_most : goal.returns-in_err-value-clause-at_most
returns-in_err-value-clause-at_most g c =
    let job = job_of c.args.settings c.args.runner.now in
    let values = c.args.values.now in
    let i = c.loop-i.i in
    let end = c.loop-i.auto.i-end in
    let below : i ≤ length values = omega (arith, c.loop-i-test.true, end) in
    on_err c.from_residual.result (c.starts_add_up.ensures.most i _ _ _ c.loop-i.invariant.started (runs_at_least job values i below c.loop-i.invariant.no_halt))

pub returns-in_err-halt-clause-at_most : goal.returns-in_err-halt-clause-at_most
returns-in_err-halt-clause-at_most g c =
    let job = job_of c.args.settings c.args.runner.now in
    let values = c.args.values.now in
    let i = c.loop-i.i in
    let end = c.loop-i.auto.i-end in
    let below : i < length values = omega (arith, c.loop-i-test.true, end) in
    let started = c.starts_add_up.ensures.both i 1 _ _ _ c.loop-i.invariant.started c.in_err-halt.ensures.started in
    on_err c.from_residual-in_err-halt.result
    (c.starts_add_up.ensures.most (i + 1) _ _ _ started (next_run_made job values i c.in_ok-value.value c.index-values-i.result below c.index-values-i.is c.in_ok-value.ensures c.loop-i.invariant.no_halt))

-- a run halts

pub returns-in-Some-clause-answered : goal.returns-in-Some-clause-answered
returns-in-Some-clause-answered g c =
    let job = job_of c.args.settings c.args.runner.now in
    let values = c.args.values.now in
    let i = c.loop-i.i in
    let end = c.loop-i.auto.i-end in
    let below : i < length values = omega (arith, c.loop-i-test.true, end) in
    let copy = c.in_ok-value.value in
    let value = c.index-values-i.result in
    let made = halted_at job values (i + 1) c.in-Some.status (omega arith) (halted_next job values i copy value c.in_ok-halt.halt c.in-Some.status below c.index-values-i.is c.in_ok-value.ensures c.loop-i.invariant.no_halt c.in_ok-halt.ensures.halt c.in-Some.is) in
    answered_as c.args.settings.style _ _ _ _ _ _ made.made
    (answered_next job c.args.settings.style values i copy value _ _ _ _ _ _ below c.index-values-i.is c.in_ok-value.ensures c.loop-i.invariant.answered c.in_ok-halt.ensures.ok)

pub returns-in-Some-clause-halt : goal.returns-in-Some-clause-halt
returns-in-Some-clause-halt g c =
    let job = job_of c.args.settings c.args.runner.now in
    let values = c.args.values.now in
    let i = c.loop-i.i in
    let end = c.loop-i.auto.i-end in
    let below : i < length values = omega (arith, c.loop-i-test.true, end) in
    let made = halted_at job values (i + 1) c.in-Some.status (omega arith) (halted_next job values i c.in_ok-value.value c.index-values-i.result c.in_ok-halt.halt c.in-Some.status below c.index-values-i.is c.in_ok-value.ensures c.loop-i.invariant.no_halt c.in_ok-halt.ensures.halt c.in-Some.is) in
    made.halt

pub returns-in-Some-clause-runs : goal.returns-in-Some-clause-runs
returns-in-Some-clause-runs g c =
    let job = job_of c.args.settings c.args.runner.now in
    let values = c.args.values.now in
    let i = c.loop-i.i in
    let end = c.loop-i.auto.i-end in
    let below : i < length values = omega (arith, c.loop-i-test.true, end) in
    let made = halted_at job values (i + 1) c.in-Some.status (omega arith) (halted_next job values i c.in_ok-value.value c.index-values-i.result c.in_ok-halt.halt c.in-Some.status below c.index-values-i.is c.in_ok-value.ensures c.loop-i.invariant.no_halt c.in_ok-halt.ensures.halt c.in-Some.is) in
    made.runs

pub returns-in-Some-clause-started : goal.returns-in-Some-clause-started
returns-in-Some-clause-started g c =
    let job = job_of c.args.settings c.args.runner.now in
    let values = c.args.values.now in
    let i = c.loop-i.i in
    let end = c.loop-i.auto.i-end in
    let below : i < length values = omega (arith, c.loop-i-test.true, end) in
    let made = halted_at job values (i + 1) c.in-Some.status (omega arith) (halted_next job values i c.in_ok-value.value c.index-values-i.result c.in_ok-halt.halt c.in-Some.status below c.index-values-i.is c.in_ok-value.ensures c.loop-i.invariant.no_halt c.in_ok-halt.ensures.halt c.in-Some.is) in
    subst (λ n. HasStarted n c.args.starts.now c.answer.new.starts) made.runs (c.starts_add_up.ensures.both i 1 _ _ _ c.loop-i.invariant.started c.in_ok-halt.ensures.started)

-- no run halts

pub returns-clause-answered : goal.returns-clause-answered
returns-clause-answered g c =
    let values = c.args.values.now in
    let i = c.loop-i.i in
    let end = c.loop-i.auto.i-end in
    let all = all_made (job_of c.args.settings c.args.runner.now) values i (omega (arith, c.loop-i-test.false, end)) c.loop-i.invariant.no_halt in
    answered_as c.args.settings.style _ _ _ _ _ _ all.0 c.loop-i.invariant.answered

pub returns-clause-halt : goal.returns-clause-halt
returns-clause-halt g c =
    let values = c.args.values.now in
    let end = c.loop-i.auto.i-end in
    let all = all_made (job_of c.args.settings c.args.runner.now) values c.loop-i.i (omega (arith, c.loop-i-test.false, end)) c.loop-i.invariant.no_halt in
    all.1

pub returns-clause-runs : goal.returns-clause-runs
returns-clause-runs g c =
    let values = c.args.values.now in
    let end = c.loop-i.auto.i-end in
    let all = all_made (job_of c.args.settings c.args.runner.now) values c.loop-i.i (omega (arith, c.loop-i-test.false, end)) c.loop-i.invariant.no_halt in
    all.2

pub returns-clause-started : goal.returns-clause-started
returns-clause-started g c =
    let values = c.args.values.now in
    let i = c.loop-i.i in
    let end = c.loop-i.auto.i-end in
    let all = all_made (job_of c.args.settings c.args.runner.now) values i (omega (arith, c.loop-i-test.false, end)) c.loop-i.invariant.no_halt in
    let whole : i ≡ length values = omega (arith, c.loop-i-test.false, end) in
    subst (λ n. HasStarted n c.args.starts.now c.loop-i.starts) (whole ∙ all.2) c.loop-i.invariant.started
