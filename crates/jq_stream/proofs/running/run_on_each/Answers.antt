use Rattle.std.proofs.Common.{◌≤◌, length, ◌++◌, [], sym, ap, ◌∙◌, arith, refl}
use Rattle.jv_data.proofs.shared.Results.{error_returned, if_other}
use Rattle.jq_devices.proofs.shared.Failures.{failed_after}
use Rattle.jq_devices.proofs.shared.Writing.{first_result}
use Rattle.jq_devices.specs.declared.faults.StreamFault.TheVariants.{NoMemory}
use Rattle.jq_filters.specs.Outcomes.{on_each}
use Rattle.jq_filters.specs.Runner.{job_of}
use Rattle.jq_stream.proofs.Blaming.{after_none, never_read, report_failed, write_failed}
use Rattle.jq_stream.proofs.Giving.{nothing_given, all_unended}
use Rattle.jq_stream.proofs.Going.{going_begun, going_on, each_ended, each_halted, each_reported, line_stopped, piece_stopped, answers_stopped, unbegun, one_pass, one_pass_answered, one_pass_begun, one_pass_unfed, one_pass_reported}
use Rattle.jq_stream.proofs.Opened.{streams_by}
use Rattle.jq_stream.proofs.running.run_on_each.Goals as goal

pub returns-in_err-piece-clause-stopped : goal.returns-in_err-piece-clause-stopped
returns-in_err-piece-clause-stopped g c =
    let old = c.args.streams.now.bytes in
    error_returned c.from_residual.result NoMemory _ c.from_residual.ensures.1 (unbegun on_each (job_of c.args.settings c.args.runner.now) old old.remaining)

pub loop-piece-init : goal.loop-piece-init
loop-piece-init g c =
    let none = c.new-cutter.ensures.count in
    let job = job_of c.args.settings c.args.runner.now in
    rw (← c.streams.view_is) (record {
      going = ([], [], going_begun job _ _ _ c.new-cutter.ensures.given c.new-answers.ensures.empty c.new-answers.ensures.fresh, nothing_given);
      unended = c.new-cutter.ensures.finished;
      count = omega arith;
      room = c.in_ok-piece.ensures;
      input = refl;
      outputs = refl;
    })

pub returns-in_err-ended-clause-stopped : goal.returns-in_err-ended-clause-stopped
returns-in_err-ended-clause-stopped g c =
    let before = c.loop-piece.invariant.going in
    let job = job_of c.args.settings c.args.runner.now in
    error_returned c.from_residual-in_err-ended.result c.in_err-ended.field-0.0 _ c.from_residual-in_err-ended.ensures.1
    (piece_stopped c.in_err-ended.field-0.0 job _ _ _ _ _ before.0 before.1 before.2 before.3 c.loop-piece.invariant.unended c.in_err-ended.ensures.unfed.unread)

pub returns-in_err-reached-clause-stopped : goal.returns-in_err-reached-clause-stopped
returns-in_err-reached-clause-stopped g c =
    let before = c.loop-piece.invariant.going in
    let job = job_of c.args.settings c.args.runner.now in
    let read = c.in_ok-ended.ensures.fed.given before.0 before.1 before.2.has_given in
    let part = c.in_err-reached.ensures.stopped before.0 (before.1 ++ read.0) read.2 in
    let new = streams_by g.R.Read.remaining c.feed_next.new.input c.answer_ready.new.outputs.bytes in
    error_returned c.from_residual-in_err-reached.result c.in_err-reached.field-0.0 _ c.from_residual-in_err-reached.ensures.1
    (answers_stopped c.in_err-reached.field-0.0 job _ _ new _ c.answer_ready.new.cutter _ before.0 part.0 before.1 read.0 before.2 read.1 part.1 part.2 (part.3, part.4)
    (λ t. c.in_ok-ended.ensures.fed.at_end (sym c.in_ok-ended.ensures.fed.finished ∙ sym c.in_err-reached.ensures.unfed.finished ∙ t)) (never_read c.in_err-reached.field-0.0 _ _ c.in_err-reached.ensures.blamed))

pub returns-in-Fault-clause-ran : goal.returns-in-Fault-clause-ran
returns-in-Fault-clause-ran g c =
    let outputs = ap (λ s. s.outputs) c.streams-inside.view_is in
    let before = c.loop-piece.invariant.going in
    let job = job_of c.args.settings c.args.runner.now in
    let read = c.in_ok-ended.ensures.fed.given before.0 before.1 before.2.has_given in
    let ready = c.in_ok-reached.ensures.answered before.0 (before.1 ++ read.0) read.2 in
    let reached = rw c.in-Fault.is at ready.1.up_to in
    let new = streams_by g.R.Read.remaining c.feed_next.new.input c.answer_ready.new.outputs.bytes in
    let on = going_on job _ _ new _ c.answer_ready.new.cutter _ _ before.0 ready.0 before.1 read.0 before.2 read.1 ready.1.has_given reached.1 ready.2 c.in_ok-reached.ensures.empty in
    each_reported c.report_fault.result job _ _ _ _ _ _ _ c.in-Fault.fault (rw (← outputs) at on) reached.0
    (λ t. c.in_ok-ended.ensures.fed.at_end (sym c.in_ok-ended.ensures.fed.finished ∙ sym c.in_ok-reached.ensures.unfed.finished ∙ t)) c.report_fault.ensures.status c.report_fault.ensures.ok

pub returns-in-Fault-clause-stopped : goal.returns-in-Fault-clause-stopped
returns-in-Fault-clause-stopped g c =
    let input = ap (λ s. s.input) c.streams-inside.view_is in
    let outputs = ap (λ s. s.outputs) c.streams-inside.view_is in
    let before = c.loop-piece.invariant.going in
    let job = job_of c.args.settings c.args.runner.now in
    let read = c.in_ok-ended.ensures.fed.given before.0 before.1 before.2.has_given in
    let ready = c.in_ok-reached.ensures.answered before.0 (before.1 ++ read.0) read.2 in
    let reached = rw c.in-Fault.is at ready.1.up_to in
    let new = streams_by g.R.Read.remaining c.feed_next.new.input c.answer_ready.new.outputs.bytes in
    let on = going_on job _ _ new _ c.answer_ready.new.cutter _ _ before.0 ready.0 before.1 read.0 before.2 read.1 ready.1.has_given reached.1 ready.2 c.in_ok-reached.ensures.empty in
    rw input (line_stopped c.report_fault.result job _ _ _ _ _ _ _ c.in-Fault.fault (rw (← outputs) at on) reached.0
    (λ t. c.in_ok-ended.ensures.fed.at_end (sym c.in_ok-ended.ensures.fed.finished ∙ sym c.in_ok-reached.ensures.unfed.finished ∙ t)) c.report_fault.ensures.err c.report_fault.ensures.fault)

pub returns-then-ended-clause-ran : goal.returns-then-ended-clause-ran
returns-then-ended-clause-ran g c =
    let before = c.loop-piece.invariant.going in
    let job = job_of c.args.settings c.args.runner.now in
    let read = c.in_ok-ended.ensures.fed.given before.0 before.1 before.2.has_given in
    let ready = c.in_ok-reached.ensures.answered before.0 (before.1 ++ read.0) read.2 in
    let reached = rw c.in-All.is at ready.1.up_to in
    let new = streams_by g.R.Read.remaining c.feed_next.new.input c.answer_ready.new.outputs.bytes in
    let on = going_on job _ _ new _ c.answer_ready.new.cutter _ _ before.0 ready.0 before.1 read.0 before.2 read.1 ready.1.has_given reached.1 ready.2 c.in_ok-reached.ensures.empty in
    each_ended job _ new _ _ _ _ c.status.result on (c.in_ok-ended.ensures.fed.at_end c.if-ended.true)
    (c.in_ok-reached.ensures.unfed.finished ∙ c.in_ok-ended.ensures.fed.finished ∙ c.if-ended.true) reached.0 c.status.ensures

pub loop-piece-preserved : goal.loop-piece-preserved
loop-piece-preserved g c =
    let before = c.loop-piece.invariant.going in
    let job = job_of c.args.settings c.args.runner.now in
    let read = c.in_ok-ended.ensures.fed.given before.0 before.1 before.2.has_given in
    let ready = c.in_ok-reached.ensures.answered before.0 (before.1 ++ read.0) read.2 in
    let reached = rw c.in-All.is at ready.1.up_to in
    let new = streams_by g.R.Read.remaining c.feed_next.new.input c.answer_ready.new.outputs.bytes in
    let on = going_on job _ _ new _ c.answer_ready.new.cutter _ _ before.0 ready.0 before.1 read.0 before.2 read.1 ready.1.has_given reached.1 ready.2 c.in_ok-reached.ensures.empty in
    let unended = c.in_ok-reached.ensures.unfed.finished ∙ c.in_ok-ended.ensures.fed.finished ∙ c.if-ended.false in
    let all = all_unended _ _ _ unended reached.0 in
    let count = c.in_ok-ended.ensures.fed.count c.if-ended.false in
    let kept = c.in_ok-reached.ensures.unfed.count in
    let was = c.loop-piece.invariant.count in
    let len = c.deref_mut.ensures.len in
    let piece = c.loop-piece.invariant.room in
    let few = c.in_ok-ended.ensures.few in
    let reads = c.in_ok-ended.ensures.reads in
    record {
      going = (before.0 ++ ready.0, before.1 ++ read.0, on, all);
      unended = unended;
      count = omega arith;
      room = piece;
      input = c.in_ok-ended.ensures.unfailed ∙ c.loop-piece.invariant.input;
      outputs = c.in_ok-reached.ensures.unfailed ∙ c.loop-piece.invariant.outputs;
    }

pub returns-in_err-piece-clause-one_pass : goal.returns-in_err-piece-clause-one_pass
returns-in_err-piece-clause-one_pass g c =
    one_pass_begun (job_of c.args.settings c.args.runner.now) c.args.streams.now.bytes

pub returns-in_err-ended-clause-one_pass : goal.returns-in_err-ended-clause-one_pass
returns-in_err-ended-clause-one_pass g c =
    let before = c.loop-piece.invariant.going in
    let job = job_of c.args.settings c.args.runner.now in
    let lost = c.in_err-ended.ensures.unfed.lost in
    let len = c.deref_mut.ensures.len in
    let room = c.loop-piece.invariant.room in
    let small : length lost.0 ≤ 65536 = omega (arith, lost.2) in
    one_pass_unfed job _ _ _ _ _ before.0 before.1 lost.0 before.2 before.3 lost.1 small

pub returns-in_err-reached-clause-one_pass : goal.returns-in_err-reached-clause-one_pass
returns-in_err-reached-clause-one_pass g c =
    let before = c.loop-piece.invariant.going in
    let job = job_of c.args.settings c.args.runner.now in
    let read = c.in_ok-ended.ensures.fed.given before.0 before.1 before.2.has_given in
    let part = c.in_err-reached.ensures.stopped before.0 (before.1 ++ read.0) read.2 in
    let len = c.deref_mut.ensures.len in
    let room = c.loop-piece.invariant.room in
    let small : length read.0 ≤ 65536 = omega (arith, read.3) in
    one_pass job _ _ _ _ _ _ _ before.0 before.1 read.0 part.3.0 part.4.0 before.2 before.3 read.1 small part.3.3 part.4.3

pub returns-in-Fault-clause-one_pass : goal.returns-in-Fault-clause-one_pass
returns-in-Fault-clause-one_pass g c =
    let input = ap (λ s. s.input) c.streams-inside.view_is in
    let outputs = ap (λ s. s.outputs) c.streams-inside.view_is in
    let before = c.loop-piece.invariant.going in
    let job = job_of c.args.settings c.args.runner.now in
    let read = c.in_ok-ended.ensures.fed.given before.0 before.1 before.2.has_given in
    let ready = c.in_ok-reached.ensures.answered before.0 (before.1 ++ read.0) read.2 in
    let reached = rw c.in-Fault.is at ready.1.up_to in
    let new = streams_by g.R.Read.remaining c.feed_next.new.input c.answer_ready.new.outputs.bytes in
    let len = c.deref_mut.ensures.len in
    let room = c.loop-piece.invariant.room in
    let small : length read.0 ≤ 65536 = omega (arith, read.3) in
    rw input (one_pass_reported job _ _ _ _ _ _ _ before.0 ready.0 before.1 read.0 _ before.2 before.3 read.1 small (rw (← outputs) at ready.2) c.in_ok-reached.ensures.empty
    (first_result c.report_fault.result _ _ _ c.report_fault.ensures.ok c.report_fault.ensures.err))

pub returns-then-ended-clause-one_pass : goal.returns-then-ended-clause-one_pass
returns-then-ended-clause-one_pass g c =
    let before = c.loop-piece.invariant.going in
    let job = job_of c.args.settings c.args.runner.now in
    let read = c.in_ok-ended.ensures.fed.given before.0 before.1 before.2.has_given in
    let ready = c.in_ok-reached.ensures.answered before.0 (before.1 ++ read.0) read.2 in
    let len = c.deref_mut.ensures.len in
    let room = c.loop-piece.invariant.room in
    let small : length read.0 ≤ 65536 = omega (arith, read.3) in
    one_pass_answered job _ _ _ _ _ _ before.0 ready.0 before.1 read.0 before.2 before.3 read.1 small ready.2 c.in_ok-reached.ensures.empty

pub returns-in-Halt-clause-one_pass : goal.returns-in-Halt-clause-one_pass
returns-in-Halt-clause-one_pass g c =
    let before = c.loop-piece.invariant.going in
    let job = job_of c.args.settings c.args.runner.now in
    let read = c.in_ok-ended.ensures.fed.given before.0 before.1 before.2.has_given in
    let ready = c.in_ok-reached.ensures.answered before.0 (before.1 ++ read.0) read.2 in
    let len = c.deref_mut.ensures.len in
    let room = c.loop-piece.invariant.room in
    let small : length read.0 ≤ 65536 = omega (arith, read.3) in
    one_pass_answered job _ _ _ _ _ _ before.0 ready.0 before.1 read.0 before.2 before.3 read.1 small ready.2 c.in_ok-reached.ensures.empty

pub returns-in-Halt-clause-ran : goal.returns-in-Halt-clause-ran
returns-in-Halt-clause-ran g c =
    let before = c.loop-piece.invariant.going in
    let job = job_of c.args.settings c.args.runner.now in
    let read = c.in_ok-ended.ensures.fed.given before.0 before.1 before.2.has_given in
    let ready = c.in_ok-reached.ensures.answered before.0 (before.1 ++ read.0) read.2 in
    let halts = rw c.in-Halt.is at ready.1.up_to in
    let new = streams_by g.R.Read.remaining c.feed_next.new.input c.answer_ready.new.outputs.bytes in
    each_halted job _ _ new _ c.answer_ready.new.cutter _ _ before.0 ready.0 before.1 read.0 c.in-Halt.status before.2 read.1 ready.1.has_given halts ready.2 c.in_ok-reached.ensures.empty
    (λ t. c.in_ok-ended.ensures.fed.at_end (sym c.in_ok-ended.ensures.fed.finished ∙ sym c.in_ok-reached.ensures.unfed.finished ∙ t))

pub returns-in_err-ended-clause-read_failed : goal.returns-in_err-ended-clause-read_failed
returns-in_err-ended-clause-read_failed g c =
    error_returned c.from_residual-in_err-ended.result c.in_err-ended.field-0.0 _ c.from_residual-in_err-ended.ensures.1
    (λ is. failed_after _ _ _ c.loop-piece.invariant.input (c.in_err-ended.ensures.unfed.failed is))

pub returns-in_err-reached-clause-read_failed : goal.returns-in_err-reached-clause-read_failed
returns-in_err-reached-clause-read_failed g c =
    let fault = c.in_err-reached.field-0.0 in
    error_returned c.from_residual-in_err-reached.result fault _ c.from_residual-in_err-reached.ensures.1
    (λ is. absurd (never_read fault _ _ c.in_err-reached.ensures.blamed is))

pub returns-in_err-reached-clause-write_failed : goal.returns-in_err-reached-clause-write_failed
returns-in_err-reached-clause-write_failed g c =
    let fault = c.in_err-reached.field-0.0 in
    error_returned c.from_residual-in_err-reached.result fault _ c.from_residual-in_err-reached.ensures.1
    (λ is. write_failed fault _ _ (after_none fault _ _ _ c.loop-piece.invariant.outputs c.in_err-reached.ensures.blamed) is)

pub returns-in-Fault-clause-read_failed : goal.returns-in-Fault-clause-read_failed
returns-in-Fault-clause-read_failed g c = if_other c.report_fault.result _ _ c.report_fault.ensures.fault

pub returns-in-Fault-clause-write_failed : goal.returns-in-Fault-clause-write_failed
returns-in-Fault-clause-write_failed g c =
    report_failed c.report_fault.result _ _ _ (ap (λ s. s.outputs.failures) c.streams-inside.view_is ∙ c.in_ok-reached.ensures.unfailed ∙ c.loop-piece.invariant.outputs) c.report_fault.ensures.failed
