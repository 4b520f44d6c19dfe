use Rattle.std.proofs.Common.{map, false, sym, subst, ◌++◌, ◌∙◌, arith, [], refl}
use Rattle.std.proofs.KnownBytes.{Consumes-nil, Consumes-trans}
use Rattle.jv_data.specs.View.{view}
use Rattle.jv_text.specs.Cutting.{HasGiven, AllGiven}
use Rattle.jq_devices.specs.Watched.{device_of}
use Rattle.jq_stream.proofs.Giving.{nothing_given, all_unended}
use Rattle.jq_stream.proofs.Collecting.{gather_stopped, gathered_on, gather_faulted}
use Rattle.jq_stream.proofs.gathering.gather.Goals as goal

pub loop-piece-init : goal.loop-piece-init
loop-piece-init g c =
    let none = c.new-cutter.ensures.count in
    record {
      given = (
        [],
        subst (λ vs. HasGiven c.new-cutter.result (map view vs) []) (sym c.requires) c.new-cutter.ensures.given,
        Consumes-nil _,
        subst (λ vs. AllGiven false (map view vs) []) (sym c.requires) nothing_given,
      );
      unended = c.new-cutter.ensures.finished;
      count = omega arith;
      room = c.in_ok-piece.ensures;
      unfailed = refl;
    }

pub returns-in_err-ended-clause-gathered : goal.returns-in_err-ended-clause-gathered
returns-in_err-ended-clause-gathered g c =
    let before = c.loop-piece.invariant.given in
    gathered_on c.from_residual-in_err-ended.result c.in_err-ended.field-0.0 _ _ _ c.from_residual-in_err-ended.ensures.1
    (gather_stopped c.in_err-ended.field-0.0 _ before.0 _ _ _ before.2 before.3 c.in_err-ended.ensures.unfed.unread c.in_err-ended.ensures.unfed.unwritten)

pub returns-in-Some-clause-gathered : goal.returns-in-Some-clause-gathered
returns-in-Some-clause-gathered g c =
    let before = c.loop-piece.invariant.given in
    let read = c.in_ok-ended.ensures.fed.given _ before.0 before.1 in
    let ready = c.in_ok-fault.ensures.given (before.0 ++ read.0) read.2 in
    let consumed = Consumes-trans _ _ _ before.0 read.0 before.2 read.1 in
    gather_faulted c.in-Some.fault c.keep_ready.new.cutter _ _ _ (g.R.Read.remaining (device_of c.feed_next.new.input)) (g.R.Read.remaining (device_of c.feed_next.new.input)) consumed ready.0 (rw c.in-Some.is at ready.1)
    (λ t. c.in_ok-ended.ensures.fed.at_end (sym c.in_ok-ended.ensures.fed.finished ∙ sym c.in_ok-fault.ensures.finished ∙ t))

pub loop-piece-preserved : goal.loop-piece-preserved
loop-piece-preserved g c =
    let before = c.loop-piece.invariant.given in
    let read = c.in_ok-ended.ensures.fed.given _ before.0 before.1 in
    let ready = c.in_ok-fault.ensures.given (before.0 ++ read.0) read.2 in
    let unended = c.in_ok-fault.ensures.finished ∙ c.in_ok-ended.ensures.fed.finished ∙ c.if-ended.false in
    let all = all_unended _ _ _ unended (rw c.in_default.is at ready.1) in
    let count = c.in_ok-ended.ensures.fed.count c.if-ended.false in
    let kept = c.in_ok-fault.ensures.count in
    let was = c.loop-piece.invariant.count in
    let len = c.deref_mut.ensures.len in
    let piece = c.loop-piece.invariant.room in
    let few = c.in_ok-ended.ensures.few in
    let reads = c.in_ok-ended.ensures.reads in
    record {
      given = (before.0 ++ read.0, ready.0, Consumes-trans _ _ _ before.0 read.0 before.2 read.1, all);
      unended = unended;
      count = omega arith;
      room = piece;
      unfailed = c.in_ok-ended.ensures.unfailed ∙ c.loop-piece.invariant.unfailed;
    }
