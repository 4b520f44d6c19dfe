use Rattle.std.proofs.Common.{OnErr, subst, sym}
use Rattle.jq_devices.specs.Watched.{device_of}
use Rattle.jq_devices.specs.Writing.{AppendsFirst}
use Rattle.jq_session.specs.Sessions.{state_kept}
use Rattle.jq_session.specs.States.{outcome}
use Rattle.jq_session.proofs.sessions.Session.write_err.Goals as goal

pub returns-in-Each-clause-err : goal.returns-in-Each-clause-err
returns-in-Each-clause-err g c =
    let r = g.W.Write.contents (device_of c.args.writer.now) in
    let s = g.W.Write.contents (device_of c.write_err.new.writer) in
    subst (λ k. OnErr c.write_err.result (AppendsFirst r s (outcome (state_kept k)).errors)) (sym c.in-Each.is) c.write_err.ensures.err

pub returns-in-Fold-clause-err : goal.returns-in-Fold-clause-err
returns-in-Fold-clause-err g c =
    let r = g.W.Write.contents (device_of c.args.writer.now) in
    let s = g.W.Write.contents (device_of c.write_err-in-Fold.new.writer) in
    subst (λ k. OnErr c.write_err-in-Fold.result (AppendsFirst r s (outcome (state_kept k)).errors)) (sym c.in-Fold.is) c.write_err-in-Fold.ensures.err

pub returns-in-UntilHalt-clause-err : goal.returns-in-UntilHalt-clause-err
returns-in-UntilHalt-clause-err g c =
    let r = g.W.Write.contents (device_of c.args.writer.now) in
    let s = g.W.Write.contents (device_of c.write_err-in-UntilHalt.new.writer) in
    subst (λ k. OnErr c.write_err-in-UntilHalt.result (AppendsFirst r s (outcome (state_kept k)).errors)) (sym c.in-UntilHalt.is) c.write_err-in-UntilHalt.ensures.err

pub returns-in-Whole-clause-err : goal.returns-in-Whole-clause-err
returns-in-Whole-clause-err g c =
    let r = g.W.Write.contents (device_of c.args.writer.now) in
    let s = g.W.Write.contents (device_of c.write_err-in-Whole.new.writer) in
    subst (λ k. OnErr c.write_err-in-Whole.result (AppendsFirst r s (outcome (state_kept k)).errors)) (sym c.in-Whole.is) c.write_err-in-Whole.ensures.err
