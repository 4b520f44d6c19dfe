use Rattle.std.proofs.Common.{◌∙◌, OnErr, sym, subst}
use Rattle.jq_devices.specs.Watched.{device_of}
use Rattle.jq_devices.specs.Writing.{AppendsFirst}
use Rattle.jq_session.specs.Sessions.{state_of}
use Rattle.jq_script.specs.Answers.{status_answer}
use Rattle.jq_script.specs.private.Replies.{answer_of}
use Rattle.jq_script.proofs.writing.write_reply.Goals as goal

pub returns-in-Made-clause-err : goal.returns-in-Made-clause-err
returns-in-Made-clause-err g c =
    let old = g.W.Write.contents (device_of c.args.output.now) in
    let new = g.W.Write.contents (device_of c.write_made.new.output) in
    subst (λ r. OnErr c.write_made.result (AppendsFirst old new (answer_of c.args.follow r (state_of c.args.session.now)))) (sym c.in-Made.is) c.write_made.ensures.err

pub returns-in-Moved-clause-err : goal.returns-in-Moved-clause-err
returns-in-Moved-clause-err g c =
    let old = g.W.Write.contents (device_of c.args.output.now) in
    let new = g.W.Write.contents (device_of c.write_moved.new.output) in
    subst (λ r. OnErr c.write_moved.result (AppendsFirst old new (answer_of c.args.follow r (state_of c.args.session.now)))) (sym c.in-Moved.is) c.write_moved.ensures.err

pub returns-in-Refused-clause-err : goal.returns-in-Refused-clause-err
returns-in-Refused-clause-err g c =
    let old = g.W.Write.contents (device_of c.args.output.now) in
    let new = g.W.Write.contents (device_of c.write.new.writer) in
    subst (λ r. OnErr c.write.result (AppendsFirst old new (answer_of c.args.follow r (state_of c.args.session.now)))) (sym c.in-Refused.is)
    (subst (λ bytes. OnErr c.write.result (AppendsFirst old new bytes)) c.refused_line.ensures c.write.ensures.err)

pub returns-in-Errors-clause-err : goal.returns-in-Errors-clause-err
returns-in-Errors-clause-err g c =
    let old = g.W.Write.contents (device_of c.args.output.now) in
    let new = g.W.Write.contents (device_of c.write_errors.new.output) in
    subst (λ r. OnErr c.write_errors.result (AppendsFirst old new (answer_of c.args.follow r (state_of c.args.session.now)))) (sym c.in-Errors.is) c.write_errors.ensures.err

pub returns-in-Status-clause-err : goal.returns-in-Status-clause-err
returns-in-Status-clause-err g c =
    let old = g.W.Write.contents (device_of c.args.output.now) in
    let new = g.W.Write.contents (device_of c.write_number.new.output) in
    subst (λ r. OnErr c.write_number.result (AppendsFirst old new (answer_of c.args.follow r (state_of c.args.session.now)))) (sym c.in-Status.is)
    (subst (λ n. OnErr c.write_number.result (AppendsFirst old new (status_answer n))) (c.from.ensures ∙ c.status.ensures) c.write_number.ensures.err)
