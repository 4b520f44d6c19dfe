use Rattle.std.proofs.Common.{sym, subst}
use Rattle.jq_session.specs.Sessions.{state_of}
use Rattle.jq_script.specs.Requests as requests
use Rattle.jq_script.specs.private.Reading.{request_in}
use Rattle.jq_script.specs.private.Replies.{IsReplied}
use Rattle.jq_script.specs.declared.replies.Refused.TheVariants as refused
use Rattle.jq_script.specs.declared.replies.Reply.TheVariants as reply
use Rattle.jq_script.proofs.Replying.{errors_shown, move_replied, not_known, removed, shown, status_told}
use Rattle.jq_script.proofs.replies.reply_to.Goals as goal

pub returns-in-Remove-clause-turn : goal.returns-in-Remove-clause-turn
returns-in-Remove-clause-turn c =
    let of = c.remove.ensures in
    subst (λ q. IsReplied (request_in q) (state_of c.args.session.now) (state_of c.remove.new.self) c.made.result) (sym c.in-Remove.is)
    (subst (λ r. IsReplied (requests.remove c.in-Remove.place) (state_of c.args.session.now) (state_of c.remove.new.self) r) (sym c.made.ensures)
    (removed c.in-Remove.place (state_of c.args.session.now) (state_of c.remove.new.self) c.remove.result of.edited of.follow of.refused of.unchanged))

pub returns-in-Move-clause-turn : goal.returns-in-Move-clause-turn
returns-in-Move-clause-turn c =
    let of = c.shift.ensures in
    subst (λ q. IsReplied (request_in q) (state_of c.args.session.now) (state_of c.shift.new.self) c.moved.result) (sym c.in-Move.is)
    (subst (λ r. IsReplied (requests.move c.in-Move.k c.in-Move.l) (state_of c.args.session.now) (state_of c.shift.new.self) r) (sym c.moved.ensures)
    (move_replied c.in-Move.k c.in-Move.l (state_of c.args.session.now) (state_of c.shift.new.self) c.shift.result of.moved of.follow of.refused of.unchanged))

pub returns-in-Show-clause-turn : goal.returns-in-Show-clause-turn
returns-in-Show-clause-turn c = subst (λ q. IsReplied (request_in q) (state_of c.args.session.now) (state_of c.args.session.now) reply.Output) (sym c.in-Show.is) (shown (state_of c.args.session.now))

pub returns-in-Errors-clause-turn : goal.returns-in-Errors-clause-turn
returns-in-Errors-clause-turn c =
    subst (λ q. IsReplied (request_in q) (state_of c.args.session.now) (state_of c.args.session.now) reply.Errors) (sym c.in-Errors.is) (errors_shown (state_of c.args.session.now))

pub returns-in-Status-clause-turn : goal.returns-in-Status-clause-turn
returns-in-Status-clause-turn c =
    subst (λ q. IsReplied (request_in q) (state_of c.args.session.now) (state_of c.args.session.now) reply.Status) (sym c.in-Status.is) (status_told (state_of c.args.session.now))

pub returns-in-Unknown-clause-turn : goal.returns-in-Unknown-clause-turn
returns-in-Unknown-clause-turn c =
    subst (λ q. IsReplied (request_in q) (state_of c.args.session.now) (state_of c.args.session.now) (reply.Refused refused.Unknown)) (sym c.in-Unknown.is) (not_known (state_of c.args.session.now))
