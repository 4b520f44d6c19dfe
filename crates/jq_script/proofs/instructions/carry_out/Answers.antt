use Rattle.std.proofs.Common.{sym, subst}
use Rattle.jq_session.specs.Sessions.{starts_of, state_of}
use Rattle.jq_script.specs.Serving.{point_of, spare_starts}
use Rattle.jq_script.specs.private.Reading.{instruction_in, request_in}
use Rattle.jq_script.specs.private.Replies.{IsCarriedOut}
use Rattle.jq_script.proofs.Starting.{more_may}
use Rattle.jq_script.proofs.instructions.carry_out.Goals as goal

pub returns-in-Request-clause-reply : goal.returns-in-Request-clause-reply
returns-in-Request-clause-reply c =
    let host = c.args.host.now in
    let new = record host { session = c.reply_to.new.session } in
    let q = request_in c.in-Request.request in
    subst (λ i. IsCarriedOut (instruction_in i) (point_of host) (point_of new) c.reply_to.result) (sym c.in-Request.is)
    (c.reply_to.ensures.turn, more_may q (state_of host.session) (starts_of host.session) (starts_of c.reply_to.new.session) (spare_starts host.spare) c.reply_to.ensures.starts)

pub returns-in-Filter-clause-reply : goal.returns-in-Filter-clause-reply
returns-in-Filter-clause-reply c =
    subst (λ i. IsCarriedOut (instruction_in i) (point_of c.args.host.now) (point_of c.refilter.new.host) c.refilter.result) (sym c.in-Filter.is) c.refilter.ensures.reply
