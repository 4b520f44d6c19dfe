use Rattle.std.proofs.Common.{sym, subst}
use Rattle.jv_data.specs.View.{view}
use Rattle.jq_session.specs.Sessions.{starts_of, state_of}
use Rattle.jq_script.specs.Requests as requests
use Rattle.jq_script.specs.private.Reading.{change_in}
use Rattle.jq_script.specs.private.Replies.{IsReplied}
use Rattle.jq_script.specs.declared.replies.Reply.TheVariants as reply
use Rattle.jq_script.proofs.Replying.{changed, obstructed, unread}
use Rattle.jq_script.proofs.Starting.{none_may}
use Rattle.jq_script.proofs.replies.make.Goals as goal

pub returns-in-Some-clause-turn : goal.returns-in-Some-clause-turn
returns-in-Some-clause-turn c = obstructed (change_in c.args.change) c.args.text.now (state_of c.args.session.now) c.in-Some.refused c.in-Some.ensures

pub returns-in-Ok-clause-turn : goal.returns-in-Ok-clause-turn
returns-in-Ok-clause-turn c =
    let of = c.edit.ensures in
    subst (λ r. IsReplied (requests.change (change_in c.args.change) c.args.text.now) (state_of c.args.session.now) (state_of c.edit.new.session) r) (sym c.made.ensures)
    (changed (change_in c.args.change) c.args.text.now (state_of c.args.session.now) (state_of c.edit.new.session) (view c.in-Ok.value) c.edit.result c.in_default.ensures c.in-Ok.ensures of.edited
    of.follow of.refused of.unchanged)

pub returns-in-Err-clause-turn : goal.returns-in-Err-clause-turn
returns-in-Err-clause-turn c =
    subst (λ r. IsReplied (requests.change (change_in c.args.change) c.args.text.now) (state_of c.args.session.now) (state_of c.args.session.now) (reply.Refused r)) (sym c.unread.ensures)
    (unread (change_in c.args.change) c.args.text.now (state_of c.args.session.now) c.in-Err.fault c.in_default.ensures c.in-Err.ensures)

pub returns-in-Err-clause-starts : goal.returns-in-Err-clause-starts
returns-in-Err-clause-starts c = none_may (requests.change (change_in c.args.change) c.args.text.now) (state_of c.args.session.now) (starts_of c.args.session.now)
