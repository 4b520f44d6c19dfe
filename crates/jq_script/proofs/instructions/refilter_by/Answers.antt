use Rattle.std.proofs.Common.{refl, sym, subst}
use Rattle.jq_syntax.specs.Chosen.{chosen}
use Rattle.jq_session.specs.Sessions.{options_of}
use Rattle.jq_script.specs.Serving.{point_of}
use Rattle.jq_script.specs.private.Replies.{IsFilterReplied}
use Rattle.jq_script.proofs.Hosting.{filter_text, refused_text}
use Rattle.jq_script.proofs.Replying.{filter_refused, filter_replied}
use Rattle.jq_script.proofs.instructions.refilter_by.Goals as goal

pub returns-in-Ok-clause-reply : goal.returns-in-Ok-clause-reply
returns-in-Ok-clause-reply c = λ utf8.
    let text = c.args.text.now in
    let old = point_of c.args.host.now in
    let new = point_of c.refilter.new.self in
    let run = c.refilter.ensures in
    subst (λ r. IsFilterReplied text old new r) (sym c.taken.ensures)
    (filter_replied text old new c.in-Ok.filter c.refilter.result
    (filter_text (options_of c.args.host.now.session) (chosen c.options.result.now) text text c.in-Ok.filter refl utf8 c.options.ensures c.in-Ok.ensures.accepted)
    run.taken run.follow run.unchanged run.started)

pub returns-in-Ok-clause-options : goal.returns-in-Ok-clause-options
returns-in-Ok-clause-options c = c.refilter.ensures.options

pub returns-in-Err-clause-reply : goal.returns-in-Err-clause-reply
returns-in-Err-clause-reply c = λ utf8.
    let text = c.args.text.now in
    filter_refused text (point_of c.args.host.now) c.in-Err.fault utf8
    (refused_text (options_of c.args.host.now.session) (chosen c.options.result.now) text text c.in-Err.fault refl c.options.ensures c.in-Err.ensures.refused)
