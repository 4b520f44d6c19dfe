use Rattle.std.proofs.Common.{sym, subst}
use Rattle.std.specs.Str.{IsUtf8}
use Rattle.jq_script.specs.Serving.{point_of}
use Rattle.jq_script.specs.private.Replies.{IsFilterReplied}
use Rattle.jq_script.proofs.Replying.{filter_unread}
use Rattle.jq_script.proofs.instructions.refilter.Goals as goal

pub returns-in-Ok-clause-reply : goal.returns-in-Ok-clause-reply
returns-in-Ok-clause-reply c =
    let is = c.in-Ok.ensures.cases in
    subst (λ t. IsFilterReplied t (point_of c.args.host.now) (point_of c.refilter_by.new.host) c.refilter_by.result) is.0
    (c.refilter_by.ensures.reply (subst IsUtf8 (sym is.0) is.1))

pub returns-in-Ok-clause-options : goal.returns-in-Ok-clause-options
returns-in-Ok-clause-options c = c.refilter_by.ensures.options

pub returns-in-Err-clause-reply : goal.returns-in-Err-clause-reply
returns-in-Err-clause-reply c = filter_unread c.args.bytes.now (point_of c.args.host.now) _ c.in-Err.ensures.cases.0
