use Rattle.std.proofs.Common.{◌∙◌, ap}
use Rattle.jq_resolver.specs.private.Waiting.{visits_waiting, uses_waiting}
use Rattle.jq_resolver.specs.declared.uses.Waiting.{Waiting}
use Rattle.jq_resolver.proofs.Walking.{visits_push, uses_push}
use Rattle.jq_resolver.proofs.uses.Uses.push.Goals as goal

pub returns-clause-uses : goal.returns-clause-uses
returns-clause-uses c =
    let w : Waiting = record { part = c.args.part; around = c.args.around } in
    ap uses_waiting c.in_ok-push.ensures.items ∙ uses_push c.args.self.now.waiting.items w

pub returns-clause-visits : goal.returns-clause-visits
returns-clause-visits c =
    let w : Waiting = record { part = c.args.part; around = c.args.around } in
    ap visits_waiting c.in_ok-push.ensures.items ∙ visits_push c.args.self.now.waiting.items w
