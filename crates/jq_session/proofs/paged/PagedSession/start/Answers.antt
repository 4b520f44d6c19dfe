use Rattle.std.proofs.Common.{ap, map}
use Rattle.jv_data.specs.View.{view}
use Rattle.jq_pages.specs.Contents.{folded_of}
use Rattle.jq_session.specs.States.{state_in}
use Rattle.jq_session.proofs.OnPages.{first_run, first_served}
use Rattle.jq_session.proofs.paged.PagedSession.start.Goals as goal

pub invariant_of-result : goal.invariant_of-result
invariant_of-result g c =
    record { serves = first_served c.args.filter.value (g.S.Steps.fold c.args.steps) (map view c.args.inputs.items) (folded_of c.in-Ok.pages) c.in-Ok.ensures.folded c.requires }

pub returns-in-Ok-clause-state : goal.returns-in-Ok-clause-state
returns-in-Ok-clause-state g c = ap (λ z. state_in c.args.filter.value z.inputs) c.in-Ok.ensures.folded

pub returns-in-Ok-clause-started : goal.returns-in-Ok-clause-started
returns-in-Ok-clause-started g c = first_run c.args.filter.value (g.S.Steps.fold c.args.steps) c.args.inputs.items _ _ c.requires c.in-Ok.ensures.started

pub returns-in-Err-clause-at_most : goal.returns-in-Err-clause-at_most
returns-in-Err-clause-at_most g c = first_run c.args.filter.value (g.S.Steps.fold c.args.steps) c.args.inputs.items _ _ c.requires c.in-Err.ensures.at_most
