use Rattle.std.proofs.Common.{ap, map, refl, ◌∙◌}
use Rattle.jv_data.specs.View.{view}
use Rattle.jq_session.specs.States.{state_in}
use Rattle.jq_session.proofs.UpToHalt.{until_halt_served}
use Rattle.jq_session.proofs.OnPages.{run_shared}
use Rattle.jq_session.proofs.paging.start_until_halt.Goals as goal

pub start-requires : goal.start-requires
start-requires c =
    until_halt_served c.args.filter _ _ c.requires.mode c.requires.halts c.in-Ok.ensures.first c.in-Ok.ensures.second

pub returns-in-Ok-start-clause-state : goal.returns-in-Ok-start-clause-state
returns-in-Ok-start-clause-state c = c.in-Ok-start.ensures.state ∙ ap (λ f. state_in f (map view c.args.inputs.items)) c.in-Ok.ensures.first

pub returns-in-Ok-start-clause-started : goal.returns-in-Ok-start-clause-started
returns-in-Ok-start-clause-started c = run_shared c.args.filter _ (map view c.args.inputs.items) _ _ _ c.in-Ok.ensures.first refl c.in-Ok-start.ensures.started

pub returns-in-Err-start-clause-at_most : goal.returns-in-Err-start-clause-at_most
returns-in-Err-start-clause-at_most c = run_shared c.args.filter _ (map view c.args.inputs.items) _ _ _ c.in-Ok.ensures.first refl c.in-Err-start.ensures.at_most
