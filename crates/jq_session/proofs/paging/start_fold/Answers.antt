use Rattle.std.proofs.Common.{ap, map, subst, sym, ◌∙◌}
use Rattle.jv_data.specs.View.{view}
use Rattle.jq_starts.specs.Starts.{starts_in}
use Rattle.jq_session.specs.Starts.{IsFirstRun}
use Rattle.jq_session.specs.States.{state_in}
use Rattle.jq_session.proofs.Folding.{fold_served}
use Rattle.jq_session.proofs.OnPages.{run_shared}
use Rattle.jq_session.proofs.paging.start_fold.Goals as goal

pub start-requires : goal.start-requires
start-requires c =
    fold_served c.a_compiled_fold_writes_what_its_run_writes.ensures c.args.filter _ _ _ c.requires.mode c.requires.plan c.in-Ok.ensures.first c.in-Ok.ensures.second c.new-steps.ensures.fold

pub returns-in-Ok-start-clause-state : goal.returns-in-Ok-start-clause-state
returns-in-Ok-start-clause-state c = c.in-Ok-start.ensures.state ∙ ap (λ f. state_in f (map view c.args.inputs.items)) c.in-Ok.ensures.first

pub returns-in-Ok-start-clause-started : goal.returns-in-Ok-start-clause-started
returns-in-Ok-start-clause-started c = run_shared c.args.filter _ (map view c.args.inputs.items) _ _ _ c.in-Ok.ensures.first (ap starts_in c.new-steps.ensures.starts) c.in-Ok-start.ensures.started

pub returns-in-Err-start-clause-at_most : goal.returns-in-Err-start-clause-at_most
returns-in-Err-start-clause-at_most c =
    let vs = map view c.args.inputs.items in
    let run = run_shared c.args.filter _ vs _ _ _ c.in-Ok.ensures.first (ap starts_in c.new-steps.ensures.starts) c.in-Err-start.ensures.at_most in
    subst (λ n. IsFirstRun (state_in c.args.filter vs) (starts_in c.args.starts) n) (sym (ap starts_in c.into_starts.ensures)) run
