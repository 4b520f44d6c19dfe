use Rattle.std.proofs.Common.{◌≡◌, ◌∙◌, subst}
use Rattle.jv_data.specs.View.{view}
use Rattle.jq_pages.specs.Pieces.{piece_view}
use Rattle.jq_filters.specs.Filters.{filter_job}
use Rattle.jq_filters.specs.declared.filters.Filter.{Filter}
use Rattle.jq_session.specs.Halting.{halting_step}
use Rattle.jq_session.proofs.UpToHalt.{halts_after_run}
use Rattle.jq_session.proofs.until_halt.UntilHaltSteps.step.Goals as goal

pub returns-clause-state : goal.returns-clause-state
unfolding piece_view
returns-clause-state c =
    let v = view c.args.input.now in
    let halted = c.args.halted.now in
    let after = halts_after_run (filter_job c.deref.result.now) halted v (piece_view c.in_ok-piece.piece) c.if-halted.false c.in_ok-piece.ensures.piece in
    subst (λ (f : Filter). c.is_some-halts.result ≡ (halting_step (filter_job f) halted v).1) c.deref.ensures (c.is_some-halts.ensures ∙ after)
