use Rattle.std.proofs.Common.{◌≡◌, IfSome, option_map, sym, subst}
use Rattle.jv_data.specs.View.{view}
use Rattle.jq_ast.specs.Named.{named}
use Rattle.jq_folds.specs.Folding.{fold_in}
use Rattle.jq_meaning.specs.Runs.{plain}
use Rattle.jq_meaning.specs.machine.Machine.{Produces}
use Rattle.jq_state.specs.Nexts.{stands}
use Rattle.jq_state.specs.Views.{envs_in}
use Rattle.jq_state.specs.Environments.{count_of}
use Rattle.jq_engine.specs.Readiness.{CanGoOn}
use Rattle.jq_fold_steps.specs.Bindings.{env_of}
use Rattle.jq_fold_steps.specs.Folded.{steps_at}
use Rattle.jq_fold_steps.specs.private.Entered.{entered_in, IsEntered}
use Rattle.jq_fold_steps.proofs.Engines.{scope_of, close-goes, close-runs}
use Rattle.jq_meaning.specs.Runs.{none}
use Rattle.std.proofs.Common.{◌∙◌, ap}
use Rattle.jq_fold_steps.specs.private.Starting.{closing_next}
use Rattle.jq_fold_steps.specs.private.Parts.{closing_of}
use Rattle.jq_fold_steps.proofs.starting.close.Goals as goal

pub from_state-requires : goal.from_state-requires
from_state-requires c =
    let x = c.in-Some.field-0 in
    let d = c.args.runner.depth in
    let h = subst (λ o. IfSome o (IsEntered d)) c.in-Some.is c.in_ok-state.ensures.entered in
    let last = plain (view c.args.last) in
    let next = c.after_fold-next.ensures.next (envs_in none x.state) ∙ ap (closing_next (closing_of x.parts.closing) (scope_of x)) c.plain.ensures in
    subst (λ i. CanGoOn i x.state c.after_fold-next.result) (sym c.no_inputs-inputs.ensures)
    (close-goes c.heights_stay_in_range.ensures.start x c.after_fold-next.result last d h next (c.after_fold-next.ensures.fits (count_of x.state.nodes) h.within))

pub returns-clause-run : goal.returns-clause-run
returns-clause-run c =
    let x = c.in-Some.field-0 in
    let d = c.args.runner.depth in
    let h = subst (λ o. IfSome o (IsEntered d)) c.in-Some.is c.in_ok-state.ensures.entered in
    let found = fold_in (named c.args.runner.tree.now) (env_of c.args.runner.bindings.now) in
    let e = subst (λ o. option_map entered_in o ≡ found) c.in-Some.is c.in_ok-state.ensures.fold in
    let last = plain (view c.args.last) in
    let next = c.after_fold-next.ensures.next (envs_in none x.state) ∙ ap (closing_next (closing_of x.parts.closing) (scope_of x)) c.plain.ensures in
    let run = (steps_at d found).close last in
    c.from_state.ensures run
    (subst (λ i. Produces (stands i x.state c.after_fold-next.result) run) (sym c.no_inputs-inputs.ensures)
    (close-runs c.the_machine_makes_the_run_of_a_filter.ensures.in_a_scope x c.after_fold-next.result last d found h next c.in-Nothing.is e))
