use Rattle.std.proofs.Common.{◌≡◌, ◌∙◌, ap, IfSome, option_map, sym, subst}
use Rattle.jv_data.proofs.shared.Levels.{view-Null}
use Rattle.jq_ast.specs.Named.{named}
use Rattle.jq_folds.specs.Folding.{fold_in}
use Rattle.jq_folds.specs.Pieces.{begun, with_state}
use Rattle.jq_meaning.specs.Runs.{plain}
use Rattle.jq_meaning.specs.machine.Machine.{Produces}
use Rattle.jq_state.specs.Nexts.{stands}
use Rattle.jq_state.specs.declared.next.Next.TheVariants as next
use Rattle.jq_engine.specs.Readiness.{CanGoOn}
use Rattle.jq_fold_steps.specs.Bindings.{env_of}
use Rattle.jq_fold_steps.specs.Folded.{start_of}
use Rattle.jq_fold_steps.specs.private.Entered.{entered_in, IsEntered}
use Rattle.jq_fold_steps.proofs.Engines.{begin-goes, begin-runs, engine-of}
use Rattle.jq_fold_steps.proofs.starting.begin.Goals as goal

pub from_state-requires : goal.from_state-requires
from_state-requires c =
    let x = c.in-Some.field-0 in
    let d = c.args.runner.depth in
    let null_is = c.plain.ensures ∙ ap plain view-Null in
    let h = subst (λ o. IfSome o (IsEntered d)) c.in-Some.is c.in_ok-state.ensures.entered in
    subst (λ i. CanGoOn i x.state (next.Evaluate x.parts.start x.scope c.plain.result)) (sym c.no_inputs-inputs.ensures)
    (begin-goes c.heights_stay_in_range.ensures.start x c.plain.result d h null_is)

pub returns-clause-run : goal.returns-clause-run
returns-clause-run c =
    let x = c.in-Some.field-0 in
    let d = c.args.runner.depth in
    let null_is = c.plain.ensures ∙ ap plain view-Null in
    let h = subst (λ o. IfSome o (IsEntered d)) c.in-Some.is c.in_ok-state.ensures.entered in
    let found = fold_in (named c.args.runner.tree.now) (env_of c.args.runner.bindings.now) in
    let e = subst (λ o. option_map entered_in o ≡ found) c.in-Some.is c.in_ok-state.ensures.fold in
    let run = with_state (begun (start_of d (entered_in x))) in
    engine-of c.from_state.result (λ f. with_state (begun (start_of d f))) (entered_in x) found e
    (c.from_state.ensures run
    (subst (λ i. Produces (stands i x.state (next.Evaluate x.parts.start x.scope c.plain.result)) run) (sym c.no_inputs-inputs.ensures)
    (begin-runs c.the_machine_makes_the_pieces.ensures.begin x c.plain.result d found h null_is e c.requires)))
