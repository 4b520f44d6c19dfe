use Rattle.std.proofs.Common.{◌≡◌, Some, IfSome, option_map, sym, subst}
use Rattle.jv_data.specs.View.{view}
use Rattle.jq_ast.specs.Named.{named}
use Rattle.jq_folds.specs.Folding.{fold_in}
use Rattle.jq_folds.specs.Pieces.{with_state}
use Rattle.jq_meaning.specs.Runs.{plain}
use Rattle.jq_meaning.specs.machine.Machine.{Produces}
use Rattle.jq_state.specs.Nexts.{stands}
use Rattle.jq_state.specs.declared.next.Next.TheVariants as next
use Rattle.jq_engine.specs.Readiness.{CanGoOn}
use Rattle.jq_fold_steps.specs.Bindings.{env_of}
use Rattle.jq_fold_steps.specs.Folded.{steps_at}
use Rattle.jq_fold_steps.specs.private.Entered.{entered_in, IsEntered}
use Rattle.jq_fold_steps.specs.private.Parts.{parts_in}
use Rattle.jq_fold_steps.proofs.Engines.{scope_of, IsTaken, step-goes, step-runs, engine-of}
use Rattle.jq_meaning.specs.Runs.{none}
use Rattle.jq_fold_steps.proofs.starting.step.Goals as goal

pub from_state-requires : goal.from_state-requires
from_state-requires c =
    let x = c.in-Some.field-0 in
    let taken : IsTaken c.take_input.new.state (parts_in x.parts) (scope_of x) (plain (view c.args.last)) (view c.args.input) = (c.in_ok-take_input.ensures.frames none, c.in_ok-take_input.ensures.forks none) in
    subst (λ i. CanGoOn i c.take_input.new.state (next.Give c.plain.result)) (sym c.no_inputs-inputs.ensures)
    (step-goes c.the_machine_makes_the_pieces.ensures.fits c.take_input.new.state c.plain.result (parts_in x.parts) (scope_of x) (plain (view c.args.last)) (view c.args.input) c.plain.ensures taken)

pub returns-clause-run : goal.returns-clause-run
returns-clause-run c =
    let x = c.in-Some.field-0 in
    let d = c.args.runner.depth in
    let h = subst (λ o. IfSome o (IsEntered d)) c.in-Some.is c.in_ok-state.ensures.entered in
    let found = fold_in (named c.args.runner.tree.now) (env_of c.args.runner.bindings.now) in
    let e = subst (λ o. option_map entered_in o ≡ found) c.in-Some.is c.in_ok-state.ensures.fold in
    let taken : IsTaken c.take_input.new.state (parts_in x.parts) (scope_of x) (plain (view c.args.last)) (view c.args.input) = (c.in_ok-take_input.ensures.frames none, c.in_ok-take_input.ensures.forks none) in
    let last = plain (view c.args.last) in
    let input = view c.args.input in
    let run = with_state ((steps_at d (Some (entered_in x))).step last input) in
    engine-of c.from_state.result (λ f. with_state ((steps_at d (Some f)).step last input)) (entered_in x) found e
    (c.from_state.ensures run
    (subst (λ i. Produces (stands i c.take_input.new.state (next.Give c.plain.result)) run) (sym c.no_inputs-inputs.ensures)
    (step-runs c.the_machine_makes_the_pieces.ensures.step x c.take_input.new.state c.plain.result d last input h c.plain.ensures taken)))
