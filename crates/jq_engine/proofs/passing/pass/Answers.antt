use Rattle.std.proofs.Common.{◌≡◌, ◌∙◌, ◌∷◌, sym, ap, subst}
use Rattle.jq_ast.specs.Named.{named}
use Rattle.jq_meaning.specs.machine.State.{pipe_into, state, evaluate, give}
use Rattle.jq_state.specs.Environments.{envs_of}
use Rattle.jq_state.specs.Inputs.{inputs_of}
use Rattle.jq_state.specs.Items.{item_of}
use Rattle.jq_state.specs.Links.{scope_in}
use Rattle.jq_state.specs.Views.{envs_in, frames_in, forks_in}
use Rattle.jq_engine.specs.private.Folds.{source_of}
use Rattle.jq_engine.specs.private.Leading.{Leads, here, by_transition}
use Rattle.jq_engine.proofs.Leading.{goes_later}
use Rattle.jq_engine.proofs.Pipes.{comes_to_pipe}
use Rattle.jq_engine.proofs.passing.pass.Goals as goal

pub returns-in-Some : goal.returns-in-Some
returns-in-Some c =
    let inputs = inputs_of c.args.inputs.now in
    let s = c.args.state.now in
    let skipped = c.skip.new.self in
    let t = named c.in-Some.tree.now in
    let q = c.in-Some.scope in
    let x = item_of c.args.item in
    let frames = c.in-Some.ensures.frames inputs ∙ ap (λ k. pipe_into t (scope_in (envs_in inputs s) q) ∷ k) (sym (c.skip.ensures.frames inputs)) in
    goes_later inputs (state (give x) (frames_in inputs s) (forks_in inputs s)) (state (evaluate t (scope_in (envs_in inputs skipped) q) x) (frames_in inputs skipped) (forks_in inputs skipped)) c.evaluate.new.state c.evaluate.result
    (by_transition (comes_to_pipe inputs s skipped t q x c.skip.ensures.envs frames (c.skip.ensures.forks inputs)) here) c.evaluate.ensures

pub returns-in-Some-top_step : goal.returns-in-Some-top_step
returns-in-Some-top_step c =
    let inputs = inputs_of c.args.inputs.now in
    let s = c.args.state.now in
    let skipped = c.skip-in-Some-top_step.new.self in
    let f = c.in-Some-top_step.step in
    let q = c.in-Some-top_step.scope in
    let x = item_of c.args.item in
    let u = c.run_step.new.state in
    let r = c.in_ok-progress.progress in
    let first : frames_in inputs s ≡ source_of f (scope_in (envs_in inputs skipped) q) ∷ frames_in inputs skipped =
    c.in-Some-top_step.ensures.frames inputs
    ∙ ap (λ k. source_of f (scope_in (envs_in inputs s) q) ∷ k) (sym (c.skip-in-Some-top_step.ensures.frames inputs))
    ∙ ap (λ ns. source_of f (scope_in (envs_of inputs ns) q) ∷ frames_in inputs skipped) (sym c.skip-in-Some-top_step.ensures.envs) in
    subst (λ k. Leads inputs (state (give x) k (forks_in inputs s)) u r) (sym first)
    (subst (λ fs. Leads inputs (state (give x) (source_of f (scope_in (envs_in inputs skipped) q) ∷ frames_in inputs skipped) fs) u r) (c.skip-in-Some-top_step.ensures.forks inputs) c.in_ok-progress.ensures)

pub returns : goal.returns
returns c = c.in_ok-progress-2.ensures (inputs_of c.args.inputs.now)
