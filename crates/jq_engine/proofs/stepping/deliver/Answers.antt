use Rattle.std.proofs.Common.{IfOk, ◌≡◌, ◌∙◌, ◌∷◌, sym, ap, subst}
use Rattle.std.proofs.lemmas.Result.{IfOk-weaker}
use Rattle.jq_meaning.specs.machine.State.{state, give}
use Rattle.jq_state.specs.Environments.{envs_of}
use Rattle.jq_state.specs.Inputs.{inputs_of}
use Rattle.jq_state.specs.Items.{item_of}
use Rattle.jq_state.specs.Links.{scope_in}
use Rattle.jq_state.specs.Views.{envs_in, frames_in, forks_in}
use Rattle.jq_engine.specs.private.Folds.{source_of}
use Rattle.jq_engine.specs.private.Leading.{Leads, at_item}
use Rattle.jq_engine.proofs.Leading.{leads_later, later_leads}
use Rattle.jq_engine.proofs.stepping.deliver.Goals as goal

pub returns-in-Some : goal.returns-in-Some
returns-in-Some c =
    let inputs = inputs_of c.args.inputs.now in
    let s = c.pass_through.new.state in
    let skipped = c.skip.new.self in
    let f = c.in-Some.step in
    let q = c.in-Some.scope in
    let x = item_of c.args.item in
    let u = c.run_step.new.state in
    let first : frames_in inputs s ≡ source_of f (scope_in (envs_in inputs skipped) q) ∷ frames_in inputs skipped =
    c.in-Some.ensures.frames inputs
    ∙ ap (λ k. source_of f (scope_in (envs_in inputs s) q) ∷ k) (sym (c.skip.ensures.frames inputs))
    ∙ ap (λ ns. source_of f (scope_in (envs_of inputs ns) q) ∷ frames_in inputs skipped) (sym c.skip.ensures.envs) in
    leads_later inputs (at_item inputs c.args.state.now x) (at_item inputs s x) u c.run_step.result (c.pass_through.ensures inputs x)
    (subst (λ k. IfOk c.run_step.result (Leads inputs (state (give x) k (forks_in inputs s)) u)) (sym first)
    (subst (λ fs. IfOk c.run_step.result (Leads inputs (state (give x) (source_of f (scope_in (envs_in inputs skipped) q) ∷ frames_in inputs skipped) fs) u)) (c.skip.ensures.forks inputs) c.run_step.ensures))

pub returns : goal.returns
returns c =
    let inputs = inputs_of c.args.inputs.now in
    let x = item_of c.args.item in
    IfOk-weaker c.give.result _ _
    (λ r g. later_leads inputs (at_item inputs c.args.state.now x) (at_item inputs c.pass_through.new.state x) c.give.new.state r (c.pass_through.ensures inputs x) (g inputs)) c.give.ensures
