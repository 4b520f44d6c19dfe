use Rattle.std.proofs.Common.{◌≡◌, ◌∙◌, ◌∷◌, [], refl, sym, ap}
use Rattle.std.proofs.lemmas.Result.{IfOk-weaker}
use Rattle.jv_data.specs.Text.{text_of}
use Rattle.jq_meaning.specs.Env.{bound, value_of}
use Rattle.jq_meaning.specs.Runs.{value_in}
use Rattle.jv_data.specs.View.{view}
use Rattle.jq_meaning.specs.machine.Matching.{checked}
use Rattle.jq_meaning.specs.machine.Operations.{state_in}
use Rattle.jq_meaning.specs.machine.Stack.{cell_at, set_cell}
use Rattle.jq_meaning.specs.machine.State.{with_env, fold_step, matched, give, state, moves}
use Rattle.jq_state.specs.Environments.{envs_of}
use Rattle.jq_state.specs.Inputs.{inputs_of}
use Rattle.jq_state.specs.Items.{item_of, keys_of}
use Rattle.jq_state.specs.Links.{scope_in}
use Rattle.jq_state.specs.Nodes.{env_at}
use Rattle.jq_state.specs.Steps.{fold_of}
use Rattle.jq_state.specs.Views.{envs_in, frames_in, forks_in}
use Rattle.jq_state.proofs.shared.Items.{checked_path, checked_plain, value_of_item}
use Rattle.jq_engine.specs.private.Folds.{source_of}
use Rattle.jq_engine.specs.private.Leading.{here, by_transition}
use Rattle.jq_engine.proofs.Leading.{later_leads}
use Rattle.jq_engine.proofs.Updates.{update_same}
use Rattle.jq_engine.proofs.folds.run_step.Goals as goal
use Rattle.jq_engine.proofs.folds.run_step.Goals.{then-is_present+in_ok-fork, else-is_present}

pub returns : goal.returns
returns c =
    let inputs = inputs_of c.args.inputs.now in
    let s = c.args.state.now in
    let h = c.args.step.height in
    let f = fold_of c.args.step.fold in
    let n = text_of c.args.step.name.now in
    let x = item_of c.args.item in
    let p = scope_in (envs_in inputs s) c.args.scope in
    let k = frames_in inputs s in
    let fs = forks_in inputs s in
    let added = c.in_ok-env.ensures in
    let took = c.take_state-current.ensures in
    let y = c.take_state-current.result in
    let t = c.if-is_present.state in
    let frames = took.frames inputs ∙ added.frames inputs in
    let forks = took.forks inputs ∙ ap (set_cell h []) (added.forks inputs) in
    let reached : (t.nodes ≡ c.add.new.self.nodes) × (frames_in inputs t ≡ k) × (forks_in inputs t ≡ checked (item_of y) h k (set_cell h [] fs)) =
    elim c.if-is_present.branch [
      | then-is_present+in_ok-fork w ↦ rw w.state-is (
        w.in_ok-fork.ensures.envs ∙ took.envs,
        w.in_ok-fork.ensures.frames inputs ∙ frames,
        w.in_ok-fork.ensures.forks inputs ∙ rw (w.new.ensures.items, frames, forks)
            (sym (checked_path (view y.value) (keys_of y.path) h k (set_cell h [] fs) (sym c.is_present.ensures ∙ w.if-is_present.true))),
      )
      | else-is_present w ↦ rw w.state-is (
        took.envs,
        frames,
        forks ∙ sym (checked_plain (view y.value) (keys_of y.path) h k (set_cell h [] fs) (sym c.is_present.ensures ∙ w.if-is_present.false)),
      )
    ] in
    let item : item_of y ≡ state_in (cell_at h fs) = took.item inputs ∙ ap (λ gs. state_in (cell_at h gs)) (added.forks inputs) in
    let env : env_at (envs_in inputs t) c.in_ok-env.env ≡ bound (value_of n (value_in x)) p.env =
    ap (λ ns. env_at (envs_of inputs ns) c.in_ok-env.env) reached.0 ∙ added.env inputs ∙ ap (λ v. bound (value_of n v) p.env) (sym (value_of_item c.args.item)) in
    let before = state (matched [] (fold_step h f) (with_env (bound (value_of n (value_in x)) p.env) p)) k fs in
    let same = update_same c.update_of.ensures (ap (λ e. with_env e p) env) item reached.1 (reached.2 ∙ ap (λ z. checked z h k (set_cell h [] fs)) item) in
    IfOk-weaker c.run_part.result _ _
    (λ r go. later_leads inputs (state (give x) (source_of c.args.step p ∷ k) fs) before c.run_part.new.state r (by_transition refl (by_transition refl here)) (go before (ap moves (sym same)))) c.run_part.ensures
