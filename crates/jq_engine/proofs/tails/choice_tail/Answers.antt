use Rattle.std.proofs.Common.{◌≡◌, ◌∙◌, ◌∷◌, sym, ap, subst}
use Rattle.jv_data.specs.View.{view}
use Rattle.jq_ast.specs.Named.{named}
use Rattle.jq_tree.specs.Tree.{choice}
use Rattle.jq_meaning.specs.Meaning.{meaning}
use Rattle.jq_meaning.specs.Runs.{plain, one}
use Rattle.jq_meaning.specs.machine.State.{test, state, give, evaluate, moves}
use Rattle.jq_single.specs.Single.{Ends}
use Rattle.jq_state.specs.Environments.{envs_of}
use Rattle.jq_state.specs.Inputs.{inputs_of}
use Rattle.jq_state.specs.Items.{item_of}
use Rattle.jq_state.specs.Links.{scope_in}
use Rattle.jq_state.specs.Nodes.{env_at}
use Rattle.jq_state.specs.Views.{envs_in, frames_in, forks_in}
use Rattle.jq_state.specs.declared.environments.Nodes.{Nodes}
use Rattle.jq_state.specs.declared.items.Item as items
use Rattle.jq_engine.specs.private.Leading.{HasStopped, at_filter, gives, here, by_transition, by_run}
use Rattle.jq_engine.proofs.Waiting.{value_alone}
use Rattle.jq_engine.proofs.tails.choice_tail.Goals as goal

pub returns-in-Ok : goal.returns-in-Ok
returns-in-Ok c =
    let inputs = inputs_of c.args.inputs.now in
    let s = c.args.state.now in
    let q = c.args.scope in
    let p = scope_in (envs_in inputs s) q in
    let k = frames_in inputs s in
    let fs = forks_in inputs s in
    let t = named c.args.condition.now in
    let f = named c.args.holds.now in
    let g = named c.args.fails.now in
    let x = item_of c.args.input.now in
    let v = view c.in_ok-value.value in
    let y = plain (view c.change.new.value) in
    let m : meaning q.depth t (env_at (envs_in inputs s) q.env) q.level (plain v) ≡ one y =
    subst (λ (ns : Nodes). meaning q.depth t (env_at (envs_of inputs ns) q.env) q.level (plain v) ≡ one y) c.nodes.ensures (c.in-Ok.ensures.runs inputs q.level) in (
      c.requires,
      record {
        from = state (give y) (test f g p x ∷ k) fs;
        advances = by_transition (ap (λ z. moves (state (evaluate t p z) (test f g p x ∷ k) fs)) (value_alone c.args.input.now v c.in_ok-value.ensures)) (by_run (gives y m) here);
        steps = ap (λ b. moves (state (evaluate b p x) k fs)) (sym c.branch_for-branch.ensures);
      },
    )

pub returns-then-not-tries_plain : goal.returns-then-not-tries_plain
returns-then-not-tries_plain c =
    let inputs = inputs_of c.args.inputs.now in
    let s = c.args.state.now in
    let q = c.args.scope in
    let p = scope_in (envs_in inputs s) q in
    let t = named c.args.condition.now in
    let f = named c.args.holds.now in
    let g = named c.args.fails.now in
    let x = item_of c.args.input.now in
    let same = value_alone c.args.input.now (view c.in_ok-value.value) c.in_ok-value.ensures ∙ sym c.plain.ensures in
    let first =
    ap (λ z. moves (state (evaluate t p z) (test f g p x ∷ frames_in inputs s) (forks_in inputs s))) same
    ∙ ap (λ (z : items.Item). moves (state (evaluate t p (item_of c.plain.result)) (test f g p (item_of z) ∷ frames_in inputs s) (forks_in inputs s))) (sym c.taken.ensures) in
    c.in_ok-progress.ensures inputs (at_filter inputs s (choice t f g) q x) first

pub returns : goal.returns
returns c =
    let inputs = inputs_of c.args.inputs.now in
    let s = c.args.state.now in
    let q = c.args.scope in
    let p = scope_in (envs_in inputs s) q in
    let t = named c.args.condition.now in
    let f = named c.args.holds.now in
    let g = named c.args.fails.now in
    let x = item_of c.args.input.now in
    let v = view c.in_ok-value.value in
    let stop = c.in-Err.stop in
    let h : HasStopped inputs s t q v stop = subst (λ (ns : Nodes). Ends stop (meaning q.depth t (env_at (envs_of inputs ns) q.env) q.level (plain v))) c.nodes.ensures (c.in-Err.ensures.runs inputs q.level) in
    let first =
    ap (λ z. moves (state (evaluate t p z) (test f g p x ∷ frames_in inputs s) (forks_in inputs s))) (value_alone c.args.input.now v c.in_ok-value.ensures)
    ∙ ap (λ (z : items.Item). moves (state (evaluate t p (plain v)) (test f g p (item_of z) ∷ frames_in inputs s) (forks_in inputs s))) (sym c.taken-in-Err.ensures) in
    c.in_ok-progress-in-Err.ensures v h c.in-Err.ensures.keeps (at_filter inputs s (choice t f g) q x) first
