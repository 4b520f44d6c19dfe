use Rattle.std.proofs.Common.{◌≡◌, ◌+◌, ◌<◌, ◌∷◌, [], length, get_or, ap, sym, subst, ◌∙◌, arith, None}
use Rattle.std.specs.Prelude.{is_some}
use Rattle.jv_data.specs.View.{view}
use Rattle.jq_meaning.specs.Builtins.{plain_items}
use Rattle.jq_meaning.specs.Env.{find_inputs}
use Rattle.jq_meaning.specs.Runs.{plain}
use Rattle.jq_meaning.specs.machine.State.{give, remaining, fork, state}
use Rattle.jq_state.specs.Environments.{count_of}
use Rattle.jq_state.specs.Forks.{run_after}
use Rattle.jq_state.specs.Inputs.{inputs_of}
use Rattle.jq_state.specs.Nodes.{env_at}
use Rattle.jq_state.specs.Views.{envs_in, frames_in, forks_in}
use Rattle.jq_operations.proofs.Coming.{goal_with}
use Rattle.jq_operations.proofs.Delivering.{input_before_others}
use Rattle.jq_operations.proofs.delivery.deliver_inputs.Goals as goal
use Rattle.jq_operations.proofs.delivery.deliver_inputs.Goals.{else-index-len-via-then-index-len+else-is_none, else-index-len-via-else-index-len}

pub returns : goal.returns
returns c =
    let s = c.args.state.now in
    let inputs = inputs_of c.args.inputs.now in
    let values = c.args.inputs.now.values.items in
    let fault = c.args.inputs.now.fault in
    let value = c.in-Some.value.now in
    let i = c.args.index in
    let first : 0 < count_of s.nodes = omega arith in
    let within : i < length values = subst (λ vs. i < length vs) c.deref.ensures.value c.in-Some.ensures.lookup.3.0 in
    let at : get_or values i value ≡ value = ap (λ vs. get_or vs i value) (sym c.deref.ensures.value) ∙ sym c.in-Some.ensures.lookup.1 in
    let more : i + 1 ≡ length values → fault ≡ None → ⊥ = λ p q. elim c.else-index-len.branch [
      | else-index-len-via-then-index-len+else-is_none w ↦ let h = ap is_some q in absurd (grind (arith, h, w.if-is_none.ensures))
      | else-index-len-via-else-index-len w ↦ w.if-index-len.false (omega (arith, p, c.len.ensures, c.args.inputs.now.values.ok.0))
    ] in
    goal_with c.give_first.result _ inputs _ c.give_first.new.state
    (ap (λ x. state (give x) (frames_in inputs s) (fork (remaining (run_after (i + 1) (plain_items (find_inputs (env_at (envs_in inputs s) 0))))) [] (frames_in inputs s) ∷ forks_in inputs s)) (c.plain-item.ensures ∙ ap plain c.in_ok-copy.ensures)
    ∙ ap (λ r. state (give (plain (view value))) (frames_in inputs s) (fork (remaining (run_after (i + 1) (plain_items r))) [] (frames_in inputs s) ∷ forks_in inputs s)) (c.inputs_stand_outermost.ensures inputs 0 first)
    ∙ input_before_others values i value fault (frames_in inputs s) (forks_in inputs s) within at more)
    c.give_first.ensures
