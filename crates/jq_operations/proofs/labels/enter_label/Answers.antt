use Rattle.std.proofs.Common.{◌∙◌, ◌+◌, ◌∷◌, ap, sym, add-one}
use Rattle.jv_data.specs.Text.{text_of}
use Rattle.jq_ast.specs.Named.{named}
use Rattle.jq_meaning.specs.Env.{bound, label_of}
use Rattle.jq_meaning.specs.machine.State.{evaluate, label_body}
use Rattle.jq_state.specs.Environments.{envs_of}
use Rattle.jq_state.specs.Items.{item_of}
use Rattle.jq_state.specs.Nodes.{env_at}
use Rattle.jq_state.specs.Views.{envs_in, frames_in}
use Rattle.jq_operations.proofs.Transitions.{came}
use Rattle.jq_operations.proofs.labels.enter_label.Goals as goal

pub returns : goal.returns
returns c =
    let p = c.args.scope in
    let x = c.args.input in
    let before = c.args.state.now in
    let label = label_of (text_of c.args.name.now) p.level in (
      c.in_ok-env.ensures.within,
      λ inputs.
          let inside = c.in_ok-env.ensures.env inputs ∙ ap (λ ns. bound label (env_at (envs_of inputs ns) p.env)) c.in_ok-push.ensures.envs in
          came
          (ap (λ e. evaluate (named c.args.body.now) (record { env = e; depth = p.depth; level = p.level + 1 }) (item_of x)) inside
          ∙ ap (λ k. evaluate (named c.args.body.now) (record { env = bound label (env_at (envs_in inputs before) p.env); depth = p.depth; level = k }) (item_of x)) (add-one p.level))
          (c.in_ok-env.ensures.frames inputs ∙ c.in_ok-push.ensures.frames inputs ∙ ap (λ h. label_body h p.level ∷ frames_in inputs before) (sym (c.height.ensures inputs)))
          (c.in_ok-env.ensures.forks inputs ∙ c.in_ok-push.ensures.forks inputs),
    )
