use Rattle.std.proofs.Common.{◌∙◌, map, ap}
use Rattle.jv_data.specs.Text.{text_of}
use Rattle.jq_ast.specs.Named.{named}
use Rattle.jq_tree.specs.Tree.{trees_of}
use Rattle.jq_meaning.specs.Env.{with_arguments}
use Rattle.jq_meaning.specs.machine.Evaluating as machine
use Rattle.jq_state.specs.Environments.{count_of}
use Rattle.jq_state.specs.Items.{item_of}
use Rattle.jq_state.specs.Nodes.{env_at}
use Rattle.jq_state.specs.Views.{envs_in, frames_in, forks_in}
use Rattle.jq_operations.proofs.bodies.enter_function.Goals as goal

pub returns : goal.returns
returns c =
    let before = c.args.state.now in
    let after = c.bind_arguments.new.state in
    let p = c.args.scope in
    let t = named c.args.function.now.body in
    let ts = trees_of (map named c.args.arguments.now) in
    let x = item_of c.args.input in (
      c.enter_body.ensures.fits (count_of after.nodes) c.in_ok-env.ensures.within,
      λ inputs.
          let own = env_at (envs_in inputs before) c.args.own in
          let caller = env_at (envs_in inputs before) p.env in
          let inside = with_arguments (map text_of c.args.function.now.parameters.items) ts caller own in
          c.enter_body.ensures.next (envs_in inputs after) (frames_in inputs after) (forks_in inputs after)
          ∙ ap (λ e. machine.enter_body p.depth t e p.level x (frames_in inputs after) (forks_in inputs after)) (c.in_ok-env.ensures.env inputs ∙ ap (λ ps. with_arguments (map text_of ps) ts caller own) c.as_slice.ensures.value)
          ∙ ap (λ k. machine.enter_body p.depth t inside p.level x k (forks_in inputs after)) (c.in_ok-env.ensures.frames inputs)
          ∙ ap (λ fs. machine.enter_body p.depth t inside p.level x (frames_in inputs before) fs) (c.in_ok-env.ensures.forks inputs),
    )
