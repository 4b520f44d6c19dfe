use Rattle.std.proofs.Common.{◌∙◌, ◌<◌, length, ap, sym, subst, arith}
use Rattle.jv_data.specs.View.{view}
use Rattle.jq_ast.specs.Named.{named}
use Rattle.jq_meaning.specs.machine.State.{evaluate}
use Rattle.jq_state.specs.Environments.{envs_of, count_of}
use Rattle.jq_state.specs.Items.{item_of}
use Rattle.jq_state.specs.Links.{scope_in}
use Rattle.jq_state.specs.Views.{envs_in, frames_in, forks_in}
use Rattle.jq_operations.proofs.Transitions.{came, paths_first}
use Rattle.jq_operations.proofs.builtin_calls.enter_paths.Goals as goal

pub returns-in_ok-push-in-len1-up : goal.returns-in_ok-push-in-len1-up
returns-in_ok-push-in-len1-up c =
    let before = c.args.state.now in
    let p = c.args.scope in
    let ts = c.args.arguments.now in
    let t = c.filter-item.result in
    let same = c.in_ok-push-in-len1-up.ensures.envs in
    let some : 0 < length ts = omega (arith, c.in-len1-up.len_at_least) in (
      subst (λ ns. p.env < count_of ns) (sym same) c.requires,
      λ inputs. came
          (ap (λ ns. evaluate (named t) (scope_in (envs_of inputs ns) p) (item_of c.start.result)) same
          ∙ ap (evaluate (named t) (scope_in (envs_in inputs before) p)) c.start.ensures)
          (c.in_ok-push-in-len1-up.ensures.frames inputs) (c.in_ok-push-in-len1-up.ensures.forks inputs)
          ∙ sym (paths_first ts t (scope_in (envs_in inputs before) p) (view c.args.value) (frames_in inputs before) (forks_in inputs before) some c.filter-item.is),
    )
