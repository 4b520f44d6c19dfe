use Rattle.std.proofs.Common.{ap}
use Rattle.jq_ast.specs.Named.{named}
use Rattle.jq_meaning.specs.machine.State.{evaluate}
use Rattle.jq_state.specs.Links.{scope_in}
use Rattle.jq_state.specs.Views.{envs_in}
use Rattle.jq_state.specs.declared.next.Next.TheVariants.{Evaluate}
use Rattle.jq_operations.proofs.Coming.{comes}
use Rattle.jq_operations.proofs.delivery.refuse_paths.Goals as goal

pub returns : goal.returns
returns c =
    let s = c.args.state.now in
    comes s c.push.new.self (Evaluate c.args.tree c.args.scope c.plain.result) _ _ _ c.push.ensures.envs c.requires
    (λ inputs. ap (evaluate (named c.args.tree.now) (scope_in (envs_in inputs s) c.args.scope)) c.plain.ensures)
    c.in_ok-push.ensures.frames c.in_ok-push.ensures.forks
