use Rattle.std.proofs.Common.{ap}
use Rattle.jq_ast.specs.Named.{named}
use Rattle.jq_meaning.specs.machine.State.{evaluate}
use Rattle.jq_state.specs.Items.{item_of}
use Rattle.jq_operations.proofs.Transitions.{came}
use Rattle.jq_operations.proofs.calls.enter_define.Goals as goal

pub returns : goal.returns
returns c =
    let p = c.args.scope in
    let x = c.args.input in (
      c.in_ok-env.ensures.within,
      λ inputs. came
          (ap (λ e. evaluate (named c.args.rest.now) (record { env = e; depth = p.depth; level = p.level }) (item_of x)) (c.in_ok-env.ensures.env inputs))
          (c.in_ok-env.ensures.frames inputs) (c.in_ok-env.ensures.forks inputs),
    )
