use Rattle.std.proofs.Common.{refl}
use Rattle.jq_state.specs.declared.next.Next.TheVariants.{Evaluate}
use Rattle.jq_transitions.proofs.Comings.{came}
use Rattle.jq_transitions.proofs.receiving.selecting.slice_end.Goals as goal

pub returns : goal.returns
returns c =
    let e = c.in_ok-push.ensures in
    came c.args.state.now c.push.new.self (Evaluate c.args.target c.args.scope c.args.input) e.envs c.requires e.frames e.forks
    (λ inputs. rw (c.in_ok-key.ensures, c.into_value.ensures) refl)
