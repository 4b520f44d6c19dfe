use Rattle.std.proofs.Common.{refl}
use Rattle.jq_state.specs.declared.next.Next.TheVariants.{Evaluate}
use Rattle.jq_transitions.proofs.Comings.{came}
use Rattle.jq_transitions.proofs.receiving.selecting.slice_start.Goals as goal

pub returns : goal.returns
returns c =
    let e = c.in_ok-push.ensures in
    came c.args.state.now c.push.new.self (Evaluate c.args.to c.args.scope c.into_plain-plain.result) e.envs c.requires e.frames e.forks
    (λ inputs. rw (c.into_plain-plain.ensures, c.in_ok-copy.ensures, c.into_value.ensures) refl)
