use Rattle.std.proofs.Common.{refl}
use Rattle.jq_state.specs.declared.next.Next.TheVariants.{GoBack}
use Rattle.jq_transitions.proofs.Comings.{came}
use Rattle.jq_transitions.proofs.receiving.holding.collect.Goals as goal

pub returns : goal.returns
returns c =
    let e = c.in_ok-add_to_cell.ensures in
    came c.args.state.now c.add_to_cell.new.self GoBack e.envs tt e.frames e.forks (λ inputs. rw c.into_plain.ensures refl)
