use Rattle.std.proofs.Common.{refl}
use Rattle.jq_state.specs.declared.next.Next.TheVariants.{Evaluate, GoBack}
use Rattle.jq_transitions.proofs.Comings.{came}
use Rattle.jq_transitions.proofs.receiving.holding.fold_update.Goals as goal

pub returns-in_ok-replace_cell-in-Reducing : goal.returns-in_ok-replace_cell-in-Reducing
returns-in_ok-replace_cell-in-Reducing c =
    let e = c.in_ok-replace_cell-in-Reducing.ensures in
    came c.args.state.now c.replace_cell.new.self GoBack e.envs tt e.frames e.forks (λ inputs. rw c.in-Reducing.is refl)

pub returns-in_ok-replace_cell-in-Extracting : goal.returns-in_ok-replace_cell-in-Extracting
returns-in_ok-replace_cell-in-Extracting c =
    let e = c.in_ok-replace_cell-in-Extracting.ensures in
    came c.args.state.now c.replace_cell-in-Extracting.new.self (Evaluate c.in-Extracting.extract c.args.scope c.args.item) e.envs c.requires e.frames e.forks
    (λ inputs. rw (c.in-Extracting.is, c.in_ok-copy-in-Extracting.ensures) refl)
