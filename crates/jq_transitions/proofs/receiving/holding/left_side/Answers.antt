use Rattle.std.proofs.Common.{◌∙◌, refl, sym, ap}
use Rattle.jv_data.proofs.shared.Levels.{view-Null}
use Rattle.jq_meaning.specs.machine.State as machine
use Rattle.jq_state.specs.Views.{frames_in, forks_in}
use Rattle.jq_state.specs.declared.next.Next.TheVariants.{Give, GoBack}
use Rattle.jq_transitions.proofs.Cells.{same_cell}
use Rattle.jq_transitions.proofs.Comings.{came}
use Rattle.jq_transitions.proofs.receiving.holding.left_side.Goals as goal

pub returns-then-not-is_true : goal.returns-then-not-is_true
returns-then-not-is_true c =
    let s = c.args.state.now in
    came s s GoBack refl tt (λ inputs. refl) (λ inputs. refl)
    (λ inputs. rw (sym c.is_true.ensures ∙ c.if-not-is_true.true) (ap (machine.state machine.go_back (frames_in inputs s)) (sym (same_cell c.args.height (forks_in inputs s)))))

pub returns : goal.returns
returns c =
    let e = c.in_ok-replace_cell.ensures in
    came c.args.state.now c.replace_cell.new.self (Give c.args.item) e.envs tt e.frames e.forks
    (λ inputs. rw (sym c.is_true.ensures ∙ c.if-not-is_true.false, c.plain.ensures, view-Null) refl)
