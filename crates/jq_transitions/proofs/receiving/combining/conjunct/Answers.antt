use Rattle.std.proofs.Common.{◌∙◌, refl, sym}
use Rattle.jq_state.specs.declared.next.Next.TheVariants.{Evaluate}
use Rattle.jq_transitions.proofs.Comings.{came}
use Rattle.jq_transitions.proofs.receiving.combining.conjunct.Goals as goal

pub returns : goal.returns
returns c =
    let e = c.in_ok-push.ensures in
    came c.args.state.now c.push.new.self (Evaluate c.args.right c.args.scope c.args.input) e.envs c.requires e.frames e.forks (λ inputs. rw (sym c.is_true.ensures ∙ c.if-not-is_true.false) refl)
