use Rattle.std.proofs.Common.{refl, ap}
use Rattle.jq_ast.proofs.shared.Forms.{named-Whole}
use Rattle.jq_meaning.specs.machine.State as machine
use Rattle.jq_state.specs.Steps.{binder_of, tasks_of}
use Rattle.jq_state.specs.declared.next.Next.TheVariants.{Matched}
use Rattle.jq_transitions.proofs.Comings.{came_after}
use Rattle.jq_transitions.proofs.receiving.patterns.match_pattern.Goals as goal

pub returns-in_ok-scope-in-Whole : goal.returns-in_ok-scope-in-Whole
returns-in_ok-scope-in-Whole c =
    let e = c.in_ok-scope-in-Whole.ensures in
    let to = machine.matched (tasks_of c.args.remaining.value.tasks.items) (binder_of c.args.remaining.value.binder) in
    came_after c.bind_value.new.state (Matched c.args.remaining c.in_ok-scope-in-Whole.scope) e.within
    (λ inputs. ap to (e.scope inputs)) e.frames e.forks (λ inputs. rw (c.in-Whole.is, named-Whole) refl)
