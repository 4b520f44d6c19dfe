use Rattle.std.proofs.Common.{refl, ap}
use Rattle.jv_data.specs.View.{view}
use Rattle.jq_ast.specs.Named.{named_as_pattern}
use Rattle.jq_meaning.specs.machine.State as machine
use Rattle.jq_state.specs.Steps.{binder_of, tasks_of}
use Rattle.jq_state.specs.declared.next.Next.TheVariants.{Matching}
use Rattle.jq_transitions.proofs.Comings.{came_after}
use Rattle.jq_transitions.proofs.receiving.patterns.match_named.Goals as goal

pub returns-in-Value : goal.returns-in-Value
returns-in-Value c =
    let e = c.in_ok-scope-in-Value.ensures in
    let to = machine.matching (named_as_pattern c.args.pattern.now) (view c.in-Value.value) (tasks_of c.args.remaining.value.tasks.items) (binder_of c.args.remaining.value.binder) in
    came_after c.bind_value.new.state (Matching c.args.pattern c.in-Value.value c.args.remaining c.in_ok-scope-in-Value.scope) e.within
    (λ inputs. ap to (e.scope inputs)) e.frames e.forks (λ inputs. rw (c.in-Value.is, c.in_ok-copy-in-Value.ensures) refl)
