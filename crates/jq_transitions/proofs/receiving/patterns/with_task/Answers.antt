use Rattle.std.proofs.Common.{◌∙◌, ◌++◌, ◌∷◌, [], ap}
use Rattle.jq_state.specs.Steps.{tasks_of}
use Rattle.jq_transitions.proofs.Tasks.{tasks-push}
use Rattle.jq_transitions.proofs.receiving.patterns.with_task.Goals as goal

pub returns-clause-tasks : goal.returns-clause-tasks
returns-clause-tasks c = ap tasks_of (c.in_ok-push.ensures.items ∙ ap (λ r. r.tasks.items ++ c.args.task ∷ []) c.deref_mut.ensures.value) ∙ tasks-push c.args.remaining.value.tasks.items c.args.task
