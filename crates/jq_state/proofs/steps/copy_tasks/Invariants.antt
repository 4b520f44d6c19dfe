use Rattle.std.proofs.Common.{◌≡◌, map, take}
use Rattle.jq_state.specs.Steps.{task_of}
use Rattle.jq_state.proofs.steps.copy_tasks.Given as goal

abbrev pub invariant-loop-task : goal.invariant-loop-task
invariant-loop-task l = map task_of l.copied.items ≡ map task_of (take l.task-index l.tasks)
