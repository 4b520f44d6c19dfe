-- A task that is added at the end is the next one.
use Rattle.std.proofs.Common.{◌≡◌, ◌∙◌, List, [], ◌∷◌, ◌++◌, map, reverse, ap}
use Rattle.std.proofs.lemmas.List.{map-append, reverse-append}
use Rattle.jq_state.specs.Steps.{task_of, tasks_of}
use Rattle.jq_state.specs.declared.steps.Task.{Task}

pub tasks-push : (ts : List Task) (t : Task) → tasks_of (ts ++ t ∷ []) ≡ task_of t ∷ tasks_of ts
tasks-push ts t = ap reverse (map-append task_of ts (t ∷ [])) ∙ reverse-append (map task_of ts) (task_of t ∷ [])
