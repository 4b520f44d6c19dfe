use Rattle.std.proofs.Common.{◌≡◌, ◌++◌, take, drop, map}
use Rattle.jq_pages.specs.private.Reruns.{renewed, run_in}
use Rattle.jq_pages.proofs.placing.swap_runs.Given as goal

abbrev pub invariant-loop-at : goal.invariant-loop-at
invariant-loop-at g l = record {
  pages : l.pages.items ≡ take l.fn.from l.fn.pages.items ++ renewed (drop l.fn.from l.fn.pages.items) (take l.at l.fn.runs.items);
  runs : l.runs.items ≡ map run_in (take l.at (drop l.fn.from l.fn.pages.items)) ++ drop l.at l.fn.runs.items;
}
