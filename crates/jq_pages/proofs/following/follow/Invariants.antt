use Rattle.std.proofs.Common.{◌≡◌, ℕ, ◌<◌, length, take}
use Rattle.jq_pages.specs.Folds.{Rises}
use Rattle.jq_pages.specs.private.Reruns.{RunsOver, MeetsAt, count_in}
use Rattle.jq_pages.proofs.following.follow.Given as goal

abbrev pub invariant-loop-page : goal.invariant-loop-page
invariant-loop-page g l = record {
  count : length l.runs.items ≡ l.page-index;
  over : RunsOver g.S.Steps.seen (g.S.Steps.fold l.fn.steps) (g.S.Steps.seen l.exit) l.pages l.runs.items;
  apart : (t : ℕ) → t < l.page-index → MeetsAt g.S.Steps.seen (g.S.Steps.fold l.fn.steps) (g.S.Steps.seen l.exit) (g.S.Steps.seen l.kept) l.pages t → ⊥;
  same : g.S.Steps.fold l.steps ≡ g.S.Steps.fold l.fn.steps;
  rises : Rises (g.S.Steps.starts l.fn.steps) (g.S.Steps.starts l.steps) (count_in (take l.page-index l.pages));
}
