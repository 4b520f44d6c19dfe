use Rattle.std.proofs.Common.{◌≡◌, ◌++◌, length, map}
use Rattle.jv_data.specs.View.{view}
use Rattle.jq_pages.specs.Folds.{Rises}
use Rattle.jq_pages.specs.private.Pages.{all_inputs, IsFilled, IsPaged}
use Rattle.jq_pages.proofs.building.fill_pages.Given as goal

abbrev pub invariant-loop-value : goal.invariant-loop-value
invariant-loop-value g l = record {
  whole : l.yielded ++ l.value-iterator.rest.items ≡ l.fn.inputs.items;
  inputs : all_inputs l.pages.items ≡ map view l.yielded;
  paged : IsPaged g.S.Steps.seen (g.S.Steps.fold l.fn.steps) (g.S.Steps.seen l.first) l.pages.items;
  filled : ∥ IsFilled l.pages.items ∥₁;
  same : g.S.Steps.fold l.steps ≡ g.S.Steps.fold l.fn.steps;
  rises : Rises (g.S.Steps.starts l.fn.steps) (g.S.Steps.starts l.steps) (length l.yielded);
}
