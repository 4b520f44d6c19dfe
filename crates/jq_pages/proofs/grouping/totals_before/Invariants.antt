use Rattle.std.proofs.Common.{◌≡◌, ◌*◌, length, take}
use Rattle.jq_pages.specs.Totals.{totals}
use Rattle.jq_pages.specs.private.Bounds.{IsBounded}
use Rattle.jq_pages.specs.private.Pages.{all_pieces}
use Rattle.jq_pages.proofs.grouping.totals_before.Given as goal

abbrev pub invariant-loop-group : goal.invariant-loop-group
invariant-loop-group g l = record {
  value : l.sum ≡ totals (all_pieces (take (128 * l.group-index) l.pages));
  bounded : IsBounded l.sum (length (all_pieces (take (128 * l.group-index) l.pages)));
}
