use Rattle.std.proofs.Common.{◌≡◌, length, take}
use Rattle.jq_pages.specs.Totals.{totals}
use Rattle.jq_pages.specs.private.Bounds.{IsBounded}
use Rattle.jq_pages.specs.private.Pages.{all_pieces}
use Rattle.jq_pages.proofs.summing.totals_in.Given as goal

abbrev pub invariant-loop-page : goal.invariant-loop-page
invariant-loop-page g l = record {
  value : l.sum ≡ totals (all_pieces (take l.page-index l.pages));
  bounded : IsBounded l.sum (length (all_pieces (take l.page-index l.pages)));
}
