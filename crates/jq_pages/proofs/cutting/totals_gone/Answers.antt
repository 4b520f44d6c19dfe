use Rattle.std.proofs.Common.{◌++◌, ap}
use Rattle.jq_pages.specs.Pieces.{piece_view}
use Rattle.jq_pages.specs.private.Cuts.{closing_if}
use Rattle.jq_pages.specs.private.Pages.{all_pieces}
use Rattle.jq_pages.proofs.Sums.{totals_more}
use Rattle.jq_pages.proofs.cutting.totals_gone.Goals as goal

pub returns-in-Some : goal.returns-in-Some
returns-in-Some g c = totals_more _ _ _ _ _ (piece_view c.args.tail.now) c.totals_in-gone.ensures.value c.of.ensures.value c.and.ensures (ap (λ z. all_pieces c.args.pages.now ++ closing_if z (piece_view c.args.tail.now)) c.in-Some.is)
