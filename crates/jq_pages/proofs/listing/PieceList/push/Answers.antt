use Rattle.std.proofs.Common.{[], ◌∷◌, ◌∙◌, ap, length, length-append, subst, sym}
use Rattle.jq_pages.specs.Pieces.{piece_view}
use Rattle.jq_pages.specs.private.Bounds.{IsBounded}
use Rattle.jq_pages.proofs.Folds.{map_snoc}
use Rattle.jq_pages.proofs.Sums.{bounded_joined, totals_more}
use Rattle.jq_pages.proofs.listing.PieceList.push.Goals as goal

pub invariant_of-self-2 : goal.invariant_of-self-2
invariant_of-self-2 c = record {
  summed = totals_more _ _ _ _ _ (piece_view c.args.piece) c.args.self.now.summed c.of.ensures.value c.and-sum.ensures (map_snoc piece_view _ _ _ c.in_ok-push.ensures.items);
  bounded = subst (λ n. IsBounded c.and-sum.result n) (sym (ap length c.in_ok-push.ensures.items ∙ length-append c.args.self.now.items.items (c.args.piece ∷ []))) (bounded_joined _ _ _ _ 1 c.args.self.now.bounded c.of.ensures.bounded c.and-sum.ensures);
}
