use Rattle.std.proofs.Common.{◌≤◌, ◌∙◌, ℕ, List, ap, arith, length, refl, [], ◌∷◌, ◌++◌, take, take_all}
use Rattle.jq_pages.specs.Pieces.{piece_view}
use Rattle.jq_pages.specs.Totals.{totals}
use Rattle.jq_pages.specs.private.Pages.{all_pieces}
use Rattle.jq_pages.proofs.Sums.{totals_more}
use Rattle.jq_pages.proofs.moving.totals_now.Goals as goal

whole : (n : ℕ) → n ≤ n
whole n = omega arith

pub returns : goal.returns
returns g c =
    let ps = c.args.pages.now in
    let first = take (length ps) ps in
    totals_more _ _ _ (piece_view c.args.head.now ∷ all_pieces first) (piece_view c.args.head.now ∷ (all_pieces first ++ (piece_view c.args.tail.now ∷ []))) (piece_view c.args.tail.now) c.totals_with-before.ensures.value c.of.ensures.value c.and.ensures refl
    ∙ ap totals (ap (λ (z : List _). piece_view c.args.head.now ∷ (all_pieces z ++ (piece_view c.args.tail.now ∷ []))) (take_all (length ps) ps (whole _)))
