use Rattle.std.proofs.Common.{◌≡◌, ◌+◌, ◌-◌, ◌≤◌, ◌∙◌, ◌++◌, ap, arith, drop, length, take}
use Rattle.jq_pages.specs.Pieces.{piece_view}
use Rattle.jq_pages.specs.Totals.{totals}
use Rattle.jq_pages.specs.private.Cuts.{closing_if}
use Rattle.jq_pages.specs.private.Pages.{all_pieces}
use Rattle.jq_pages.proofs.Cuts.{cut_by_totals}
use Rattle.jq_pages.proofs.Sums.{pieces_part}
use Rattle.jq_pages.proofs.cutting.splices_made.Goals as goal

pub totals_gone-gone-requires : goal.totals_gone-gone-requires
totals_gone-gone-requires g c =
    let n = (c.args.j + (1 + c.len.result)) - c.args.j in
    let m : length (all_pieces (drop c.args.j c.args.pages.now)) ≤ length (all_pieces c.args.pages.now) = (pieces_part c.args.pages.now c.args.j).1 in
    let k : length (all_pieces (take n (drop c.args.j c.args.pages.now))) ≤ length (all_pieces (drop c.args.j c.args.pages.now)) = (pieces_part (drop c.args.j c.args.pages.now) n).0 in
    omega (arith, m, k, c.requires.few)

pub returns : goal.returns
returns g c =
    let e : c.len.result ≡ length c.args.made.now.runs.items = c.len.ensures ∙ c.args.made.now.runs.ok.0 in
    let n : (c.args.j + (1 + c.len.result)) - c.args.j ≡ 1 + length c.args.made.now.runs.items = omega (arith, e) in
    cut_by_totals _ _ _ _ _ _ _ _ c.totals_with-before.ensures.value
    (c.totals_gone-gone.ensures ∙ ap (λ k. totals (all_pieces (take k (drop c.args.j c.args.pages.now)) ++ closing_if c.args.made.now.tail (piece_view c.args.tail.now))) n)
    c.in_ok-bytes.ensures c.splices_at.ensures.out c.splices_at.ensures.err
