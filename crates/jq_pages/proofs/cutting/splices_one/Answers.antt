use Rattle.std.proofs.Common.{◌≡◌, ℕ, ◌+◌, ◌-◌, ◌<◌, ◌≤◌, ◌∙◌, ◌∷◌, ◌++◌, List, ap, arith, drop, get_or, length, length-take, map, min, sym, take}
use Rattle.std.proofs.lemmas.List.{drop-map, take-map}
use Rattle.jq_pages.specs.Pieces.{piece_view}
use Rattle.jq_pages.specs.Totals.{totals}
use Rattle.jq_pages.specs.private.Pages.{all_pieces}
use Rattle.jq_pages.specs.private.Reruns.{pieces_in}
use Rattle.jq_pages.specs.declared.pieces.Piece.{Piece}
use Rattle.jq_pages.proofs.Cuts.{cut_by_totals}
use Rattle.jq_pages.proofs.Edits.{same_default}
use Rattle.jq_pages.proofs.Sums.{pieces_part, room_err, room_failed, room_out, totals_join}
use Rattle.jq_pages.proofs.cutting.splices_one.Goals as goal

room : {A : Type 0} (xs : List A) (i n m : ℕ) → n ≤ m → m < 4294967296 → i < 4294967296 → (n + 1) + length (take i xs) < 18446744073709551616
room xs i n m a b d = let e : length (take i xs) ≡ min i (length xs) = length-take i xs in omega arith

pub and-before-requires-clause-out : goal.and-before-requires-clause-out
and-before-requires-clause-out g c = room_out _ _ _ _ c.totals_with.ensures.bounded c.totals_of.ensures.bounded (room c.deref.result.now c.args.i _ _ (pieces_part c.args.pages.now c.args.j).0 c.requires.few c.requires.small)

pub and-before-requires-clause-err : goal.and-before-requires-clause-err
and-before-requires-clause-err g c = room_err _ _ _ _ c.totals_with.ensures.bounded c.totals_of.ensures.bounded (room c.deref.result.now c.args.i _ _ (pieces_part c.args.pages.now c.args.j).0 c.requires.few c.requires.small)

pub and-before-requires-clause-failed : goal.and-before-requires-clause-failed
and-before-requires-clause-failed g c = room_failed _ _ _ _ c.totals_with.ensures.bounded c.totals_of.ensures.bounded (room c.deref.result.now c.args.i _ _ (pieces_part c.args.pages.now c.args.j).0 c.requires.few c.requires.small)

pub returns : goal.returns
returns g c d =
    let ps = c.args.pages.now in
    let j = c.args.j in
    let i = c.args.i in
    let p = get_or ps j c.index-pages-j.result in
    let here : get_or ps j d ≡ p = same_default ps j d c.index-pages-j.result c.requires.page in
    let n : (i + c.args.cut) - i ≡ c.args.cut = omega arith in
    let before : take i (pieces_in (get_or ps j d)) ≡ map piece_view (take i c.deref.result.now) =
    ap (λ z. take i (pieces_in z)) here ∙ take-map piece_view i p.pieces.items.items ∙ ap (λ (z : List Piece). map piece_view (take i z)) (sym c.deref.ensures.value) in
    let gone : map piece_view (take ((i + c.args.cut) - i) (drop i c.deref-2.result.now)) ≡ take c.args.cut (drop i (pieces_in (get_or ps j d))) =
    ap (λ (z : List Piece). map piece_view (take ((i + c.args.cut) - i) (drop i z))) c.deref-2.ensures.value
    ∙ ap (λ k. map piece_view (take k (drop i p.pieces.items.items))) n
    ∙ sym (take-map piece_view c.args.cut (drop i p.pieces.items.items))
    ∙ ap (take c.args.cut) (sym (drop-map piece_view i p.pieces.items.items))
    ∙ ap (λ z. take c.args.cut (drop i (pieces_in z))) (sym here) in
    cut_by_totals _ _ _ _ _ _ _ _
    (totals_join _ _ _ (piece_view c.args.head.now ∷ all_pieces (take j ps)) (map piece_view (take i c.deref.result.now)) _ c.totals_with.ensures.value c.totals_of.ensures.value c.and-before.ensures (ap (λ z. piece_view c.args.head.now ∷ (all_pieces (take j ps) ++ z)) before))
    (c.totals_of-gone.ensures.value ∙ ap totals gone)
    c.in_ok-bytes.ensures c.splices_at.ensures.out c.splices_at.ensures.err
