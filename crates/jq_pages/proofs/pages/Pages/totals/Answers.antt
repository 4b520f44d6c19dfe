use Rattle.std.proofs.Common.{◌≡◌, take, take_all, ◌≤◌, ◌+◌, ◌<◌, ◌∙◌, List, ap, arith, length, refl, [], ◌∷◌, ◌++◌, ℕ, subst, sym}
use Rattle.std.proofs.Math.Logic.{∥∥₁_elim}
use Rattle.jq_pages.specs.Pieces.{piece_view}
use Rattle.jq_pages.specs.Totals.{totals}
use Rattle.jq_pages.specs.private.Pages.{all_pieces}
use Rattle.jq_pages.proofs.Public.{all_of, few_pieces}
use Rattle.jq_pages.proofs.Sets.{sets}
use Rattle.jq_pages.proofs.Sums.{pieces_part, room_err, room_failed, room_out, totals_more}
use Rattle.jq_pages.proofs.pages.Pages.totals.Goals as goal
use Rattle.jq_pages.proofs.pages.Pages.totals.Goals.{After-totals_with-before}

few : (g : _) (c : After-totals_with-before g) → length (all_pieces c.deref-2.result.now) < 4294967296
few g c = subst (λ (z : List _). length (all_pieces z) < 4294967296) (sym c.deref-2.ensures.value) (few_pieces c.args.self.now.kept)

pub totals_with-before-requires-clause-few : goal.totals_with-before-requires-clause-few
totals_with-before-requires-clause-few g c = subst (λ (z : List _). length (all_pieces z) < 4294967296) (sym c.deref-2.ensures.value) (few_pieces c.args.self.now.kept)

within : (n m : ℕ) → n ≤ m → m < 4294967296 → (n + 1) + 1 < 18446744073709551616
within n m k l = omega arith

pub and-requires-clause-out : goal.and-requires-clause-out
and-requires-clause-out g c = room_out _ _ _ 1 c.totals_with-before.ensures.bounded c.of.ensures.bounded (within _ _ (pieces_part c.deref-2.result.now c.len.result).0 (few g ((goal.at.and-requires-clause-out g c).After-totals_with-before)))

pub and-requires-clause-err : goal.and-requires-clause-err
and-requires-clause-err g c = room_err _ _ _ 1 c.totals_with-before.ensures.bounded c.of.ensures.bounded (within _ _ (pieces_part c.deref-2.result.now c.len.result).0 (few g ((goal.at.and-requires-clause-err g c).After-totals_with-before)))

pub and-requires-clause-failed : goal.and-requires-clause-failed
and-requires-clause-failed g c = room_failed _ _ _ 1 c.totals_with-before.ensures.bounded c.of.ensures.bounded (within _ _ (pieces_part c.deref-2.result.now c.len.result).0 (few g ((goal.at.and-requires-clause-failed g c).After-totals_with-before)))

last : (n m : ℕ) → n ≡ m → m ≤ n
last n m e = omega arith

pub returns : goal.returns
returns g c =
    let s = c.args.self.now.kept in
    let whole : take c.len.result c.deref-2.result.now ≡ s.pages.items = ap (take c.len.result) c.deref-2.ensures.value ∙ take_all c.len.result s.pages.items (last _ _ (c.len.ensures ∙ s.pages.ok.0)) in
    ∥∥₁_elim s.begun (hlevel sets) (λ b. ∥∥₁_elim s.held (hlevel sets) (λ x.
    totals_more _ _ _ (piece_view s.head ∷ all_pieces (take c.len.result c.deref-2.result.now)) (piece_view s.head ∷ (all_pieces (take c.len.result c.deref-2.result.now) ++ (piece_view s.tail ∷ []))) (piece_view s.tail) c.totals_with-before.ensures.value c.of.ensures.value c.and.ensures refl
    ∙ ap totals (ap (λ (z : List _). piece_view s.head ∷ (all_pieces z ++ (piece_view s.tail ∷ []))) whole ∙ all_of g.S.Steps.seen (g.S.Steps.fold s.steps) s.head s.tail s.first s.pages.items b x)))
