use Rattle.std.proofs.Common.{◌≡◌, ℕ, arith, ◌+◌, ◌<◌, List, length, take, get_or, ap, sym, ◌∙◌, subst, refl}
use Rattle.std.proofs.Math.Logic.{∥∥₁_elim}
use Rattle.std.proofs.lemmas.Option.{slice_get_read}
use Rattle.std.proofs.Props.{props}
use Rattle.jq_pages.specs.Contents.{folded_of}
use Rattle.jq_pages.specs.Folds.{pieces}
use Rattle.jq_pages.specs.private.Reruns.{count_in}
use Rattle.jq_pages.specs.private.Pages.{all_inputs, all_pieces}
use Rattle.jq_pages.proofs.Edits.{inputs_count, pieces_count}
use Rattle.jq_pages.proofs.Divided.{page_pieces}
use Rattle.jq_pages.specs.Pieces.{piece_view}
use Rattle.jq_pages.proofs.Grown.{piece_at, pieces_before}
use Rattle.jq_pages.proofs.Public.{pieces_of}
use Rattle.jq_pages.proofs.Sets.{sets}
use Rattle.jq_pages.proofs.pages.Pages.piece.Goals as goal
use Rattle.jq_pages.proofs.pages.Pages.piece.Goals.{After-index}

below : (k n m a b : ℕ) → k < n → n ≡ m → m ≡ a → a ≡ b → k < b
below k n m a b h d e f = omega arith

pub find-j-requires-clause-place : goal.find-j-requires-clause-place
find-j-requires-clause-place g c = below _ _ _ _ _ c.if-i-len.false c.len.ensures.count (inputs_count c.args.self.now.kept.pages.items) (ap count_in (sym c.deref-2.ensures.value))

page : (g : _) (c : After-index g) → c.find-j.result.0 < length c.args.self.now.kept.pages.items
page g c = subst (λ (z : List _). c.find-j.result.0 < length z) c.deref-2.ensures.value c.find-j.ensures.page

has : (g : _) (c : After-index g) → c.find-j.result.1 < length c.index.result.now.pieces.items.items
has g c =
    let ps = c.args.self.now.kept.pages.items in
    let j = c.find-j.result.0 in
    let d = c.index.result.now in
    ∥∥₁_elim c.args.self.now.kept.held (hlevel props) (λ h.
    subst (λ n. c.find-j.result.1 < n) (sym (ap (λ z. length z.pieces.items.items) c.index.ensures ∙ page_pieces g.S.Steps.seen (g.S.Steps.fold c.args.self.now.kept.steps) (g.S.Steps.seen c.args.self.now.kept.first) ps j d (page g c) h.holds))
    (subst (λ (z : List _). c.find-j.result.1 < length (get_or z j d).inputs.items) c.deref-2.ensures.value (c.find-j.ensures.within d)))

at : (g : _) (c : After-index g) → length (all_pieces (take c.find-j.result.0 c.args.self.now.kept.pages.items)) + c.find-j.result.1 ≡ c.args.i
at g c =
    let ps = c.args.self.now.kept.pages.items in
    ∥∥₁_elim c.args.self.now.kept.held (hlevel props) (λ h.
    ap (λ n. n + c.find-j.result.1) (pieces_before g.S.Steps.seen (g.S.Steps.fold c.args.self.now.kept.steps) (g.S.Steps.seen c.args.self.now.kept.first) ps c.find-j.result.0 h.holds)
    ∙ ap (λ z. count_in (take c.find-j.result.0 z) + c.find-j.result.1) (sym c.deref-2.ensures.value) ∙ c.find-j.ensures.place)

pub index-requires-2 : goal.index-requires-2
index-requires-2 g c = subst (λ n. c.find-j.result.1 < n) (sym c.index.result.now.pieces.items.ok.0) (has g ((goal.at.index-requires-2 g c).After-index))

pub returns : goal.returns
returns g c =
    let s = c.args.self.now.kept in
    let r = g.S.Steps.fold s.steps in
    let b = (goal.at.returns g c).After-index in
    let all = ∥∥₁_elim s.begun (hlevel sets) (λ x. ∥∥₁_elim s.held (hlevel sets) (λ y. pieces_of g.S.Steps.seen r s.head s.tail s.first s.pages.items x y)) in
    record {
      at = slice_get_read (pieces (folded_of c.args.self.now)) (length (all_inputs s.pages.items)) c.args.i (piece_view c.index-2.result.now)
          (sym (pieces_count r r.begin.1 (all_inputs s.pages.items)))
          (below _ _ _ _ _ c.if-i-len.false c.len.ensures.count refl refl)
          (piece_at s.pages.items c.find-j.result.0 c.find-j.result.1 c.args.i c.index.result.now c.index-2.result.now (page g b) c.index.ensures c.index-2.ensures (has g b) (at g b) ∙ ap (λ z. get_or z c.args.i (piece_view c.index-2.result.now)) all);
    }
