-- The bytes that an edit changes, by the pieces around them.
use Rattle.std.specs.Prelude.{◌≡◌, ℕ, ◌+◌, List, [], ◌∷◌, ◌++◌, length, map, take, drop, slice_index_or, Option, Some, None, IsFalse}
use Rattle.std.specs.List.{flat_map}
use Rattle.std.specs.Option.{option_to_list}
use Rattle.jq_pages.specs.Pieces.{PieceView, piece_view}
use Rattle.jq_pages.specs.Splices.{closing}
use Rattle.jq_pages.specs.private.Pages.{all_pieces}
use Rattle.jq_pages.specs.private.Reruns.{pieces_in, run_pieces}
use Rattle.jq_pages.specs.declared.changes.Edited.{Edited}
use Rattle.jq_pages.specs.declared.cutting.Bytes.{Bytes}
use Rattle.jq_pages.specs.declared.editing.Made.{Made}
use Rattle.jq_pages.specs.declared.page.Page.{Page}
use Rattle.jq_pages.specs.declared.pieces.Piece.{Piece}
use Rattle.jq_pages.specs.declared.splices.Splice.{Splice}
use Rattle.jq_pages.specs.declared.splices.Splices.{Splices}

-- These are the bytes of the pieces.
pub record HasBytes (b : Bytes) (ps : List PieceView) : Type 0 where
  pub out : b.out.items ≡ flat_map (λ p. p.out) ps
  pub err : b.err.items ≡ flat_map (λ p. p.err) ps

-- The bytes of the pieces were added.
pub record AddsBytes (old new : Bytes) (ps : List PieceView) : Type 0 where
  pub out : new.out.items ≡ old.out.items ++ flat_map (λ p. p.out) ps
  pub err : new.err.items ≡ old.err.items ++ flat_map (λ p. p.err) ps

-- The splice goes over the bytes of these pieces: those before it, those that go and those that come.
pub record IsCut (bytes : PieceView → List ℕ) (s : Splice) (before gone come : List PieceView) : Type 0 where
  pub at : s.at ≡ length (flat_map bytes before)
  pub cut : s.cut ≡ length (flat_map bytes gone)
  pub put : s.put.items ≡ flat_map bytes come

pub record AreCut (o e : Splice) (before gone come : List PieceView) : Type 0 where
  pub out : IsCut (λ p. p.out) o before gone come
  pub err : IsCut (λ p. p.err) e before gone come

-- the old piece of `close`, if there is a new one
abbrev pub closing_if : Option Piece → PieceView → List PieceView
closing_if None p = []
closing_if (Some new) p = p ∷ []

-- the pieces that were made for an edit
abbrev pub made_pieces : {T : Type 0} → Made T → List PieceView
made_pieces m = (run_pieces m.run ++ flat_map run_pieces m.runs.items) ++ map piece_view (option_to_list m.tail)

-- The splices go over the pieces that the change of an edit replaces. `head` is the first piece; `tail` and `end` are the old and the
-- new piece of `close`.
abbrev pub AreSplices : Edited → (head : PieceView) → (old new : List PieceView) → (tail end : PieceView) → Type 0
AreSplices e head old new tail end =
    let c = e.change in
    AreCut e.out e.err (head ∷ take c.from old) (take c.cut (drop c.from old) ++ closing c.closed tail) (take c.put (drop c.from new) ++ closing c.closed end)

-- The splices go over page `j` and the pages after it that ran, with the piece of `close` if it ran, and put in what was made.
abbrev pub AreMadeCuts : {T : Type 0} → Splices → (head : PieceView) → List (Page T) → (tail : Piece) → ℕ → Made T → Type 0
AreMadeCuts s head ps tail j m = AreCut s.out s.err (head ∷ all_pieces (take j ps)) (all_pieces (take (1 + length m.runs.items) (drop j ps)) ++ closing_if m.tail (piece_view tail)) (made_pieces m)

-- The splices go over `cut` pieces from place `i` of page `j` on, and put in these pieces.
abbrev pub ArePlaceCuts : {T : Type 0} → Splices → (head : PieceView) → List (Page T) → (j i cut : ℕ) → List PieceView → Type 0
ArePlaceCuts s head ps j i cut put = (d : Page _) → AreCut s.out s.err (head ∷ (all_pieces (take j ps) ++ take i (pieces_in (slice_index_or ps j d)))) (take cut (drop i (pieces_in (slice_index_or ps j d)))) put

-- The edit tells which bytes it changed, and the piece of `close` stays unless it tells that this was run again.
pub record IsReport (e : Edited) (head : PieceView) (old new : List PieceView) (tail end : Piece) : Type 0 where
  pub kept_tail : IsFalse e.change.closed → end ≡ tail
  pub spliced : AreSplices e head old new (piece_view tail) (piece_view end)
