-- What pages of inputs hold.
use Rattle.std.specs.Prelude.{◌≡◌, ℕ, ◌+◌, ◌<◌, ◌≤◌, List, [], ◌∷◌, take, drop, length, slice_index_or, vec_capacity}
use Rattle.std.specs.List.{flat_map}
use Rattle.jv_data.specs.Value.{Value}
use Rattle.jv_data.specs.declared.values.Val.{Val}
use Rattle.jq_pages.specs.Folds.{Fold}
use Rattle.jq_pages.specs.Pieces.{PieceView, piece_view}
use Rattle.jq_pages.specs.private.Reruns.{Holds, count_in, inputs_in, pieces_in, kept_of}
use Rattle.jq_pages.specs.declared.page.Page.{Page}
use Rattle.jq_pages.specs.declared.pieces.Piece.{Piece}

-- the inputs of all pages, and their pieces
abbrev pub all_inputs : {T : Type 0} → List (Page T) → List Value
all_inputs ps = flat_map inputs_in ps

abbrev pub all_pieces : {T : Type 0} → List (Page T) → List PieceView
all_pieces ps = flat_map pieces_in ps

-- No page has more than 64 inputs.
abbrev pub IsSized : {T : Type 0} → List (Page T) → Type 0
IsSized [] = Unit {0}
IsSized (p ∷ ps) = (length p.inputs.items ≤ 64) × IsSized ps

-- Each page has an input.
abbrev pub IsFilled : {T : Type 0} → List (Page T) → Type 0
IsFilled [] = Unit {0}
IsFilled (p ∷ ps) = (0 < length p.inputs.items) × IsFilled ps

-- Each page but page `j` has an input.
abbrev pub IsFilledBut : {T : Type 0} → ℕ → List (Page T) → Type 0
IsFilledBut j ps = IsFilled (take j ps) × IsFilled (drop (j + 1) ps)

-- This is what `begin` gave.
pub record IsBegun {T S : Type 0} (seen : T → S) (r : Fold S) (b : Piece) (t : T) : Type 0 where
  pub head : piece_view b ≡ r.begin.0
  pub first : seen t ≡ r.begin.1

-- The pages hold the run of the fold over their inputs from a state, and this is what `close` gives after it.
pub record IsHeld {T S : Type 0} (seen : T → S) (r : Fold S) (s : S) (ps : List (Page T)) (e : Piece) : Type 0 where
  pub holds : Holds seen r s ps
  pub sized : IsSized ps
  pub tail : piece_view e ≡ r.close (kept_of seen s ps)

-- what a page has, without the capacity of its vectors
abbrev pub parts : {T : Type 0} → Page T → List Val × List Piece × T
parts p = (p.inputs.items, p.pieces.items.items, p.exit)

-- One more input of page `j` needs no memory.
abbrev pub HasInputRoom : {T : Type 0} → List (Page T) → ℕ → Type 0
HasInputRoom pages j = (d : Page _) → length (slice_index_or pages j d).inputs.items + 1 ≤ vec_capacity (slice_index_or pages j d).inputs

-- One more input of page `j` and its piece need no memory.
pub record HasRoom {T : Type 0} (pages : List (Page T)) (j : ℕ) : Type 0 where
  pub inputs : (d : Page T) → length (slice_index_or pages j d).inputs.items + 1 ≤ vec_capacity (slice_index_or pages j d).inputs
  pub pieces : (d : Page T) → length (slice_index_or pages j d).pieces.items.items + 1 ≤ vec_capacity (slice_index_or pages j d).pieces.items

-- An edit at place `i` of page `j` can take out `cut` inputs and put in `more`.
pub record IsPlace {T : Type 0} (pages : List (Page T)) (j i more cut : ℕ) : Type 0 where
  pub page : j < length pages
  pub one : cut ≤ 1
  pub place : (d : Page T) → i + cut ≤ length (slice_index_or pages j d).inputs.items
  pub fits : (d : Page T) → length (slice_index_or pages j d).inputs.items + more ≤ 64 + cut
  pub room : cut ≡ 0 → HasRoom pages j

-- An edit at place `i` of page `j`, which is place `k` of the list, can take out `cut` inputs and put in `more`.
pub record IsAt {T : Type 0} (pages : List (Page T)) (k j i more cut : ℕ) : Type 0 where
  pub place : IsPlace pages j i more cut
  pub spot : count_in (take j pages) + i ≡ k

-- Place `k` of the list is place `i` of page `j`, which is not full.
pub record IsFreePlace {T : Type 0} (pages : List (Page T)) (k j i : ℕ) : Type 0 where
  pub page : j < length pages
  pub within : (d : Page T) → i ≤ length (slice_index_or pages j d).inputs.items
  pub fits : (d : Page T) → length (slice_index_or pages j d).inputs.items + 1 ≤ 64
  pub spot : count_in (take j pages) + i ≡ k

-- The pages hold the run of the fold over their inputs from a state, and none has too many inputs.
pub record IsPaged {T S : Type 0} (seen : T → S) (r : Fold S) (s : S) (ps : List (Page T)) : Type 0 where
  pub holds : ∥ Holds seen r s ps ∥₁
  pub sized : ∥ IsSized ps ∥₁

-- The same, of a fold whose states are all equal.
pub record IsPlainPaged {T S : Type 0} (seen : T → S) (r : Fold S) (s : S) (ps : List (Page T)) : Type 0 where
  pub alike : (a b : S) → a ≡ b
  pub paged : IsPaged seen r s ps
