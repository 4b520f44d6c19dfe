-- What an edit keeps of the pages.
use Rattle.std.specs.Prelude.{◌≡◌, ℕ, ◌-◌, Bool, List, length, IsTrue, Result, IfOk, OnErr}
use Rattle.jq_pages.specs.Folds.{Fold, Rises}
use Rattle.jq_pages.specs.private.Groups.{IsIndex}
use Rattle.jq_pages.specs.private.Pages.{all_inputs, all_pieces, IsAt, IsFilled, IsFilledBut, IsHeld, IsPaged}
use Rattle.jq_pages.specs.declared.grouping.Group.{Group}
use Rattle.jq_pages.specs.declared.page.Page.{Page}
use Rattle.jq_pages.specs.declared.pieces.Piece.{Piece}

-- Between two edits each page has an input, the pages hold the run of the fold, and the groups are those of the pages.
pub record IsStored {T S : Type 0} (seen : T → S) (r : Fold S) (s : S) (gs : List Group) (ps : List (Page T)) (e : Piece) : Type 0 where
  pub held : ∥ IsHeld seen r s ps e ∥₁
  pub filled : ∥ IsFilled ps ∥₁
  pub index : IsIndex gs ps

-- The fold is the old one, the pages hold its run, and the groups are those of the pages.
pub record IsKept {T S : Type 0} (seen : T → S) (old new : Fold S) (s : S) (gs : List Group) (ps : List (Page T)) (e : Piece) : Type 0 where
  pub same : new ≡ old
  pub held : ∥ IsHeld seen new s ps e ∥₁
  pub index : IsIndex gs ps

-- The same, without the piece of `close`.
pub record KeepsRun {T S : Type 0} (seen : T → S) (old new : Fold S) (s : S) (gs : List Group) (ps : List (Page T)) : Type 0 where
  pub same : new ≡ old
  pub paged : IsPaged seen old s ps
  pub index : IsIndex gs ps

-- There are as many pages as before, and none but page `j` became empty.
pub record KeepsPages {T : Type 0} (old new : List (Page T)) (j : ℕ) : Type 0 where
  pub count : length new ≡ length old
  pub filled : IsFilledBut j old → IsFilledBut j new

-- Pages may have been added or removed. No input and no piece changed, and the pages still hold the run.
pub record IsRearranged {T S : Type 0} (seen : T → S) (r now : Fold S) (s : S) (gs : List Group) (old new : List (Page T)) : Type 0 where
  pub inputs : all_inputs new ≡ all_inputs old
  pub pieces : all_pieces new ≡ all_pieces old
  pub keeps : KeepsRun seen r now s gs new

-- One more input can be put in at place `i` of page `j`, which is place `k` of the list, and no other page is empty.
pub record IsRoom {T : Type 0} (ps : List (Page T)) (k j i : ℕ) : Type 0 where
  pub at : IsAt ps k j i 1 0
  pub filled : ∥ IsFilledBut j ps ∥₁

-- Room at a place of a page is made by at most as many starts as the page has places from there on, and by none if the fold is plain.
pub record IsRoomStart {E : Type 0} (plain : Bool) (before after : ℕ) (result : Result (ℕ × ℕ) E) : Type 0 where
  pub rises : IfOk result (λ r. Rises before after (64 - r.1))
  pub at_most : OnErr result (Rises before after 64)
  pub silent : IsTrue plain → after ≡ before
