-- A removal that is taken back.
use Rattle.std.specs.Prelude.{◌≡◌, ℕ, ◌+◌, ◌-◌, ◌<◌, ◌≤◌, List, [], ◌∷◌, ◌++◌, take, drop, get_or, length, map, Option, Some, None, Result, Ok, IfOk, MatchOption, IsTrue, IsFalse, slice_get}
use Rattle.std.specs.List.{replace_range}
use Rattle.jv_data.specs.Value.{Value}
use Rattle.jv_data.specs.View.{view}
use Rattle.jv_data.specs.declared.failures.NoMemory.{NoMemory}
use Rattle.jq_pages.specs.Folds.{Fold, Rises}
use Rattle.jq_pages.specs.Pieces.{PieceView, piece_view}
use Rattle.jq_pages.specs.Totals.{totals}
use Rattle.jq_pages.specs.private.Cuts.{AreSplices, IsReport}
use Rattle.jq_pages.specs.private.Edits.{IsOneEdit, IsPagesEdit, Meets}
use Rattle.jq_pages.specs.private.Reruns.{count_in}
use Rattle.jq_pages.specs.declared.changes.Edited.{Edited}
use Rattle.jq_pages.specs.declared.changes.Moved.{Moved}
use Rattle.std.specs.Option.{option_to_list}
use Rattle.jv_data.specs.declared.values.Val.{Val}
use Rattle.jq_pages.specs.private.Pages.{all_inputs, all_pieces, parts, HasInputRoom, HasRoom, IsFilledBut, IsHeld}
use Rattle.jq_pages.specs.private.Placed.{Resized}
use Rattle.jq_pages.specs.declared.applying.Taken.{Taken}
use Rattle.jq_pages.specs.declared.applying.Taken.TheVariants as taken
use Rattle.jq_pages.specs.declared.editing.Made.{Made}
use Rattle.jq_pages.specs.declared.page.Page.{Page}
use Rattle.jq_pages.specs.declared.page.Rerun.{Rerun}
use Rattle.jq_pages.specs.declared.pieces.Piece.{Piece}

abbrev pub Parts : Type 0 → Type 0
Parts T = List Val × List Piece × T

-- the elements with one more at place `i`, if there is one
abbrev pub put_back_in : {A : Type 0} → List A → ℕ → Option A → List A
put_back_in xs i o = (take i xs ++ option_to_list o) ++ drop i xs

-- the pages, of which the first have what these runs had
abbrev pub renewed_parts : {T : Type 0} → List (Parts T) → List (Rerun T) → List (Parts T)
renewed_parts [] rs = []
renewed_parts (b ∷ bs) [] = b ∷ bs
renewed_parts (b ∷ bs) (a ∷ rs) = (b.0, a.pieces.items.items, a.exit) ∷ renewed_parts bs rs

-- the first page with what an edit of place `i` took out of it, and the pages after it with what it took out of them
abbrev pub restored_from : {T : Type 0} → List (Parts T) → ℕ → Taken T → List (Parts T)
restored_from [] i t = []
restored_from (b ∷ bs) i (taken.Runs value made) = (put_back_in b.0 i value, made.run.pieces.items.items, made.run.exit) ∷ renewed_parts bs made.runs.items
restored_from (b ∷ bs) i (taken.One value piece) = (put_back_in b.0 i value, put_back_in b.1 i piece, b.2) ∷ bs

-- the pages with what an edit of place `i` of page `j` took out of them
abbrev pub restored : {T : Type 0} → List (Parts T) → (j i : ℕ) → Taken T → List (Parts T)
restored bs j i t = take j bs ++ restored_from (drop j bs) i t

-- the piece of `close`, if it was taken out
abbrev pub other_tail : Piece → Option Piece → Piece
other_tail p None = p
other_tail p (Some q) = q

abbrev pub restored_tail : {T : Type 0} → Piece → Taken T → Piece
restored_tail p (taken.Runs value made) = other_tail p made.tail
restored_tail p (taken.One value piece) = p

-- What an edit took out of the pages from page `j` on can be put back without memory.
abbrev pub HasPlace : {T : Type 0} → List (Page T) → ℕ → Taken T → Type 0
HasPlace ps j (taken.Runs value made) = (j + 1 + length made.runs.items ≤ length ps) × HasInputRoom ps j
HasPlace ps j (taken.One value piece) = (j < length ps) × HasRoom ps j

-- This is what a removal at place `i` of page `j` took out, and it can be put back without memory.
pub record IsTakenOut {T : Type 0} (old new : List (Page T)) (j i : ℕ) (t : Taken T) : Type 0 where
  pub back : restored (map parts new) j i t ≡ map parts old
  pub room : HasPlace new j t

-- What was made for an edit and what was there changed places: there are as many runs, and the pieces of `close` are exchanged.
pub record IsSwapped {T : Type 0} (old new : Made T) (tail end : Piece) : Type 0 where
  pub runs : length new.runs.items ≡ length old.runs.items
  pub new_tail : MatchOption old.tail (end ≡ tail) (λ p. end ≡ p)
  pub old_tail : other_tail end new.tail ≡ tail

-- What an accepted edit at place `i` of page `j` tells, the lengths of the pages after it, and what it took out.
pub record IsApplied {T : Type 0} (e : Edited) (t : Taken T) (head : PieceView) (old new : List (Page T)) (tail end : Piece) (j i : ℕ) (put : Option Val) (cut : ℕ) : Type 0 where
  pub report : IsReport e head (all_pieces old) (all_pieces new) tail end
  pub resized : Resized old new j (length (option_to_list put)) cut
  pub taken : cut ≡ 1 → put ≡ None → IsTakenOut old new j i t
  pub old_tail : restored_tail end t ≡ tail

-- A refused insertion changed nothing, and what was taken out before can still be put back without memory.
pub record IsUntouched {T : Type 0} (old new : List (Page T)) (tail end : Piece) : Type 0 where
  pub same : map parts new ≡ map parts old
  pub kept_tail : end ≡ tail
  pub place : (j : ℕ) (t : Taken T) → HasPlace old j t → HasPlace new j t

-- An input that is removed at a place of page `j` can be inserted at place `at` of `page`, which is place `l` of the shorter list.
pub record IsTarget {T : Type 0} (ps : List (Page T)) (j page at l : ℕ) : Type 0 where
  pub has : page < length ps
  pub fits : (d : Page T) → length (get_or ps page d).inputs.items + 1 ≤ 64
  pub within : (d : Page T) → ¬ (page ≡ j) → at ≤ length (get_or ps page d).inputs.items
  pub here : (d : Page T) → page ≡ j → at + 1 ≤ length (get_or ps page d).inputs.items
  pub before : page ≤ j → count_in (take page ps) + at ≡ l
  pub after : j < page → count_in (take page ps) + at ≡ l + 1

-- how far the count may rise in an edit of the list of inputs, of which `i` is how far the place is from the start of its page
abbrev pub MayRise : {S : Type 0} → Fold S → S → (old made : List Value) → (p put cut i before after : ℕ) → Type 0
MayRise r s old made p put cut i before after = ((q : ℕ) → Meets r s old made p put cut q → Rises before after ((q - p) + i + 65)) × Rises before after ((length made - p) + i + 65)

-- The same for the removal of input `k` and the insertion of this input at place `l`, of which the insertion comes second.
pub record IsShiftStart {S : Type 0} (r : Fold S) (s : S) (old : List Value) (k l i o before after : ℕ) : Type 0 where
  pub value : Val
  pub there : slice_get old k ≡ Some (view value)
  pub between : ℕ
  pub removal : MayRise r s old (replace_range old k (k + 1) []) k 0 1 i before between
  pub insertion : MayRise r s (replace_range old k (k + 1) []) (replace_range (replace_range old k (k + 1) []) l (l + 0) (view value ∷ [])) l 1 0 o between after

-- A move of input `k` to place `l` of the shorter list: `middle` and `close` are the pages and the piece of `close` between its halves.
pub record IsShift {T S : Type 0} (seen : T → S) (r : Fold S) (s : S) (head : PieceView) (old new : List (Page T)) (tail end : Piece) (k l : ℕ) (m : Moved) : Type 0 where
  pub value : Val
  pub there : slice_get (all_inputs old) k ≡ Some (view value)
  pub middle : List (Page T)
  pub close : Piece
  pub held : IsHeld seen r s middle close
  pub before : ℕ
  pub starts : ℕ
  pub after : ℕ
  pub removal : IsPagesEdit {E = NoMemory} seen r s old middle k [] 1 64 before starts (Ok m.removal.change)
  pub insertion : IsPagesEdit {E = NoMemory} seen r s middle new l (value ∷ []) 0 64 starts after (Ok m.insertion.change)
  pub one_removal : IsTrue r.plain → IsOneEdit {E = NoMemory} k 0 1 before starts (Ok m.removal.change)
  pub one_insertion : IsTrue r.plain → IsOneEdit {E = NoMemory} l 1 0 starts after (Ok m.insertion.change)
  pub first_tail : IsFalse m.removal.change.closed → close ≡ tail
  pub last_tail : IsFalse m.insertion.change.closed → end ≡ close
  pub cut : AreSplices m.removal head (all_pieces old) (all_pieces middle) (piece_view tail) (piece_view close)
  pub put : AreSplices m.insertion head (all_pieces middle) (all_pieces new) (piece_view close) (piece_view end)
  pub between : m.between ≡ totals (head ∷ (all_pieces middle ++ (piece_view close ∷ [])))

-- The same move from page `j` to `page`. No page is added or removed, and only page `j` may become empty.
pub record IsShiftIn {T S : Type 0} (seen : T → S) (r : Fold S) (s : S) (head : PieceView) (old new : List (Page T)) (tail end : Piece) (k l j page : ℕ) (m : Moved) : Type 0 where
  pub shifted : ∥ IsShift seen r s head old new tail end k l m ∥₁
  pub count : length new ≡ length old
  pub filled : IsFilledBut page old → IsFilledBut j new

-- how often a move starts the filter, and that the count that it tells lies between those before and after it
pub record IsMoveStart {S E : Type 0} (r : Fold S) (s : S) (old : List Value) (k l i o before after : ℕ) (result : Result Moved E) : Type 0 where
  pub started : ∥ IsShiftStart r s old k l i o before after ∥₁
  pub plain : IsTrue r.plain → Rises before after 1
  pub counted : IfOk result (λ m. (before ≤ m.starts) × (m.starts ≤ after))
