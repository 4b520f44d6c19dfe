-- Edits of pages: at place `p` they take `cut` inputs out and put `put` in.
use Rattle.std.specs.Prelude.{◌≡◌, ℕ, ◌+◌, ◌-◌, ◌≤◌, List, take, drop, length, map, IsTrue, IsFalse, Result, Ok, Err, IfOk, OnOk, OnErr}
use Rattle.std.specs.List.{replace_range}
use Rattle.jv_data.specs.Value.{Value}
use Rattle.jv_data.specs.View.{view}
use Rattle.jv_data.specs.declared.values.Val.{Val}
use Rattle.jq_pages.specs.Folds.{Fold, Rises, state_after}
use Rattle.jq_pages.specs.Pieces.{PieceView}
use Rattle.jq_pages.specs.private.Pages.{all_inputs, all_pieces}
use Rattle.jq_pages.specs.declared.changes.Change.{Change}
use Rattle.jq_pages.specs.declared.changes.Edited.{Edited}
use Rattle.jq_pages.specs.declared.page.Page.{Page}

-- The runs over the old and the new inputs meet at place `q` of the new ones: their states are equal there.
pub record Meets {S : Type 0} (r : Fold S) (s : S) (old new : List Value) (p put cut q : ℕ) : Type 0 where
  pub after : p + put ≤ q
  pub within : q ≤ length new
  pub same : state_after r s (take q new) ≡ state_after r s (take ((q + cut) - put) old)

-- what changes in the list of pieces
pub record IsListChange (c : Change) (old new : List PieceView) (p put cut : ℕ) : Type 0 where
  pub near : p ≤ c.from + 64
  pub before : c.from ≤ p
  pub grown : c.put + cut ≡ c.cut + put
  pub within : c.from + c.put ≤ length new
  pub first : take c.from new ≡ take c.from old
  pub last : drop (c.from + c.put) new ≡ drop (c.from + c.cut) old
  pub closing : IsTrue c.closed → c.from + c.put ≡ length new

-- An edit of the list of inputs, from the states on that follow `s`. A refused one changes nothing. The rise of the count is
-- bounded by each place where the runs meet, and by the end; `i` is how far the place is from the start of its page.
pub record IsListEdit {S E : Type 0} (r : Fold S) (s : S) (old new made : List Value) (was is : List PieceView) (p put cut i before after : ℕ) (result : Result Change E) : Type 0 where
  pub inputs : OnOk result (new ≡ made)
  pub change : IfOk result (λ c. IsListChange c was is p put cut)
  pub far : IfOk result (λ c. (q : ℕ) → Meets r s old made p put cut q → c.from + c.put ≤ q + 64)
  pub unchanged : OnErr result (new ≡ old)
  pub same_pieces : OnErr result (is ≡ was)
  pub rises : (q : ℕ) → Meets r s old made p put cut q → Rises before after ((q - p) + i + 65)
  pub rises_all : Rises before after ((length made - p) + i + 65)

-- an edit of the list of inputs that these pages have
abbrev pub IsPagesEdit : {T S E : Type 0} → (T → S) → Fold S → S → (old new : List (Page T)) → (p : ℕ) → List Val → (cut i : ℕ) → (before after : ℕ) → Result Change E → Type 0
IsPagesEdit seen r s old new p put cut i before after result =
    let made = replace_range (all_inputs old) p (p + cut) (map view put) in
    IsListEdit r s (all_inputs old) (all_inputs new) made (all_pieces old) (all_pieces new) p (length put) cut i before after result

-- what an edit changed in the list
abbrev pub changed : {E : Type 0} → Result Edited E → Result Change E
changed (Ok e) = Ok e.change
changed (Err x) = Err x

-- the same, if the edit also gives what it took out
abbrev pub changed_in : {A E : Type 0} → Result (Edited × A) E → Result Change E
changed_in (Ok e) = Ok e.0.change
changed_in (Err x) = Err x

-- an edit at which only its place is run
pub record IsOneEdit {E : Type 0} (p put cut before after : ℕ) (result : Result Change E) : Type 0 where
  pub change : IfOk result (λ c. (c.from ≡ p) × (c.put ≡ put) × (c.cut ≡ cut) × IsFalse c.closed)
  pub rises : Rises before after put

-- that this is an edit of pages, without the proof
abbrev pub EditsPages : {T S E : Type 0} → (T → S) → Fold S → S → (old new : List (Page T)) → (p : ℕ) → List Val → (cut i : ℕ) → (before after : ℕ) → Result Change E → Type 0
EditsPages seen r s old new p put cut i before after result = ∥ IsPagesEdit seen r s old new p put cut i before after result ∥₁

-- an edit of pages, at which only its place is run if the fold is plain
pub record IsEdit {T S E : Type 0} (seen : T → S) (r : Fold S) (s : S) (old new : List (Page T)) (p : ℕ) (put : List Val) (cut i before after : ℕ) (result : Result Change E) : Type 0 where
  pub edits : ∥ IsPagesEdit seen r s old new p put cut i before after result ∥₁
  pub one : IsTrue r.plain → IsOneEdit p (length put) cut before after result

-- an edit of pages, at which only its place is run
pub record IsPlainEdit {T S E : Type 0} (seen : T → S) (r : Fold S) (s : S) (old new : List (Page T)) (p : ℕ) (put : List Val) (cut i before after : ℕ) (result : Result Change E) : Type 0 where
  pub edits : ∥ IsPagesEdit seen r s old new p put cut i before after result ∥₁
  pub one : IsOneEdit p (length put) cut before after result
