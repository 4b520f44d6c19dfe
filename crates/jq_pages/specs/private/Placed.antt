-- Pages that were put in the place of others. `get_or pages j page` is page `j`.
use Rattle.std.specs.Prelude.{◌≡◌, ℕ, ◌+◌, ◌<◌, ◌≤◌, List, [], ◌∷◌, ◌++◌, ◌⊎◌, take, drop, get_or, length, map}
use Rattle.jv_data.specs.Value.{Value}
use Rattle.jv_data.specs.View.{view}
use Rattle.jv_data.specs.declared.values.Val.{Val}
use Rattle.jq_pages.specs.Folds.{Fold, state_after}
use Rattle.jq_pages.specs.Pieces.{piece_view}
use Rattle.jq_pages.specs.private.Reruns.{inputs_in, pieces_in, kept_of, renewed}
use Rattle.jq_pages.specs.private.Pages.{all_inputs, all_pieces}
use Rattle.jq_pages.specs.declared.page.Page.{Page}
use Rattle.jq_pages.specs.declared.page.Rerun.{Rerun}
use Rattle.jq_pages.specs.declared.pieces.Piece.{Piece}

-- the inputs of a page after an edit at place `i` of it
abbrev pub put_at : List Val → (i : ℕ) → List Val → (cut : ℕ) → List Value
put_at xs i put cut = (map view (take i xs) ++ map view put) ++ map view (drop (i + cut) xs)

-- Page `j` was edited and has this run, and the pages after it have these runs.
pub record Installed {T : Type 0} (old new : List (Page T)) (j i : ℕ) (put : List Val) (cut : ℕ) (a : Rerun T) (rs : List (Rerun T)) : Type 0 where
  pub page : Page T
  pub list : new ≡ take j old ++ (page ∷ renewed (drop (j + 1) old) rs)
  pub inputs : inputs_in page ≡ put_at (get_or old j page).inputs.items i put cut
  pub pieces : page.pieces ≡ a.pieces
  pub exit : page.exit ≡ a.exit

-- An empty page was inserted before page `j`.
pub record Opened {T S : Type 0} (seen : T → S) (s : S) (old new : List (Page T)) (j : ℕ) : Type 0 where
  pub page : Page T
  pub list : new ≡ take j old ++ (page ∷ drop j old)
  pub inputs : page.inputs.items ≡ []
  pub pieces : page.pieces.items.items ≡ []
  pub exit : seen page.exit ≡ kept_of seen s (take j old)

-- Page `j` was divided: the first part keeps 32 inputs and has `middle` as the state at its end.
pub record Divided {T : Type 0} (old new : List (Page T)) (j : ℕ) (middle : T) : Type 0 where
  pub one : Page T
  pub two : Page T
  pub list : new ≡ take j old ++ (one ∷ two ∷ drop (j + 1) old)
  pub inputs : one.inputs.items ≡ take 32 (get_or old j one).inputs.items
  pub later_inputs : two.inputs.items ≡ drop 32 (get_or old j one).inputs.items
  pub pieces : one.pieces.items.items ≡ take 32 (get_or old j one).pieces.items.items
  pub later_pieces : two.pieces.items.items ≡ drop 32 (get_or old j one).pieces.items.items
  pub middle_exit : one.exit ≡ middle
  pub exit : two.exit ≡ (get_or old j one).exit

-- The same, with the state that the run has there.
pub record Halved {T S : Type 0} (seen : T → S) (r : Fold S) (s : S) (old new : List (Page T)) (j : ℕ) : Type 0 where
  pub middle : T
  pub divided : Divided old new j middle
  pub state : seen middle ≡ state_after r (kept_of seen s (take j old)) (map view (take 32 (get_or old j divided.one).inputs.items))

-- Page `j` has other inputs and other pieces, and keeps its state.
pub record Replaced {T : Type 0} (old new : List (Page T)) (j i : ℕ) (put : List Val) (pieces : List Piece) (cut : ℕ) : Type 0 where
  pub page : Page T
  pub list : new ≡ take j old ++ (page ∷ drop (j + 1) old)
  pub inputs : page.inputs.items ≡ (take i (get_or old j page).inputs.items ++ put) ++ drop (i + cut) (get_or old j page).inputs.items
  pub others : page.pieces.items.items ≡ (take i (get_or old j page).pieces.items.items ++ pieces) ++ drop (i + cut) (get_or old j page).pieces.items.items
  pub exit : page.exit ≡ (get_or old j page).exit

-- Page `j` has `cut` inputs fewer and `more` inputs more, and each other page has as many as before.
pub record Resized {T : Type 0} (old new : List (Page T)) (j more cut : ℕ) : Type 0 where
  pub same : length new ≡ length old
  pub others : (n : ℕ) (d : Page T) → ¬ (n ≡ j) → length (get_or new n d).inputs.items ≡ length (get_or old n d).inputs.items
  pub here : (d : Page T) → length (get_or new j d).inputs.items + cut ≡ length (get_or old j d).inputs.items + more

-- Page `j` was taken out if it had no input; else nothing changed.
abbrev pub Dropped : {T : Type 0} → (old new : List (Page T)) → ℕ → Type 0
Dropped old new j = ((new ≡ take j old ++ drop (j + 1) old) × ((d : Page _) → (get_or old j d).inputs.items ≡ [])) ⊎ ((new ≡ old) × ((d : Page _) → 0 < length (get_or old j d).inputs.items))

-- An input was added after the last one, to the last page or to a new one.
pub record Grown {T : Type 0} (old new : List (Page T)) (value : Val) (piece : Piece) (exit : T) : Type 0 where
  pub front : List (Page T)
  pub last : List (Page T)
  pub page : Page T
  pub before : old ≡ front ++ last
  pub after : new ≡ front ++ page ∷ []
  pub inputs : inputs_in page ≡ all_inputs last ++ view value ∷ []
  pub pieces : pieces_in page ≡ all_pieces last ++ piece_view piece ∷ []
  pub state : page.exit ≡ exit
  pub few : length page.inputs.items ≤ 64

-- Page `j + 1` was joined to page `j`.
pub record Merged {T : Type 0} (old new : List (Page T)) (j : ℕ) : Type 0 where
  pub page : Page T
  pub there : j + 1 < length old
  pub list : new ≡ take j old ++ (page ∷ drop (j + 2) old)
  pub inputs : page.inputs.items ≡ (get_or old j page).inputs.items ++ (get_or old (j + 1) page).inputs.items
  pub pieces : page.pieces.items.items ≡ (get_or old j page).pieces.items.items ++ (get_or old (j + 1) page).pieces.items.items
  pub exit : page.exit ≡ (get_or old (j + 1) page).exit
  pub few : length page.inputs.items ≤ 64

-- Two pages became one, or nothing changed.
abbrev pub Merges : {T : Type 0} → (old new : List (Page T)) → Type 0
Merges old new = ((j : ℕ) × Merged old new j) ⊎ (new ≡ old)
