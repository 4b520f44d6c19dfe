-- Runs over pages.
use Rattle.std.specs.Prelude.{◌≡◌, ℕ, List, [], ◌∷◌, map, take, drop, length, ◌+◌, ◌≤◌}
use Rattle.std.specs.List.{flat_map}
use Rattle.jv_data.specs.Value.{Value}
use Rattle.jv_data.specs.View.{view}
use Rattle.jq_pages.specs.Pieces.{PieceView, piece_view}
use Rattle.jq_pages.specs.Folds.{Fold, state_after, pieces_after}
use Rattle.jv_data.specs.declared.values.Val.{Val}
use Rattle.jq_pages.specs.declared.page.Page.{Page}
use Rattle.jq_pages.specs.declared.page.Rerun.{Rerun}

-- the run over these inputs from a state
pub record IsRun {S : Type 0} (r : Fold S) (s : S) (vs : List Value) (ps : List PieceView) (t : S) : Type 0 where
  pub pieces : ps ≡ pieces_after r s vs
  pub exit : t ≡ state_after r s vs

abbrev pub inputs_in : {T : Type 0} → Page T → List Value
inputs_in p = map view p.inputs.items

abbrev pub run_pieces : {T : Type 0} → Rerun T → List PieceView
run_pieces a = map piece_view a.pieces.items.items

-- what a page has of the run over its inputs
abbrev pub run_in : {T : Type 0} → Page T → Rerun T
run_in p = record { pieces = p.pieces; exit = p.exit }

abbrev pub IsRunOf : {T S : Type 0} → (T → S) → Fold S → S → List Value → Rerun T → Type 0
IsRunOf seen r s vs a = IsRun r s vs (run_pieces a) (seen a.exit)

-- the state after these runs
abbrev pub exit_of : {T S : Type 0} → (T → S) → S → List (Rerun T) → S
exit_of seen s [] = s
exit_of seen s (a ∷ rs) = exit_of seen (seen a.exit) rs

-- the state after these pages, as they keep it
abbrev pub kept_of : {T S : Type 0} → (T → S) → S → List (Page T) → S
kept_of seen s [] = s
kept_of seen s (p ∷ ps) = kept_of seen (seen p.exit) ps

-- These are the runs over the first of these pages, from a state.
abbrev pub RunsOver : {T S : Type 0} → (T → S) → Fold S → S → List (Page T) → List (Rerun T) → Type 0
RunsOver seen r s ps [] = Unit {0}
RunsOver seen r s [] (a ∷ rs) = ⊥
RunsOver seen r s (p ∷ ps) (a ∷ rs) = IsRunOf seen r s (inputs_in p) a × RunsOver seen r (seen a.exit) ps rs

-- the number of inputs in these pages
abbrev pub count_in : {T : Type 0} → List (Page T) → ℕ
count_in [] = 0
count_in (p ∷ ps) = length p.inputs.items + count_in ps

abbrev pub pieces_in : {T : Type 0} → Page T → List PieceView
pieces_in p = map piece_view p.pieces.items.items

-- These pages hold the run over their inputs from a state.
abbrev pub Holds : {T S : Type 0} → (T → S) → Fold S → S → List (Page T) → Type 0
Holds seen r s [] = Unit {0}
Holds seen r s (p ∷ ps) = IsRun r s (inputs_in p) (pieces_in p) (seen p.exit) × Holds seen r (seen p.exit) ps

-- the pages, of which the first have what these runs gave
abbrev pub renewed : {T : Type 0} → List (Page T) → List (Rerun T) → List (Page T)
renewed [] rs = []
renewed (p ∷ ps) [] = p ∷ ps
renewed (p ∷ ps) (a ∷ rs) = record { inputs = p.inputs; pieces = a.pieces; exit = a.exit } ∷ renewed ps rs

-- After the first `t` of these pages, a run from this state is in the state that the pages keep there.
abbrev pub MeetsAt : {T S : Type 0} → (T → S) → Fold S → (exit kept : S) → List (Page T) → ℕ → Type 0
MeetsAt seen r exit kept ps t = state_after r exit (flat_map inputs_in (take t ps)) ≡ kept_of seen kept (take t ps)

-- This holds of each number of pages after which the states meet.
abbrev pub AtMeetings : {T S : Type 0} → (T → S) → Fold S → (exit kept : S) → List (Page T) → (ℕ → Type 0) → Type 0
AtMeetings seen r exit kept ps P = (t : ℕ) → t ≤ length ps → MeetsAt seen r exit kept ps t → P t

-- the number of inputs of a page after an edit at place `i` of it, which takes `cut` inputs out and puts `more` in
abbrev pub size_at : List Val → (i more cut : ℕ) → ℕ
size_at xs i more cut = (i + more) + length (drop (i + cut) xs)
