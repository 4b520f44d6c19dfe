-- The next state of a fold, as the machine keeps it in a cell, and a run without frames.
use Rattle.std.proofs.Common.{◌≡◌, List, [], ◌∷◌, refl, sym, ap, ◌∙◌}
use Rattle.jv_data.specs.Value.{Value, null}
use Rattle.jq_meaning.specs.Runs.{Item, plain, located, Ending, Done, Raised, Broken, Stopped, Run, ended, none, before, go_on, then_run}
use Rattle.jq_meaning.specs.Folds.{last_or, next_state}
use Rattle.jq_meaning.specs.machine.State.{Cell}
use Rattle.jq_meaning.specs.machine.Operations.{state_in, replace_state}
use Rattle.jq_meaning.proofs.shared.machine.Flow.{Cells, cell_after, feed, outside}
use Rattle.jq_meaning.proofs.shared.machine.Shapes.{missing}

replace-all : (y : Item) (ys : List Item) → cell_after replace_state ys (y ∷ []) ≡ last_or y ys ∷ []
replace-all y [] = refl
replace-all y (z ∷ zs) = replace-all z zs

replace-state : (ys : List Item) → state_in (cell_after replace_state ys []) ≡ last_or (plain null) ys
replace-state [] = refl
replace-state (y ∷ ys) = ap state_in (replace-all y ys)

located-state : (v : Value) (p : List Value) (ys : List Item) (go : Item → Run Item) (go' : Cell → Run Item) → ((c : Cell) → go (state_in c) ≡ go' c)
    → next_state (located v p) (record { items = ys; ending = Done }) go ≡ then_run (missing (located v p) (cell_after replace_state ys [])) (go' (cell_after replace_state ys []))
located-state v p [] go go' same = refl
located-state v p (y ∷ ys) go go' same = rw (replace-all y ys) (same (last_or y ys ∷ []))

next-done : (x : Item) (ys : List Item) (go : Item → Run Item) (go' : Cell → Run Item) → ((c : Cell) → go (state_in c) ≡ go' c)
    → next_state x (record { items = ys; ending = Done }) go ≡ then_run (missing x (cell_after replace_state ys [])) (go' (cell_after replace_state ys []))
next-done (plain v) ys go go' same = ap go (sym (replace-state ys)) ∙ same (cell_after replace_state ys [])
next-done (located v p) ys go go' same = located-state v p ys go go' same

next-stops : (x : Item) (ys : List Item) (e : Ending) (go : Item → Run Item) → ((r : Run Item) → go_on e r ≡ ended e) → next_state x (record { items = ys; ending = e }) go ≡ ended e
next-stops (plain v) ys e go p = p _
next-stops (located v q) ys e go p = p _

pub next-items : (x : Item) (ys : List Item) (e : Ending) (go : Item → Run Item) (go' : Cell → Run Item) → ((c : Cell) → go (state_in c) ≡ go' c)
    → next_state x (record { items = ys; ending = e }) go ≡ go_on e (then_run (missing x (cell_after replace_state ys [])) (go' (cell_after replace_state ys [])))
next-items x ys Done go go' same = next-done x ys go go' same
next-items x ys (Raised v) go go' same = next-stops x ys (Raised v) go (λ r. refl)
next-items x ys (Broken k) go go' same = next-stops x ys (Broken k) go (λ r. refl)
next-items x ys (Stopped stop) go go' same = next-stops x ys (Stopped stop) go (λ r. refl)

pub feed-outside : {A : Type 0} (xs : List A) (e : Ending) (s : Cells) → feed {A = A} {T = A} outside (record { items = xs; ending = e }) (λ u. none) s ≡ record { items = xs; ending = e }
feed-outside [] Done s = refl
feed-outside [] (Raised v) s = refl
feed-outside [] (Broken k) s = refl
feed-outside [] (Stopped stop) s = refl
feed-outside (x ∷ xs) e s = ap (before (x ∷ [])) (feed-outside xs e s)
