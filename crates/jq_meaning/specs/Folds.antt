-- Folds (manual of jq 1.7, "reduce", "foreach"): S is the type of what the source binds in each step.
use Rattle.std.specs.Prelude.{List, [], ◌∷◌}
use Rattle.jv_data.specs.Value.{null}
use Rattle.jq_meaning.specs.Runs.{Item, plain, located, Ending, Run, ended, one, go_on, then_run, bind, path_error}

-- the last of the items, or x if there is none
abbrev pub last_or : Item → List Item → Item
last_or x [] = x
last_or x (y ∷ ys) = last_or y ys

-- The next state is the update's last output. If the update has no output it is null, and inside `path(f)` that is an error.
abbrev pub next_state : Item → Run Item → (Item → Run Item) → Run Item
next_state (plain v) update go = go_on update.ending (go (last_or (plain null) update.items))
next_state (located v p) update go = go_on update.ending (elim update.items [ [] ↦ path_error | y ∷ ys ↦ go (last_or y ys) ])

-- the last state, if the source ends with Done; else the source's ending
abbrev pub reduced : {S : Type 0} → (S → Item → Run Item) → List S → Ending → Item → Run Item
reduced update [] e state = go_on e (one state)
reduced update (s ∷ ss) e state = next_state state (update s state) (reduced update ss e)

-- the outputs of `extract` for each output of each update
abbrev pub each_of : {S : Type 0} → (S → Item → Run Item) → (S → Item → Run Item) → List S → Ending → Item → Run Item
each_of update extract [] e state = ended e
each_of update extract (s ∷ ss) e state =
    then_run (bind (update s state) (extract s)) (next_state state (update s state) (each_of update extract ss e))
