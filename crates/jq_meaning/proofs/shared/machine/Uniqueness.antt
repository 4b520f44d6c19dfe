-- A state produces only one run, since it has only one transition.
use Rattle.std.proofs.Common.{◌≡◌, [], ◌∷◌, refl, sym, ap, subst}
use Rattle.jq_meaning.specs.Runs.{Item, Run, ended, before}
use Rattle.jq_meaning.specs.machine.State.{State, Progress, moves, outputs, finishes}
use Rattle.jq_meaning.specs.machine.Machine.{step, Produces, after_end, after_output, after_move}

-- every run after a transition, where the state's own run is r
abbrev Alone : Progress → Run Item → Type 0
Alone (moves t) r = (q : Run Item) → Produces t q → r ≡ q
Alone (outputs x t) r = (q : Run Item) → Produces t q → r ≡ before (x ∷ []) q
Alone (finishes e) r = r ≡ ended e

meets : {s : State} {r q : Run Item} → Produces s q → Alone (step s) r → r ≡ q
meets {r = r} (after_end e) a = subst (λ g. Alone g r) e a
meets {r = r} (after_output {r = q} e p) a = subst (λ g. Alone g r) e a q p
meets {r = r} (after_move {r = q} e p) a = subst (λ g. Alone g r) e a q p

alone : {s : State} {r : Run Item} → Produces s r → Alone (step s) r
alone {r = r} (after_end {e = f} e) = subst (λ g. Alone g (ended f)) (sym e) refl
alone (after_output {x = x} {r = r} e p) = subst (λ g. Alone g (before (x ∷ []) r)) (sym e) (λ q o. ap (before (x ∷ [])) (meets o (alone p)))
alone (after_move {r = r} e p) = subst (λ g. Alone g r) (sym e) (λ q o. meets o (alone p))

pub produces-one : (s : State) (r q : Run Item) → Produces s r → Produces s q → r ≡ q
produces-one s r q p o = meets o (alone p)
