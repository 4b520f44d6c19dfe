-- What a transition keeps: the remaining run, and heights in range.
use Rattle.std.proofs.Common.{◌≡◌, ◌<◌, List, [], ◌∷◌, refl, sym, ◌∙◌, subst}
use Rattle.jq_tree.specs.Tree.{Tree}
use Rattle.jq_meaning.specs.Runs.{Item, Ending, Run, ended, before}
use Rattle.jq_meaning.specs.machine.State.{Scope, Frame, evaluate, ForkPoint, State, state, Progress, moves, outputs, finishes}
use Rattle.jq_meaning.specs.machine.Heights.{Fit}
use Rattle.jq_meaning.specs.machine.Operations.{deliver}
use Rattle.jq_meaning.specs.machine.Machine.{step, Produces, after_end, after_output, after_move, Reaches, here, onward}
use Rattle.jq_meaning.specs.laws.Starts.{start}
use Rattle.jq_meaning.proofs.shared.machine.Reading.{meaning_at, to_come}
use Rattle.jq_meaning.proofs.shared.machine.Comings.{deliver-comes}
use Rattle.jq_meaning.proofs.shared.machine.Correct.{left, Right, step-right, produces}
use Rattle.jq_meaning.proofs.shared.machine.AtOnce.{at_once}
use Rattle.jq_meaning.proofs.shared.machine.Uniqueness.{produces-one}

-- what follows a transition
abbrev Follows : Progress → Run Item → Type 0
Follows (moves t) r = Produces t r
Follows (outputs x t) r = (q : Run Item) × Produces t q × (r ≡ before (x ∷ []) q)
Follows (finishes e) r = r ≡ ended e

follows : {s : State} {r : Run Item} → Produces s r → Follows (step s) r
follows (after_end {e = e} p) = subst (λ g. Follows g (ended e)) (sym p) refl
follows (after_output {x = x} {r = r} p q) = subst (λ g. Follows g (before (x ∷ []) r)) (sym p) (r, q, refl)
follows (after_move {r = r} p q) = subst (λ g. Follows g r) (sym p) q

pub keeps-moves : (s t : State) (r : Run Item) → Produces s r → step s ≡ moves t → Produces t r
keeps-moves s t r p e = subst (λ g. Follows g r) e (follows p)

pub keeps-outputs : (s t : State) (x : Item) (r : Run Item) → Produces s r → step s ≡ outputs x t → (q : Run Item) × Produces t q × (r ≡ before (x ∷ []) q)
keeps-outputs s t x r p e = subst (λ g. Follows g r) e (follows p)

pub keeps-finishes : (s : State) (e : Ending) (r : Run Item) → Produces s r → step s ≡ finishes e → r ≡ ended e
keeps-finishes s e r p q = subst (λ g. Follows g r) q (follows p)

-- ---- heights, and the remaining work

pub start-fits : (t : Tree) (p : Scope) (x : Item) → Fit (start t p x)
start-fits t p x = record { frames = tt; forks = tt }

right-moves : (s t : State) → Fit s → step s ≡ moves t → Right s (moves t)
right-moves s t fit e = subst (λ g. Right s g) e (step-right s fit)

pub fits-moves : (s t : State) → Fit s → step s ≡ moves t → Fit t
fits-moves s t fit e = (right-moves s t fit e).0

pub fits-outputs : (s t : State) (x : Item) → Fit s → step s ≡ outputs x t → Fit t
fits-outputs s t x fit e = let r : Right s (outputs x t) = subst (λ g. Right s g) e (step-right s fit) in r.0

pub left-falls : (s t : State) → Fit s → step s ≡ moves t → left t < left s
left-falls s t fit e = (right-moves s t fit e).1

-- ---- several transitions

pub keeps-reaches : (s t : State) (r : Run Item) → Produces s r → Reaches s t → Produces t r
keeps-reaches s t r p here = p
keeps-reaches s t r p (onward {t = u} e m) = keeps-reaches u t r (keeps-moves s u r p e) m

pub fits-reaches : (s t : State) → Fit s → Reaches s t → Fit t
fits-reaches s t f here = f
fits-reaches s t f (onward {t = u} e m) = fits-reaches u t (fits-moves s u f e) m

pub reaches-produces : (s t : State) (r : Run Item) → Reaches s t → Produces t r → Produces s r
reaches-produces s t r here p = p
reaches-produces s t r (onward {t = u} e m) p = after_move e (reaches-produces u t r m p)

-- ---- a filter that is run at once

pub produces-at_once : (t : Tree) (p : Scope) (x : Item) (k : List Frame) (fs : List ForkPoint) (r : Run Item) → Fit (state (evaluate t p x) k fs)
    → Produces (state (evaluate t p x) k fs) r → Produces (deliver (meaning_at t p x) k fs) r
produces-at_once t p x k fs r fit q =
    let s = state (evaluate t p x) k fs in
    let d = deliver (meaning_at t p x) k fs in
    subst (λ (u : Run Item). Produces d u)
    (sym (at_once t p x k fs fit.frames fit.forks) ∙ produces-one s (to_come s) r (produces s fit) q)
    (produces d (deliver-comes k fs fit.frames fit.forks (meaning_at t p x)).fit)
