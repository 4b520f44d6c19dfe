-- Each transition of a state keeps the remaining run, or gives its first item or its ending; and the remaining work falls.
use Rattle.std.proofs.Common.{◌≡◌, ℕ, zero, suc, ◌+◌, ◌*◌, ◌<◌, ◌≤◌, List, [], ◌∷◌, length, refl, sym, ap, ◌∙◌, subst, arith}
use Rattle.jq_tree.specs.Tree.{Tree}
use Rattle.jq_meaning.specs.Runs.{Item, Ending, Done, Raised, Broken, Stopped, Run, ended, none, before}
use Rattle.jq_meaning.specs.Env.{Env}
use Rattle.jq_meaning.specs.machine.State.{Scope, Frame, Next, evaluate, give, matching, matched, go_back, raise, leave, quit, ForkPoint, State, state, Progress, moves, outputs, finishes}
use Rattle.jq_meaning.specs.machine.Evaluating.{enter}
use Rattle.jq_meaning.specs.machine.Machine.{step_of, step, find_handler, find_label, Produces, after_end, after_output, after_move}
use Rattle.jq_meaning.specs.laws.Starts.{start}
use Rattle.jq_meaning.proofs.shared.machine.Flow.{Cells, feed, outside}
use Rattle.jq_meaning.proofs.shared.machine.Behaviours.{rest}
use Rattle.jq_meaning.proofs.shared.machine.Events.{Event, erase}
use Rattle.jq_meaning.proofs.shared.machine.Ticks.{ticks}
use Rattle.jq_meaning.proofs.shared.machine.Reading.{meaning_at, traced_at, run_at, still, to_come}
use Rattle.jq_meaning.specs.machine.Heights.{ForksFit, NextFits, Fit}
use Rattle.jq_meaning.proofs.shared.machine.Comings.{Paid}
use Rattle.jq_meaning.proofs.shared.machine.Evaluates.{enters}
use Rattle.jq_meaning.proofs.shared.machine.Gives.{gives}
use Rattle.jq_meaning.proofs.shared.machine.Matches.{match_pattern-paid, match_later-paid}
use Rattle.jq_meaning.proofs.shared.machine.Returns.{Back, gone, marked, resumes, Searched, raises, leaves, sinks_through}

-- the work that remains: the marks that are still to come, and the fork points
abbrev pub left : State → ℕ
left s = 3 * length (still s).items + length s.forks

abbrev pub Right : State → Progress → Type 0
Right s (moves t) = Fit t × (left t < left s) × (to_come s ≡ to_come t)
Right s (outputs x t) = Fit t × (left t < left s) × (to_come s ≡ before (x ∷ []) (to_come t))
Right s (finishes e) = to_come s ≡ ended e

-- ---- marks

pub erase-ticks : (n : ℕ) (r : Run (Event Item)) → erase (ticks n r) ≡ erase r
erase-ticks zero r = refl
erase-ticks (suc n) r = erase-ticks n r

ticks-length : (n : ℕ) (r : Run (Event Item)) → length (ticks n r).items ≡ n + length r.items
ticks-length zero r = omega arith
ticks-length (suc n) r = ap suc (ticks-length n r) ∙ omega arith

marks-right : (s t : State) (n : ℕ) → still s ≡ ticks (suc n) (still t) → length t.forks ≤ length s.forks + 2 → Fit t → Right s (moves t)
marks-right s t n e low fit =
    let l : length (still s).items ≡ suc n + length (still t).items = ap (λ (r : Run (Event Item)). length r.items) e ∙ ticks-length (suc n) (still t) in
    (fit, omega (arith, l), ap erase e ∙ erase-ticks (suc n) (still t))

paid-right : {s t : State} → Paid s t → Right s (moves t)
paid-right {s = s} {t = t} p = marks-right s t p.more p.same p.low p.fit

back-right : {s t : State} → Back s t → Right s (moves t)
back-right {s = s} {t = t} (gone e low fit) =
    let l : length (still s).items ≡ length (still t).items = ap (λ (r : Run (Event Item)). length r.items) e in (fit, omega (arith, l), ap erase e)
back-right (marked p) = paid-right p

searched-right : (s : State) (g : Progress) → Searched (still s) (length s.forks) g → Right s g
searched-right s (moves t) p = marks-right s t p.0 p.1 p.2 p.3
searched-right s (outputs x t) p = absurd p
searched-right s (finishes e) p = ap erase p

-- ---- every state

step_of-right : (n : Next) (k : List Frame) (fs : List ForkPoint) → NextFits (length fs) n k → ForksFit fs → Right (state n k fs) (step_of n k fs)
step_of-right (evaluate t p x) k fs fit forks =
    let q = enters k fs fit forks t p x in marks-right (state (evaluate t p x) k fs) (enter t p x k fs) q.more q.same q.low q.fit
step_of-right (give x) [] fs fit forks = (record { frames = tt; forks = forks }, omega arith, refl)
step_of-right (give x) (f ∷ k) fs fit forks = paid-right (gives f x k fs fit forks)
step_of-right (matching q v ts b p) k fs fit forks = paid-right (match_pattern-paid k fs forks q v ts b p fit)
step_of-right (matched ts b p) k fs fit forks = paid-right (match_later-paid k fs forks ts b p fit)
step_of-right go_back k [] fit forks = refl
step_of-right go_back k (f ∷ fs) fit forks = back-right (resumes k f.frames fs f.cell forks.1 forks.2 f.choice forks.0)
step_of-right (raise v) k fs fit forks = searched-right (state (raise v) k fs) (find_handler v k fs) (raises fs forks v k fit)
step_of-right (leave level) k fs fit forks = searched-right (state (leave level) k fs) (find_label level k fs) (leaves fs forks level k fit)
step_of-right (quit stop) k fs fit forks = ap erase (sinks_through fs forks stop k fit)

pub step-right : (s : State) → Fit s → Right s (step s)
step-right s fit = step_of-right s.next s.frames s.forks fit.frames fit.forks

-- ---- so the machine produces the remaining run

follow : (s : State) (g : Progress) → step s ≡ g → Right s g → ((t : State) → Fit t → left t < left s → Produces t (to_come t)) → Produces s (to_come s)
follow s (moves t) e r ih = subst (λ (q : Run Item). Produces s q) (sym r.2) (after_move e (ih t r.0 r.1))
follow s (outputs x t) e r ih = subst (λ (q : Run Item). Produces s q) (sym r.2) (after_output e (ih t r.0 r.1))
follow s (finishes f) e r ih = subst (λ (q : Run Item). Produces s q) (sym r) (after_end e)

produces-within : (n : ℕ) (s : State) → Fit s → left s < n → Produces s (to_come s)
produces-within zero s fit low = absurd (omega arith)
produces-within (suc n) s fit low = follow s (step s) refl (step-right s fit) (λ t q less. produces-within n t q (omega arith))

pub produces : (s : State) → Fit s → Produces s (to_come s)
produces s fit = produces-within (suc (left s)) s fit (omega arith)

-- ---- the start

feed-outside : {A : Type 0} (xs : List A) (e : Ending) (s : Cells) → feed {A = A} {T = A} outside (record { items = xs; ending = e }) (λ u. none) s ≡ record { items = xs; ending = e }
feed-outside [] Done s = refl
feed-outside [] (Raised v) s = refl
feed-outside [] (Broken k) s = refl
feed-outside [] (Stopped stop) s = refl
feed-outside (x ∷ xs) e s = ap (before (x ∷ [])) (feed-outside xs e s)

rest-start : (S : Type 0) {A : Type 0} (r : Run A) (s : Cells) → rest {A = A} {S = S} r [] [] s ≡ r
rest-start S r s = feed-outside r.items r.ending s

pub start-to_come : (t : Tree) (p : Scope) (x : Item) → to_come (start t p x) ≡ meaning_at t p x
start-to_come t p x = ap erase (rest-start (Event Env) (run_at t p x) (λ n. [])) ∙ (traced_at t p x).same

pub start-produces : (t : Tree) (p : Scope) (x : Item) → Produces (start t p x) (meaning_at t p x)
start-produces t p x = subst (λ (q : Run Item). Produces (start t p x) q) (start-to_come t p x) (produces (start t p x) (record { frames = tt; forks = tt }))
