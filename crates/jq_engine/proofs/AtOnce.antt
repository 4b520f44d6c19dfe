-- What a filter of at most one output that is run at once keeps, and what a step keeps.
use Rattle.std.proofs.Common.{◌≡◌, ◌≤◌, ◌<◌, List, length, subst, arith}
use Rattle.std.proofs.Math.Logic.{∥∥₁_elim}
use Rattle.jv_data.specs.Value.{Value}
use Rattle.jq_tree.specs.Tree.{Tree}
use Rattle.jq_meaning.specs.Meaning.{meaning}
use Rattle.jq_meaning.specs.Runs.{Item, Ending, Done, Raised, Broken, Stopped, Run, one, ended}
use Rattle.jq_meaning.specs.machine.Heights.{Fits, ForksFit, Fit}
use Rattle.jq_meaning.specs.machine.Machine.{Produces, step}
use Rattle.jq_meaning.specs.machine.Operations.{deliver, ending_next}
use Rattle.jq_meaning.specs.machine.State.{Scope, Frame, ForkPoint, State, state, evaluate, give}
use Rattle.jq_meaning.proofs.shared.machine.Comings.{pass_frames}
use Rattle.jq_meaning.proofs.shared.machine.Correct.{left}
use Rattle.jq_meaning.proofs.shared.machine.Reading.{meaning_at, traced_at, run_at, behaviours, waiting, cells, still}
use Rattle.jq_meaning.proofs.shared.machine.Behaviours.{rest}
use Rattle.jq_meaning.proofs.shared.machine.Kept.{keeps-moves, fits-moves, left-falls}
use Rattle.jq_state.specs.declared.states.State as states
use Rattle.jq_transitions.specs.Outcomes.{Steps}
use Rattle.jq_transitions.specs.declared.backtracking.outcomes.Progress.{Progress}
use Rattle.jq_engine.proofs.Covering.{unmarked, rest_covered}
use Rattle.jq_engine.proofs.Fitting.{Fit-prop}
use Rattle.jq_engine.specs.private.Leading.{AtOnce, unchanged, gives, ends, Advances, here, by_transition, by_run, Leads}

-- the run that is still to come
abbrev pub Law : Type 0
Law =
    (t : Tree) (p : Scope) (x : Item) (k : List Frame) (fs : List ForkPoint) (r : Run Item) → Fit (state (evaluate t p x) k fs)
    → Produces (state (evaluate t p x) k fs) r → Produces (deliver (meaning p.depth t p.env p.level x) k fs) r

ends_with : (k : List Frame) (fs : List ForkPoint) (r : Run Item) (e : Ending) → Produces (deliver (ended e) k fs) r → Produces (state (ending_next e) k fs) r
ends_with k fs r e p = p

keeps_run : Law → (s t : State) (r : Run Item) → AtOnce s t → Fit s → Produces s r → Produces t r
keeps_run law s t r unchanged f p = p
keeps_run law s t r (gives {t = u} {p = c} {x = x} {k = k} {fs = fs} y e) f p = subst (λ (m : Run Item). Produces (deliver m k fs) r) e (law u c x k fs r f p)
keeps_run law s t r (ends {t = u} {p = c} {x = x} {k = k} {fs = fs} d e) f p = ends_with k fs r d (subst (λ (m : Run Item). Produces (deliver m k fs) r) e (law u c x k fs r f p))

-- heights in range
ends_fit : (k : List Frame) (fs : List ForkPoint) (e : Ending) → Fits (length fs) k → ForksFit fs → Fit (state (ending_next e) k fs)
ends_fit k fs Done f g = record { frames = f; forks = g }
ends_fit k fs (Raised v) f g = record { frames = f; forks = g }
ends_fit k fs (Broken j) f g = record { frames = f; forks = g }
ends_fit k fs (Stopped stop) f g = record { frames = f; forks = g }

fits_run : (s t : State) → AtOnce s t → Fit s → Fit t
fits_run s t unchanged f = f
fits_run s t (gives y e) f = record { frames = f.frames; forks = f.forks }
fits_run s t (ends {k = k} {fs = fs} d e) f = ends_fit k fs d f.frames f.forks

-- what is left to do is no more
module _ (t : Tree) (p : Scope) (x : Item) (k : List Frame) (fs : List ForkPoint) (fit : Fits (length fs) k) where
  covered : length (rest (unmarked (meaning_at t p x)) (behaviours k) (waiting fs) (cells fs)).items ≤ length (still (state (evaluate t p x) k fs)).items
  covered =
      subst (λ (u : Run Item). length (rest (unmarked u) (behaviours k) (waiting fs) (cells fs)).items ≤ length (still (state (evaluate t p x) k fs)).items)
      (traced_at t p x).same (rest_covered (run_at t p x) (behaviours k) (waiting fs) (cells fs) (pass_frames (length fs) k fit))

  covered_as : (m : Run Item) → meaning_at t p x ≡ m → length (rest (unmarked m) (behaviours k) (waiting fs) (cells fs)).items ≤ length (still (state (evaluate t p x) k fs)).items
  covered_as m e = subst (λ (u : Run Item). length (rest (unmarked u) (behaviours k) (waiting fs) (cells fs)).items ≤ length (still (state (evaluate t p x) k fs)).items) e covered

  gives_low : (y : Item) → meaning_at t p x ≡ one y → left (state (give y) k fs) ≤ left (state (evaluate t p x) k fs)
  gives_low y e = let c : length (still (state (give y) k fs)).items ≤ length (still (state (evaluate t p x) k fs)).items = covered_as (one y) e in omega (arith, c)

  ends_same : (d : Ending) → length (still (state (ending_next d) k fs)).items ≤ length (rest (unmarked (ended d)) (behaviours k) (waiting fs) (cells fs)).items
  ends_same Done = omega arith
  ends_same (Raised v) = omega arith
  ends_same (Broken j) = omega arith
  ends_same (Stopped stop) = omega arith

  ends_low : (d : Ending) → meaning_at t p x ≡ ended d → left (state (ending_next d) k fs) ≤ left (state (evaluate t p x) k fs)
  ends_low d e = let c = covered_as (ended d) e in let b = ends_same d in omega (arith, b, c)

low_run : (s t : State) → AtOnce s t → Fit s → left t ≤ left s
low_run s t unchanged f = omega arith
low_run s t (gives {t = u} {p = p} {x = x} {k = k} {fs = fs} y e) f = gives_low u p x k fs f.frames y e
low_run s t (ends {t = u} {p = p} {x = x} {k = k} {fs = fs} d e) f = ends_low u p x k fs f.frames d e

-- ---- several in a row

pub fits : (s t : State) → Advances s t → Fit s → Fit t
fits s t here f = f
fits s u (by_transition {t = t} e a) f = fits t u a (fits-moves s t f e)
fits s u (by_run {t = t} o a) f = fits t u a (fits_run s t o f)

pub keeps : Law → (s t : State) (r : Run Item) → Advances s t → Fit s → Produces s r → Produces t r
keeps law s t r here f p = p
keeps law s u r (by_transition {t = t} e a) f p = keeps law t u r a (fits-moves s t f e) (keeps-moves s t r p e)
keeps law s u r (by_run {t = t} o a) f p = keeps law t u r a (fits_run s t o f) (keeps_run law s t r o f p)

pub low : (s t : State) → Advances s t → Fit s → left t ≤ left s
low s t here f = omega arith
low s u (by_transition {t = t} e a) f =
    let first : left t < left s = left-falls s t f e in
    let later : left u ≤ left t = low t u a (fits-moves s t f e) in omega (arith, first, later)
low s u (by_run {t = t} o a) f =
    let first : left t ≤ left s = low_run s t o f in
    let later : left u ≤ left t = low t u a (fits_run s t o f) in omega (arith, first, later)

-- ---- and then a step

-- A step from a state that comes after this one: there the heights are in range, no more is left to do, and the run is the same.
pub record Stepped (inputs : Run Value) (before : State) (s : states.State) (r : Progress) : Type 0 where
  pub from : State
  pub fit : Fit from
  pub less : left from ≤ left before
  pub run : (q : Run Item) → Produces before q → Produces from q
  pub steps : Steps inputs (step from) s r

pub stepped : {inputs : Run Value} {before later : State} {s : states.State} {r : Progress} → Law → AtOnce before later → Leads inputs later s r → ∥ Fit before ∥₁ → Stepped inputs before s r
stepped {before = before} law o l some =
    let a = by_run o l.advances in
    let f = ∥∥₁_elim some (Fit-prop before) (λ h. h) in
    let g = fits before l.from a f in
    record { from = l.from; fit = g; less = low before l.from a f; run = λ q p. keeps law before l.from q a f p; steps = l.steps g }
