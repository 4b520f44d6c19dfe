-- The cells of a stack of fork points, and what they represent when a cell is set and when the stack is cut.
use Rattle.std.proofs.Common.{◌≡◌, ◌≢◌, ℕ, suc, ◌<◌, ◌≤◌, List, [], ◌∷◌, length, nat_eq, nat_lt, if◌then◌else◌, Bool, true, false, refl, sym, ap, ◌∙◌, arith}
use Rattle.std.proofs.lemmas.Bool.Decides.{nat_tests}
use Rattle.jq_meaning.specs.Runs.{Item, Run}
use Rattle.jq_meaning.specs.machine.State.{Cell, ForkPoint, fork}
use Rattle.jq_meaning.specs.machine.Stack.{cut, cell_at, set_cell}
use Rattle.jq_meaning.proofs.shared.machine.Flow.{Cells, put}
use Rattle.jq_meaning.proofs.shared.machine.FlowLaws.{put-other, put-put, put-swap}
use Rattle.jq_meaning.proofs.shared.machine.Behaviours.{rest}
use Rattle.jq_meaning.proofs.shared.machine.Behaviours as machine
use Rattle.jq_meaning.proofs.shared.machine.RestLaws.{rest-steady}
use Rattle.jq_meaning.proofs.shared.machine.Events.{Event}
use Rattle.jq_meaning.proofs.shared.machine.Marks.{put-same}
use Rattle.jq_meaning.proofs.shared.machine.Soundness.{forks_fit}
use Rattle.jq_meaning.proofs.shared.machine.Reading.{Behaviours, WaitingRuns, behaviours, waiting_run, waiting, cells}
use Rattle.jq_meaning.specs.machine.Heights.{ForksFit}
use Rattle.jq_meaning.proofs.shared.machine.Invariants.{sound_forks, waiting-length}

-- ---- what a cell holds

pub cells-above : (fs : List ForkPoint) (n : ℕ) → length fs ≤ n → cells fs n ≡ []
cells-above [] n p = refl
cells-above (f ∷ fs) n p = put-other (length fs) n f.cell (cells fs) (omega arith) ∙ cells-above fs n (omega arith)

-- a fork point without a cell leaves the cells as they were
pub cells-none : (fs : List ForkPoint) → put (length fs) [] (cells fs) ≡ cells fs
cells-none fs = ap (λ (c : Cell). put (length fs) c (cells fs)) (sym (cells-above fs (length fs) (omega arith))) ∙ put-same (length fs) (cells fs)

at-choose : (t : Bool) (h n : ℕ) (c d : Cell) (s : Cells) → nat_eq h n ≡ t → s h ≡ d → put n c s h ≡ (if t then c else d)
at-choose true h n c d s e p = rw e refl
at-choose false h n c d s e p = rw e p

pub cells-at : (h : ℕ) (fs : List ForkPoint) → cells fs h ≡ cell_at h fs
cells-at h [] = refl
cells-at h (f ∷ fs) = at-choose (nat_eq h (length fs)) h (length fs) f.cell (cell_at h fs) (cells fs) refl (cells-at h fs)

-- ---- a cell is set

set_length-at : (t : Bool) (g f : ForkPoint) (fs gs : List ForkPoint) → length gs ≡ length fs → length (if t then g ∷ fs else f ∷ gs) ≡ suc (length fs)
set_length-at true g f fs gs p = refl
set_length-at false g f fs gs p = ap suc p

pub set-length : (h : ℕ) (c : Cell) (fs : List ForkPoint) → length (set_cell h c fs) ≡ length fs
set-length h c [] = refl
set-length h c (f ∷ fs) = set_length-at (nat_eq h (length fs)) (fork f.choice c f.frames) f fs (set_cell h c fs) (set-length h c fs)

set-at : (t : Bool) (h : ℕ) (c : Cell) (f : ForkPoint) (fs : List ForkPoint) → nat_eq h (length fs) ≡ t → h < suc (length fs) → (h < length fs → cells (set_cell h c fs) ≡ put h c (cells fs))
    → cells (if t then fork f.choice c f.frames ∷ fs else f ∷ set_cell h c fs) ≡ put h c (put (length fs) f.cell (cells fs))
set-at true h c f fs e p ih =
    let q : h ≡ length fs = grind (arith, nat_tests) in
    sym (ap (λ (i : ℕ). put i c (put (length fs) f.cell (cells fs))) q ∙ put-put (length fs) f.cell c (cells fs))
set-at false h c f fs e p ih =
    let q : h ≢ length fs = grind (arith, nat_tests) in
    let low : h < length fs = omega arith in
    ap (λ (n : ℕ). put n f.cell (cells (set_cell h c fs))) (set-length h c fs)
    ∙ ap (put (length fs) f.cell) (ih low)
    ∙ put-swap h (length fs) c f.cell (cells fs) (omega arith)

pub set-cells : (h : ℕ) (c : Cell) (fs : List ForkPoint) → h < length fs → cells (set_cell h c fs) ≡ put h c (cells fs)
set-cells h c [] p = absurd (omega arith)
set-cells h c (f ∷ fs) p = set-at (nat_eq h (length fs)) h c f fs refl p (λ q. set-cells h c fs q)

set_waiting-at : (t : Bool) (c : Cell) (f : ForkPoint) (fs gs : List ForkPoint) → length gs ≡ length fs → waiting gs ≡ waiting fs
    → waiting (if t then fork f.choice c f.frames ∷ fs else f ∷ gs) ≡ waiting (f ∷ fs)
set_waiting-at true c f fs gs p q = refl
set_waiting-at false c f fs gs p q =
    ap (λ (n : ℕ). waiting_run n f.choice (behaviours f.frames) ∷ waiting gs) p ∙ ap (λ (w : WaitingRuns). waiting_run (length fs) f.choice (behaviours f.frames) ∷ w) q

-- what is kept in fork points does not depend on cells
pub waiting-set : (h : ℕ) (c : Cell) (fs : List ForkPoint) → waiting (set_cell h c fs) ≡ waiting fs
waiting-set h c [] = refl
waiting-set h c (f ∷ fs) = set_waiting-at (nat_eq h (length fs)) c f fs (set_cell h c fs) (set-length h c fs) (waiting-set h c fs)

-- so setting a cell has the same effect in the machine
pub set-both : {A : Type 0} (g : WaitingRuns → Cells → A) (h : ℕ) (c : Cell) (fs : List ForkPoint) → h < length fs → g (waiting fs) (put h c (cells fs)) ≡ g (waiting (set_cell h c fs)) (cells (set_cell h c fs))
set-both g h c fs p = ap (λ (w : WaitingRuns). g w (put h c (cells fs))) (sym (waiting-set h c fs)) ∙ ap (g (waiting (set_cell h c fs))) (sym (set-cells h c fs p))

-- ---- the stack is cut

cut_length-at : {A : Type 0} (t : Bool) (x : A) (xs ys : List A) (h : ℕ) → nat_lt (length xs) h ≡ t → h ≤ suc (length xs) → (h ≤ length xs → length ys ≡ h) → length (if t then x ∷ xs else ys) ≡ h
cut_length-at true x xs ys h e p ih = let q : length xs < h = grind (arith, nat_tests) in omega arith
cut_length-at false x xs ys h e p ih = ih (grind (arith, nat_tests))

pub cut-length : {A : Type 0} (h : ℕ) (xs : List A) → h ≤ length xs → length (cut h xs) ≡ h
cut-length h [] p = omega arith
cut-length h (x ∷ xs) p = cut_length-at (nat_lt (length xs) h) x xs (cut h xs) h refl p (cut-length h xs)

cut_waiting-at : (t u : Bool) (f : ForkPoint) (fs gs : List ForkPoint) → t ≡ u → (ws : WaitingRuns) → waiting gs ≡ ws → waiting (if t then f ∷ fs else gs) ≡ (if u then waiting (f ∷ fs) else ws)
cut_waiting-at true u f fs gs e ws p = ap (λ (b : Bool). if b then waiting (f ∷ fs) else ws) e
cut_waiting-at false u f fs gs e ws p = p ∙ ap (λ (b : Bool). if b then waiting (f ∷ fs) else ws) e

pub waiting-cut : (h : ℕ) (fs : List ForkPoint) → waiting (cut h fs) ≡ cut h (waiting fs)
waiting-cut h [] = refl
waiting-cut h (f ∷ fs) =
    cut_waiting-at (nat_lt (length fs) h) (nat_lt (length (waiting fs)) h) f fs (cut h fs) (ap (λ (n : ℕ). nat_lt n h) (sym (waiting-length fs))) (cut h (waiting fs)) (waiting-cut h fs)

fit-choose : (t : Bool) (fs gs : List ForkPoint) → ForksFit fs → ForksFit gs → ForksFit (if t then fs else gs)
fit-choose true fs gs p q = p
fit-choose false fs gs p q = q

pub cut_fits : (h : ℕ) (fs : List ForkPoint) → ForksFit fs → ForksFit (cut h fs)
cut_fits h [] p = tt
cut_fits h (f ∷ fs) p = fit-choose (nat_lt (length fs) h) (f ∷ fs) (cut h fs) p (cut_fits h fs p.2)

-- cells above the stack do not matter
pub pop-cell : (r : Run (Event Item)) (K : Behaviours) (fs : List ForkPoint) (c : Cell) → machine.Fits (length fs) K → ForksFit fs → rest r K (waiting fs) (put (length fs) c (cells fs)) ≡ rest r K (waiting fs) (cells fs)
pop-cell r K fs c p q =
    let e = waiting-length fs in
    rest-steady r K (waiting fs) (length fs) c (cells fs) (omega (arith, e)) (rw e p) (forks_fit (waiting fs) (sound_forks fs q))

cut_cells-at : (t : Bool) (r : Run (Event Item)) (K : Behaviours) (ws : WaitingRuns) (h : ℕ) (f : ForkPoint) (fs : List ForkPoint) → nat_lt (length fs) h ≡ t → length ws ≡ h → machine.Fits (length ws) K → machine.WaitingFit ws
    → rest r K ws (cells fs) ≡ rest r K ws (cells (cut h fs)) → rest r K ws (cells (f ∷ fs)) ≡ rest r K ws (cells (if t then f ∷ fs else cut h fs))
cut_cells-at true r K ws h f fs e l p q ih = refl
cut_cells-at false r K ws h f fs e l p q ih = let low : h ≤ length fs = grind (arith, nat_tests) in rest-steady r K ws (length fs) f.cell (cells fs) (omega arith) p q ∙ ih

pub cut-cells : (r : Run (Event Item)) (K : Behaviours) (ws : WaitingRuns) (h : ℕ) (fs : List ForkPoint) → length ws ≡ h → machine.Fits (length ws) K → machine.WaitingFit ws
    → rest r K ws (cells fs) ≡ rest r K ws (cells (cut h fs))
cut-cells r K ws h [] e p q = refl
cut-cells r K ws h (f ∷ fs) e p q = cut_cells-at (nat_lt (length fs) h) r K ws h f fs refl e p q (cut-cells r K ws h fs e p q)

-- the machine's cut is that of the state
pub rest-cut : (r : Run (Event Item)) (K : Behaviours) (h : ℕ) (fs : List ForkPoint) → h ≤ length fs → machine.Fits h K → ForksFit fs → rest r K (cut h (waiting fs)) (cells fs) ≡ rest r K (waiting (cut h fs)) (cells (cut h fs))
rest-cut r K h fs low p q =
    let e : length (waiting (cut h fs)) ≡ h = waiting-length (cut h fs) ∙ cut-length h fs low in
    ap (λ (w : WaitingRuns). rest r K w (cells fs)) (sym (waiting-cut h fs))
    ∙ cut-cells r K (waiting (cut h fs)) h fs e (rw e p) (forks_fit (waiting (cut h fs)) (sound_forks (cut h fs) (cut_fits h fs q)))

-- setting a cell keeps fork points that fit
set_fits-at : (t : Bool) (c : Cell) (f : ForkPoint) (fs gs : List ForkPoint) → length gs ≡ length fs → ForksFit gs → ForksFit (f ∷ fs) → ForksFit (if t then fork f.choice c f.frames ∷ fs else f ∷ gs)
set_fits-at true c f fs gs e p q = q
set_fits-at false c f fs gs e p q = rw e (q.0, q.1, p)

pub set_fits : (h : ℕ) (c : Cell) (fs : List ForkPoint) → ForksFit fs → ForksFit (set_cell h c fs)
set_fits h c [] p = tt
set_fits h c (f ∷ fs) p = set_fits-at (nat_eq h (length fs)) c f fs (set_cell h c fs) (set-length h c fs) (set_fits h c fs p.2) p
