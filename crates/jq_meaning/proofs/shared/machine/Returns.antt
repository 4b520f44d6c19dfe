-- Going back to the newest fork point, an error on its way to its handler, and a break on its way to its label.
use Rattle.std.proofs.Common.{◌≡◌, ℕ, suc, ◌+◌, ◌<◌, ◌≤◌, List, [], ◌∷◌, length, nat_eq, if◌then◌else◌, Bool, true, false, Some, refl, sym, ap, ◌∙◌, arith}
use Rattle.jv_data.specs.Value.{Value, null}
use Rattle.jq_tree.specs.Tree.{Tree}
use Rattle.jq_meaning.specs.Runs.{Item, plain, located, Ending, Done, Raised, Broken, Stop, Stopped, Run, ended, none, one, bind, path_error, array_of_items}
use Rattle.jq_meaning.specs.Env.{Env}
use Rattle.jq_meaning.specs.machine.State.{Scope, body, fold_step, Frame, source, pattern_key, left_side, try_body, label_body, Next, evaluate, give, go_back, raise, leave, quit, Choice, other, remaining, collected, last_state, no_more, right_side, check_update, Cell, ForkPoint, fork, State, state, Progress, moves, outputs, finishes}
use Rattle.jq_meaning.specs.machine.Stack.{cut, cell_at}
use Rattle.jq_meaning.specs.machine.Operations.{note_true, refusing, deliver_items, state_in}
use Rattle.jq_meaning.specs.machine.Machine as steps
use Rattle.jq_meaning.specs.machine.Machine.{resume, resume_deliver, find_handler, find_label}
use Rattle.jq_meaning.proofs.shared.machine.Flow as flow
use Rattle.jq_meaning.proofs.shared.machine.Flow.{Cells, Taken}
use Rattle.jq_meaning.proofs.shared.machine.FlowLaws.{put-here, put-other}
use Rattle.jq_meaning.proofs.shared.machine.Behaviours.{Behaviour, through, guard, turn, rest}
use Rattle.jq_meaning.proofs.shared.machine.RestLaws as rests
use Rattle.jq_meaning.proofs.shared.machine.RestLaws.{Stops, breaks, sinks, rest-back, rest-bind, stop-out, stop-through, stop-passes, stop-taken}
use Rattle.jq_meaning.proofs.shared.machine.Shapes.{on_raised, on_break, on_silenced, if_empty, missing}
use Rattle.jq_meaning.proofs.shared.machine.Events.{Event, output, tick, on_output, store_output}
use Rattle.jq_meaning.proofs.shared.machine.Traced.{spread, t_without_path, pass, true_output}
use Rattle.jq_meaning.proofs.shared.machine.TracedMeaning.{t_on_error}
use Rattle.jq_meaning.proofs.shared.machine.Marks.{rest-tick}
use Rattle.jq_meaning.proofs.shared.machine.Ticks.{ticks}
use Rattle.jq_meaning.proofs.shared.machine.Reading.{Behaviours, WaitingRuns, meaning_at, traced_at, run_at, behaviours, push, waiting_run, waiting, cells, still}
use Rattle.jq_meaning.specs.machine.Heights.{Fits, ForksFit, ChoiceFits, Fit, NextFits}
use Rattle.jq_meaning.proofs.shared.machine.Invariants.{fits_higher, outer, sound_frames, waiting-length}
use Rattle.jq_meaning.proofs.shared.machine.StackLaws.{cells-at, cut-length, cut_fits, pop-cell, rest-cut}
use Rattle.jq_meaning.proofs.shared.machine.Comings.{Paid, pass_frames, item-pays}

-- ---- going back

-- a state after the machine went back to a fork point: there are fewer fork points, or a mark was used up
pub data Back (s t : State) : Type 0 where
  gone : still s ≡ still t → length t.forks < length s.forks → Fit t → Back s t
  marked : Paid s t → Back s t

module _ (front k : List Frame) (fs : List ForkPoint) (d : Cell) (fit : Fits (length fs) k) (forks : ForksFit fs) where
  -- the cells, with the cell of the fork point that is removed
  abbrev held : Cells
  held = flow.put (length fs) d (cells fs)

  -- its run goes on
  goes : (c : Choice) → still (state go_back front (fork c d k ∷ fs)) ≡ rest ((waiting_run (length fs) c (behaviours k)).run (held (waiting_run (length fs) c (behaviours k)).looks_at)) (waiting_run (length fs) c (behaviours k)).frames (waiting fs) held
  goes c = rest-back (behaviours front) (waiting_run (length fs) c (behaviours k)) (waiting fs) held

  own_cell : (g : Cell → Run (Event Item)) → rest (g (held (length fs))) (behaviours k) (waiting fs) held ≡ rest (g d) (behaviours k) (waiting fs) (cells fs)
  own_cell g = ap (λ (c : Cell). rest (g c) (behaviours k) (waiting fs) held) (put-here (length fs) d (cells fs)) ∙ pop-cell (g d) (behaviours k) fs d (sound_frames (length fs) k fit).fits forks

  other_cell : (h : ℕ) (g : Cell → Run (Event Item)) → h < length fs → rest (g (held h)) (behaviours k) (waiting fs) held ≡ rest (g (cell_at h fs)) (behaviours k) (waiting fs) (cells fs)
  other_cell h g low =
      ap (λ (c : Cell). rest (g c) (behaviours k) (waiting fs) held) (put-other (length fs) h d (cells fs) (omega arith) ∙ cells-at h fs)
      ∙ pop-cell (g (cell_at h fs)) (behaviours k) fs d (sound_frames (length fs) k fit).fits forks

  back-to : (c : Choice) (n : Next) → still (state go_back front (fork c d k ∷ fs)) ≡ still (state n k fs) → NextFits (length fs) n k → Back (state go_back front (fork c d k ∷ fs)) (state n k fs)
  back-to c n e p = gone e (omega arith) (record { frames = p; forks = forks })

  -- the remaining items
  delivers : (xs : List Item) (e : Ending) → Back (state go_back front (fork (remaining (record { items = xs; ending = e })) d k ∷ fs)) (deliver_items xs e k fs)
  delivers [] Done = back-to (remaining (record { items = []; ending = Done })) go_back (goes (remaining (record { items = []; ending = Done })) ∙ own_cell (λ c. none)) fit
  delivers [] (Raised v) = back-to (remaining (record { items = []; ending = Raised v })) (raise v) (goes (remaining (record { items = []; ending = Raised v })) ∙ own_cell (λ c. ended (Raised v))) fit
  delivers [] (Broken j) = back-to (remaining (record { items = []; ending = Broken j })) (leave j) (goes (remaining (record { items = []; ending = Broken j })) ∙ own_cell (λ c. ended (Broken j))) fit
  delivers [] (Stopped stop) = back-to (remaining (record { items = []; ending = Stopped stop })) (quit stop) (goes (remaining (record { items = []; ending = Stopped stop })) ∙ own_cell (λ c. ended (Stopped stop))) fit
  delivers (x ∷ xs) e =
      let r = spread (record { items = x ∷ xs; ending = e }) in
      let q = item-pays k fs fit forks x xs e in
      marked (record { more = q.more; same = goes (remaining (record { items = x ∷ xs; ending = e })) ∙ own_cell (λ c. r) ∙ q.same; low = omega (arith, q.low); fit = q.fit })

  empties : (g : Tree) (p : Scope) (x : Item) (c : Cell) → rest (if_empty (run_at g p x) c) (behaviours k) (waiting fs) (cells fs) ≡ still (state (steps.if_empty c (evaluate g p x)) k fs)
  empties g p x [] = refl
  empties g p x (y ∷ c) = refl

  empty_fits : (g : Tree) (p : Scope) (x : Item) (c : Cell) → NextFits (length fs) (steps.if_empty c (evaluate g p x)) k
  empty_fits g p x [] = fit
  empty_fits g p x (y ∷ c) = fit

  checks : (h : ℕ) (c : Cell) → still (state go_back front (fork (check_update h) d k ∷ fs)) ≡ rest (missing (located null []) c) (behaviours k) (waiting fs) (cells fs) → Back (state go_back front (fork (check_update h) d k ∷ fs)) (resume_deliver c k fs)
  checks h [] e = gone e (omega arith) (record { frames = fit; forks = forks })
  checks h (x ∷ c) e = gone e (omega arith) (record { frames = fit; forks = forks })

  pub resumes : (c : Choice) → ChoiceFits (length fs) c → Back (state go_back front (fork c d k ∷ fs)) (resume c d k fs)
  resumes (other g p x) q = back-to (other g p x) (evaluate g p x) (goes (other g p x) ∙ own_cell (λ c. run_at g p x)) fit
  resumes (remaining r) q = delivers r.items r.ending
  resumes collected q = back-to collected (give (plain (array_of_items d))) (goes collected ∙ own_cell (λ c. one (output (plain (array_of_items c))))) fit
  resumes last_state q = back-to last_state (give (state_in d)) (goes last_state ∙ own_cell (λ c. one (output (state_in c)))) fit
  resumes no_more q = back-to no_more go_back (goes no_more ∙ own_cell (λ c. none)) fit
  resumes (right_side g p x) q = back-to (right_side g p x) (steps.if_empty d (evaluate g p x)) (goes (right_side g p x) ∙ own_cell (if_empty (run_at g p x)) ∙ empties g p x d) (empty_fits g p x d)
  resumes (check_update h) q = checks h (cell_at h fs) (goes (check_update h) ∙ other_cell h (missing (located null [])) q)

-- ---- an ending goes to the frame that catches it

-- x is the remaining run of the state that the search leads to, or the ending of the whole run
abbrev pub Searched : Run (Event Item) → ℕ → Progress → Type 0
Searched x n (moves t) = (more : ℕ) × (x ≡ ticks (suc more) (still t)) × (length t.forks ≤ n + 2) × Fit t
Searched x n (outputs y t) = ⊥
Searched x n (finishes e) = x ≡ ended e

searched-same : {x y : Run (Event Item)} (n : ℕ) (g : Progress) → x ≡ y → Searched y n g → Searched x n g
searched-same n (moves t) e p = (p.0, e ∙ p.1, p.2, p.3)
searched-same n (outputs z t) e p = p
searched-same n (finishes f) e p = e ∙ p

-- frames that an ending passes
abbrev Skips : Ending → Frame → Type 0
Skips Done f = ⊥
Skips (Raised v) (try_body h g p x) = ⊥
Skips (Raised v) (left_side h) = ⊥
Skips (Broken j) (label_body h level) = ⊥
Skips e f = Unit {0}

skips : (e : Ending) (f : Frame) (B : Behaviours) (W : WaitingRuns) (s : Cells) → Skips e f → rest (ended e) (push f B) W s ≡ rest (ended e) B W s
skips Done f B W s c = absurd c
skips (Raised v) (try_body h g p x) B W s c = absurd c
skips (Raised v) (left_side h) B W s c = absurd c
skips (Raised v) (source r (body t x) p) B W s c = refl
skips (Raised v) (source r (fold_step h f) p) B W s c = refl
skips (Raised v) (pattern_key r ps w ts (body t x) p) B W s c = refl
skips (Raised v) (pattern_key r ps w ts (fold_step h f) p) B W s c = refl
skips (Raised v) f B W s c = refl
skips (Broken j) (label_body h level) B W s c = absurd c
skips (Broken j) (source r (body t x) p) B W s c = refl
skips (Broken j) (source r (fold_step h f) p) B W s c = refl
skips (Broken j) (pattern_key r ps w ts (body t x) p) B W s c = refl
skips (Broken j) (pattern_key r ps w ts (fold_step h f) p) B W s c = refl
skips (Broken j) f B W s c = refl
skips (Stopped stop) (source r (body t x) p) B W s c = refl
skips (Stopped stop) (source r (fold_step h f) p) B W s c = refl
skips (Stopped stop) (pattern_key r ps w ts (body t x) p) B W s c = refl
skips (Stopped stop) (pattern_key r ps w ts (fold_step h f) p) B W s c = refl
skips (Stopped stop) f B W s c = refl

-- ---- a frame catches an ending: the stack is cut, and a run that begins with a mark goes on

module _ (fs : List ForkPoint) (forks : ForksFit fs) where
  abbrev above : Run (Event Item) → List Frame → Run (Event Item)
  above r k = rest r (behaviours k) (waiting fs) (cells fs)

  -- the stack at a height
  cuts : (h : ℕ) (r : Run (Event Item)) (k : List Frame) → h ≤ length fs → Fits h k → rest r (behaviours k) (cut h (waiting fs)) (cells fs) ≡ rest r (behaviours k) (waiting (cut h fs)) (cells (cut h fs))
  cuts h r k low fit = rest-cut r (behaviours k) h fs low (sound_frames h k fit).fits forks

  cut_fit : (h : ℕ) (k : List Frame) → h ≤ length fs → Fits h k → Fits (length (cut h fs)) k
  cut_fit h k low fit = let e = cut-length h fs low in rw e fit

  -- one that goes back
  goes_back : (h : ℕ) (k : List Frame) → h ≤ length fs → Fits h k → Searched (rest (tick none) (behaviours k) (cut h (waiting fs)) (cells fs)) (length fs) (moves (state go_back k (cut h fs)))
  goes_back h k low fit =
      let gs = cut h fs in
      (0, cuts h (tick none) k low fit ∙ rest-tick none (behaviours k) (waiting gs) (cells gs) (pass_frames h k fit), omega (arith, cut-length h fs low), record { frames = cut_fit h k low fit; forks = cut_fits h fs forks })

  -- the handler of a `try`
  handler-run : (g : Tree) (p : Scope) (x : Item) (v : Value) → (t_on_error (meaning_at g p) x v (traced_at g p (plain v))).trace ≡ (t_without_path x (traced_at g p (plain v))).trace
  unfolding t_on_error
  handler-run g p x v = refl

  handles : (x : Item) (h : ℕ) (g : Tree) (p : Scope) (v : Value) (k : List Frame) → h ≤ length fs → Fits h k
      → Searched (rest (tick (t_without_path x (traced_at g p (plain v))).trace) (behaviours k) (cut h (waiting fs)) (cells fs)) (length fs) (moves (state (evaluate g p (plain v)) (refusing x k) (cut h fs)))
  handles (plain w) h g p v k low fit =
      let gs = cut h fs in
      (0, cuts h (tick (run_at g p (plain v))) k low fit ∙ rest-tick (run_at g p (plain v)) (behaviours k) (waiting gs) (cells gs) (pass_frames h k fit), omega (arith, cut-length h fs low), record { frames = cut_fit h k low fit; forks = cut_fits h fs forks })
  handles (located w path) h g p v k low fit =
      let gs = cut h fs in
      let r = tick (run_at g p (plain v)) in
      let o = on_output (λ (y : Item). spread path_error) in
      let B = behaviours k in (
        1,
        cuts h (tick (bind r o)) k low fit
            ∙ rest-tick (bind r o) B (waiting gs) (cells gs) (pass_frames h k fit)
            ∙ ap (λ a. tick (a (cells gs))) (rest-bind r o B (waiting gs))
            ∙ ap tick (rest-tick (run_at g p (plain v)) (through o ∷ B) (waiting gs) (cells gs) (refl, pass_frames h k fit)),
        omega (arith, cut-length h fs low),
        record { frames = (tt, cut_fit h k low fit); forks = cut_fits h fs forks },
      )

  -- the frame that catches it
  taken_by : (e : Ending) → Stops e → (h : ℕ) (take : Taken (Event Item)) (r : Run (Event Item)) (k : List Frame) → take e ≡ Some r → h ≤ length fs → Fits h k
      → rest (ended e) (through pass ∷ guard h take ∷ behaviours k) (waiting fs) (cells fs) ≡ rest r (behaviours k) (cut h (waiting fs)) (cells fs)
  taken_by e q h take r k t low fit =
      ap (λ a. a (cells fs)) (stop-through pass (guard h take ∷ behaviours k) (waiting fs) q ∙ stop-taken h take r (behaviours k) (waiting fs) q t (omega (arith, waiting-length fs, low)) (sound_frames h k fit).fits)

  -- ---- an error

  pub raises : (v : Value) (k : List Frame) → Fits (length fs) k → Searched (above (ended (Raised v)) k) (length fs) (find_handler v k fs)
  raises v [] fit = stop-out (waiting fs) (cells fs) (rests.raises v)
  raises v (try_body h g p x ∷ k) fit =
      let R = (t_on_error (meaning_at g p) x v (traced_at g p (plain v))).trace in
      searched-same (length fs) (moves (state (evaluate g p (plain v)) (refusing x k) (cut h fs)))
      (taken_by (Raised v) (rests.raises v) h (on_raised (λ w. tick (t_on_error (meaning_at g p) x w (traced_at g p (plain w))).trace)) (tick R) k refl fit.0 fit.1
      ∙ ap (λ (r : Run (Event Item)). rest (tick r) (behaviours k) (cut h (waiting fs)) (cells fs)) (handler-run g p x v))
      (handles x h g p v k fit.0 fit.1)
  raises v (left_side h ∷ k) fit =
      let T = turn h (store_output note_true) (on_output true_output) in
      searched-same (length fs) (moves (state go_back k (cut (suc h) fs)))
      (ap (λ a. a (cells fs)) (stop-taken (suc h) (on_silenced (tick none)) (tick none) (T ∷ behaviours k) (waiting fs) (rests.raises v) refl (omega (arith, waiting-length fs, fit.0)) (omega arith, (sound_frames (suc h) k (fits_higher h (suc h) k (omega arith) fit.1)).fits))
      ∙ mark_here T)
      (goes_back (suc h) k fit.0 (fits_higher h (suc h) k (omega arith) fit.1))
    where
      mark_here : (T : Behaviour (Event Item) (Event Env)) → rest (tick none) (turn h (store_output note_true) (on_output true_output) ∷ behaviours k) (cut (suc h) (waiting fs)) (cells fs) ≡ rest (tick none) (behaviours k) (cut (suc h) (waiting fs)) (cells fs)
      mark_here T =
          let B = behaviours k in
          let W = cut (suc h) (waiting fs) in
          rest-tick none (turn h (store_output note_true) (on_output true_output) ∷ B) W (cells fs) (((λ c. refl), refl), pass_frames h k fit.1) ∙ sym (rest-tick none B W (cells fs) (pass_frames h k fit.1))
  raises v (f ∷ k) fit =
      searched-same (length fs) (find_handler v k fs) (skips (Raised v) f (behaviours k) (waiting fs) (cells fs) tt) (raises v k (outer (length fs) f k fit))

  -- ---- a break

  labels_here : (t : Bool) (level h here : ℕ) (k : List Frame) → nat_eq level here ≡ t → h ≤ length fs → Fits h k → Searched (above (ended (Broken level)) k) (length fs) (find_label level k fs)
      → Searched (above (ended (Broken level)) (label_body h here ∷ k)) (length fs) (if t then moves (state go_back k (cut h fs)) else find_label level k fs)
  labels_here true level h here k e low fit ih =
      searched-same (length fs) (moves (state go_back k (cut h fs))) (taken_by (Broken level) (breaks level) h (on_break (tick none) here) (tick none) k (rw e refl) low fit) (goes_back h k low fit)
  labels_here false level h here k e low fit ih =
      searched-same (length fs) (find_label level k fs) (ap (λ a. a (cells fs)) (stop-through pass (guard h (on_break (tick none) here) ∷ behaviours k) (waiting fs) (breaks level) ∙ stop-passes h (on_break (tick none) here) (behaviours k) (waiting fs) (breaks level) (rw e refl))) ih

  pub leaves : (level : ℕ) (k : List Frame) → Fits (length fs) k → Searched (above (ended (Broken level)) k) (length fs) (find_label level k fs)
  leaves level [] fit = stop-out (waiting fs) (cells fs) (breaks level)
  leaves level (label_body h here ∷ k) fit = labels_here (nat_eq level here) level h here k refl fit.0 fit.1 (leaves level k (outer (length fs) (label_body h here) k fit))
  leaves level (f ∷ k) fit =
      searched-same (length fs) (find_label level k fs) (skips (Broken level) f (behaviours k) (waiting fs) (cells fs) tt) (leaves level k (outer (length fs) f k fit))

  -- ---- a stop: no frame catches that

  pub sinks_through : (stop : Stop) (k : List Frame) → Fits (length fs) k → above (ended (Stopped stop)) k ≡ ended (Stopped stop)
  sinks_through stop [] fit = stop-out (waiting fs) (cells fs) (sinks stop)
  sinks_through stop (f ∷ k) fit = skips (Stopped stop) f (behaviours k) (waiting fs) (cells fs) tt ∙ sinks_through stop k (outer (length fs) f k fit)
