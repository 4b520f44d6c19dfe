-- A run in its frames is the remaining run of another state, after some marks.
use Rattle.std.proofs.Common.{◌≡◌, ℕ, suc, ◌+◌, ◌≤◌, List, [], ◌∷◌, length, refl, sym, ap, ◌∙◌, arith}
use Rattle.jq_tree.specs.Tree.{Tree}
use Rattle.jq_meaning.specs.Runs.{Item, plain, Ending, Done, Raised, Broken, Stopped, Run, one, bind, path_error}
use Rattle.jv_data.specs.Value.{Value}
use Rattle.jq_meaning.specs.machine.State.{Scope, Frame, operation, refuse, Next, give, evaluate, remaining, ForkPoint, fork, State, state}
use Rattle.jq_meaning.specs.machine.Operations.{deliver_items, deliver}
use Rattle.jq_meaning.proofs.shared.machine.Flow.{Cells}
use Rattle.jq_meaning.proofs.shared.machine.Behaviours as machine
use Rattle.jq_meaning.proofs.shared.machine.Behaviours.{rest, pending}
use Rattle.jq_meaning.proofs.shared.machine.RestLaws.{rest-bind}
use Rattle.jq_meaning.proofs.shared.machine.Events.{Event, output, tick, on_output}
use Rattle.jq_meaning.proofs.shared.machine.Traced.{spread}
use Rattle.jq_meaning.proofs.shared.machine.Marks.{Pass, rest-tick, paid-comma}
use Rattle.jq_meaning.proofs.shared.machine.Ticks.{ticks}
use Rattle.jq_meaning.proofs.shared.machine.Soundness.{forks_fit}
use Rattle.jq_meaning.proofs.shared.machine.Reading.{run_at, behaviours, waiting, cells, still}
use Rattle.jq_meaning.specs.machine.Heights.{Fits, ForksFit, NextFits, Fit}
use Rattle.jq_meaning.proofs.shared.machine.Invariants.{fits_higher, sound_frames, sound_forks, waiting-length}
use Rattle.jq_meaning.proofs.shared.machine.StackLaws.{cells-none}

-- r in the frames k over the fork points fs is the remaining run of t
pub record Comes (r : Run (Event Item)) (k : List Frame) (fs : List ForkPoint) (t : State) : Type 0 where
  pub marks : ℕ
  pub same : rest r (behaviours k) (waiting fs) (cells fs) ≡ ticks marks (still t)
  pub low : length t.forks ≤ length fs + 2
  pub fit : Fit t

-- and there is at least one mark
pub record Pays (r : Run (Event Item)) (k : List Frame) (fs : List ForkPoint) (t : State) : Type 0 where
  pub more : ℕ
  pub same : rest r (behaviours k) (waiting fs) (cells fs) ≡ ticks (suc more) (still t)
  pub low : length t.forks ≤ length fs + 2
  pub fit : Fit t

-- x is the remaining run of t after some marks, where n is the height of the stack before
pub record Leads (x : Run (Event Item)) (n : ℕ) (t : State) : Type 0 where
  pub marks : ℕ
  pub same : x ≡ ticks marks (still t)
  pub low : length t.forks ≤ n + 2
  pub fit : Fit t

pub leads-tick : {x y : Run (Event Item)} {n : ℕ} {t : State} → x ≡ tick y → Leads y n t → Leads x n t
leads-tick e l = record { marks = suc l.marks; same = e ∙ ap tick l.same; low = l.low; fit = l.fit }

pub leads-same : {x y : Run (Event Item)} {n : ℕ} {t : State} → x ≡ y → Leads y n t → Leads x n t
leads-same e l = record { marks = l.marks; same = e ∙ l.same; low = l.low; fit = l.fit }

pub leads-comes : {r : Run (Event Item)} {k : List Frame} {fs : List ForkPoint} {t : State} → Comes r k fs t → Leads (rest r (behaviours k) (waiting fs) (cells fs)) (length fs) t
leads-comes c = record { marks = c.marks; same = c.same; low = c.low; fit = c.fit }

-- a transition uses up marks: t follows s
pub record Paid (s t : State) : Type 0 where
  pub more : ℕ
  pub same : still s ≡ ticks (suc more) (still t)
  pub low : length t.forks ≤ length s.forks + 2
  pub fit : Fit t

pub paid : {s t : State} {x : Run (Event Item)} → still s ≡ tick x → Leads x (length s.forks) t → Paid s t
paid e l = record { more = l.marks; same = e ∙ ap tick l.same; low = l.low; fit = l.fit }

pub pass_frames : (n : ℕ) (k : List Frame) → Fits n k → Pass (behaviours k)
pass_frames n k p = (sound_frames n k p).passes

pub machine_fits : (k : List Frame) (fs : List ForkPoint) → Fits (length fs) k → machine.Fits (length (waiting fs)) (behaviours k)
machine_fits k fs p = let e = waiting-length fs in rw e (sound_frames (length fs) k p).fits

pub machine_forks : (fs : List ForkPoint) → ForksFit fs → machine.WaitingFit (waiting fs)
machine_forks fs p = forks_fit (waiting fs) (sound_forks fs p)

module _ (k : List Frame) (fs : List ForkPoint) (fit : Fits (length fs) k) (forks : ForksFit fs) where
  pub pays : {r : Run (Event Item)} {t : State} → Comes r k fs t → Pays (tick r) k fs t
  pays {r = r} c = record { more = c.marks; same = rest-tick r (behaviours k) (waiting fs) (cells fs) (pass_frames (length fs) k fit) ∙ ap tick c.same; low = c.low; fit = c.fit }

  pub comes-tick : {r : Run (Event Item)} {t : State} → Comes r k fs t → Comes (tick r) k fs t
  comes-tick {r = r} c = record { marks = suc c.marks; same = rest-tick r (behaviours k) (waiting fs) (cells fs) (pass_frames (length fs) k fit) ∙ ap tick c.same; low = c.low; fit = c.fit }

  pub comes-same : {r r' : Run (Event Item)} {t : State} → r ≡ r' → Comes r' k fs t → Comes r k fs t
  comes-same e c = record { marks = c.marks; same = ap (λ q. rest q (behaviours k) (waiting fs) (cells fs)) e ∙ c.same; low = c.low; fit = c.fit }

  -- with the same fork points, or with one more
  pub stays : (r : Run (Event Item)) (n : Next) (k' : List Frame) → rest r (behaviours k) (waiting fs) (cells fs) ≡ still (state n k' fs) → NextFits (length fs) n k' → Comes r k fs (state n k' fs)
  stays r n k' e p = record { marks = 0; same = e; low = omega arith; fit = record { frames = p; forks = forks } }

  pub grows : (r : Run (Event Item)) (n : Next) (k' : List Frame) (f : ForkPoint) → rest r (behaviours k) (waiting fs) (cells fs) ≡ still (state n k' (f ∷ fs)) → NextFits (suc (length fs)) n k' → ForksFit (f ∷ fs) → Comes r k fs (state n k' (f ∷ fs))
  grows r n k' f e p q = record { marks = 0; same = e; low = omega arith; fit = record { frames = p; forks = q } }

  -- ---- a run that is known at once: its first item is given, and the others are kept

  waits : (x : Item) (xs : List Item) (e : Ending) → Pays (spread (record { items = x ∷ xs; ending = e })) k fs (state (give x) k (fork (remaining (record { items = xs; ending = e })) [] k ∷ fs))
  waits x xs e =
      let r = spread (record { items = xs; ending = e }) in
      let B = behaviours k in
      record {
        more = 0;
        same =
            paid-comma B (waiting fs) (cells fs) (pass_frames (length fs) k fit) (one (output x)) r (machine_fits k fs fit)
            ∙ ap (λ (s : Cells). tick (rest (one (output x)) B (pending r B ∷ waiting fs) s)) (sym (cells-none fs));
        low = omega arith;
        fit = record { frames = fits_higher (length fs) (suc (length fs)) k (omega arith) fit; forks = (tt, fit, forks) };
      }

  pub item-pays : (x : Item) (xs : List Item) (e : Ending) → Pays (spread (record { items = x ∷ xs; ending = e })) k fs (deliver_items (x ∷ xs) e k fs)
  item-pays x [] Done =
      record { more = 0; same = rest-tick (one (output x)) (behaviours k) (waiting fs) (cells fs) (pass_frames (length fs) k fit); low = omega arith; fit = record { frames = fit; forks = forks } }
  item-pays x xs e = waits x xs e

  deliver_items-comes : (xs : List Item) (e : Ending) → Comes (spread (record { items = xs; ending = e })) k fs (deliver_items xs e k fs)
  deliver_items-comes [] Done = record { marks = 0; same = refl; low = omega arith; fit = record { frames = fit; forks = forks } }
  deliver_items-comes [] (Raised v) = record { marks = 0; same = refl; low = omega arith; fit = record { frames = fit; forks = forks } }
  deliver_items-comes [] (Broken j) = record { marks = 0; same = refl; low = omega arith; fit = record { frames = fit; forks = forks } }
  deliver_items-comes [] (Stopped stop) = record { marks = 0; same = refl; low = omega arith; fit = record { frames = fit; forks = forks } }
  deliver_items-comes (x ∷ xs) e = let q = item-pays x xs e in record { marks = suc q.more; same = q.same; low = q.low; fit = q.fit }

  pub deliver-comes : (r : Run Item) → Comes (spread r) k fs (deliver r k fs)
  deliver-comes r = deliver_items-comes r.items r.ending

  -- ---- a form that has no paths, on an item with a path

  pub refused : (t : Tree) (p : Scope) (v : Value) (r : Run (Event Item)) → run_at t p (plain v) ≡ tick r
      → Comes (bind (tick r) (on_output (λ x. spread path_error))) k fs (state (evaluate t p (plain v)) (operation refuse ∷ k) fs)
  refused t p v r e =
      let g = on_output (λ (x : Item). spread path_error) in
      let B = behaviours k in
      stays (bind (tick r) g) (evaluate t p (plain v)) (operation refuse ∷ k)
      (ap (λ a. a (cells fs)) (rest-bind (tick r) g B (waiting fs)) ∙ ap (λ (q : Run (Event Item)). rest q (machine.through g ∷ B) (waiting fs) (cells fs)) (sym e)) (tt, fit)
