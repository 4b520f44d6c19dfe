-- A filter whose run is known may be run at once: the marks between its items make no difference.
use Rattle.std.proofs.Common.{◌≡◌, ℕ, List, [], ◌∷◌, length, refl, sym, ap, ◌∙◌}
use Rattle.std.specs.Prelude.{map}
use Rattle.jq_tree.specs.Tree.{Tree}
use Rattle.jq_meaning.specs.Runs.{Item, Ending, Done, Raised, Broken, Stopped, Run, before}
use Rattle.jq_meaning.specs.machine.State.{Scope, Cell, Frame, evaluate, ForkPoint, state}
use Rattle.jq_meaning.specs.machine.Heights.{Fits, ForksFit}
use Rattle.jq_meaning.specs.machine.Operations.{deliver}
use Rattle.jq_meaning.proofs.shared.machine.Flow.{Cells, put, Rest, Flow, end_by, give_all, feed, turn_flow, FoldBehaviour, source_flow}
use Rattle.jq_meaning.proofs.shared.machine.Behaviours.{Behaviour, through, guard, turn, fold_source, Cuts, flow_of, cuts_of, rest}
use Rattle.jq_meaning.proofs.shared.machine.Events.{Event, visit, output, outputs, erase}
use Rattle.jq_meaning.proofs.shared.machine.Traced.{spread, spread-items}
use Rattle.jq_meaning.proofs.shared.machine.Marks.{Pass, flow-marks}
use Rattle.jq_meaning.proofs.shared.machine.Reading.{Behaviours, WaitingRuns, meaning_at, traced_at, run_at, behaviours, waiting, cells, still, to_come}
use Rattle.jq_meaning.proofs.shared.machine.Comings.{pass_frames, deliver-comes}
use Rattle.jq_meaning.proofs.shared.machine.Correct.{erase-ticks}

-- equal except for marks
abbrev pub Same : {A : Type 0} → Rest (Event A) → Rest (Event A) → Type 0
Same a b = (s : Cells) → erase (a s) ≡ erase (b s)

pub record Respects {A B : Type 0} (w : Flow A (Event B)) : Type 0 where
  pub give : (x : A) (a b : Rest (Event B)) → Same a b → Same (w.give x a) (w.give x b)

all_respects : {A B : Type 0} (w : Flow A (Event B)) → Respects w → (xs : List A) (a b : Rest (Event B)) → Same a b → Same (give_all w xs a) (give_all w xs b)
all_respects w q [] a b e = e
all_respects w q (x ∷ xs) a b e = q.give x (give_all w xs a) (give_all w xs b) (all_respects w q xs a b e)

end_respects : {A B : Type 0} (w : Flow A (Event B)) (e : Ending) (a b : Rest (Event B)) → Same a b → Same (end_by w e a) (end_by w e b)
end_respects w Done a b q = q
end_respects w (Raised v) a b q = λ s. refl
end_respects w (Broken k) a b q = λ s. refl
end_respects w (Stopped stop) a b q = λ s. refl

feed_respects : {A B : Type 0} (w : Flow A (Event B)) → Respects w → (r : Run A) (a b : Rest (Event B)) → Same a b → Same (feed w r a) (feed w r b)
feed_respects w q r a b e = all_respects w q r.items (end_by w r.ending a) (end_by w r.ending b) (end_respects w r.ending a b e)

outside_give : {A : Type 0} (x : Event A) (r q : Run (Event A)) → erase r ≡ erase q → erase (before (x ∷ []) r) ≡ erase (before (x ∷ []) q)
outside_give visit r q e = e
outside_give (output x) r q e = ap (before (x ∷ [])) e

turn_respects : {A : Type 0} (h : ℕ) (store : Event A → Cell → Cell) (extract : Event A → Run (Event A)) (w : Flow (Event A) (Event A)) → Respects w → Respects (turn_flow h store extract w)
turn_respects h store extract w q = record { give = λ x a b e s. feed_respects w q (extract x) a b e (put h (store x (s h)) s) }

pub frame_respects : {A S : Type 0} (c : Cuts (Event A)) (k : List (Behaviour (Event A) (Event S))) → Respects (flow_of c k)
frame_respects c [] = record { give = λ x a b e s. outside_give x (a s) (b s) (e s) }
frame_respects c (through g ∷ k) = record { give = λ x a b e. feed_respects (flow_of c k) (frame_respects c k) (g x) a b e }
frame_respects c (guard h take ∷ k) = record { give = (frame_respects c k).give }
frame_respects c (turn h store extract ∷ k) = turn_respects h store extract (flow_of c k) (frame_respects c k)
frame_respects c (fold_source h pattern f ∷ k) = record { give = λ x a b e. feed_respects (source_flow h f (flow_of c k)) (source_respects h f (flow_of c k) (frame_respects c k)) (pattern x) a b e }
  where
    source_respects : {A S : Type 0} (h : ℕ) (f : FoldBehaviour (Event S) (Event A) (Event A)) (w : Flow (Event A) (Event A)) → Respects w → Respects (source_flow h f w)
    source_respects h f w q =
        record {
          give = λ x a b e s.
              feed_respects (turn_flow h f.store (f.extract x) w) (turn_respects h f.store (f.extract x) w q) (f.update x (s h)) (λ u. feed w (f.check x (s h) (u h)) a u) (λ u. feed w (f.check x (s h) (u h)) b u)
              (λ u. feed_respects w q (f.check x (s h) (u h)) a b e u) (put h (f.begin x (s h)) s);
        }

-- the items of a run, without its marks
normal : {A S : Type 0} (c : Cuts (Event A)) (k : List (Behaviour (Event A) (Event S))) → Pass k → (xs : List (Event A)) (a : Rest (Event A)) → Same (give_all (flow_of c k) xs a) (give_all (flow_of c k) (map output (outputs xs)) a)
normal c k p [] a = λ s. refl
normal {A = A} c k p (visit ∷ xs) a = λ s. ap (λ (b : Rest (Event A)). erase (b s)) (flow-marks c k p (give_all (flow_of c k) xs a)) ∙ normal c k p xs a s
normal c k p (output x ∷ xs) a = (frame_respects c k).give (output x) (give_all (flow_of c k) xs a) (give_all (flow_of c k) (map output (outputs xs)) a) (normal c k p xs a)

-- the remaining run depends only on a run's items and its ending
pub rest-same : (r q : Run (Event Item)) (K : Behaviours) (W : WaitingRuns) (s : Cells) → Pass K → erase r ≡ erase q → erase (rest r K W s) ≡ erase (rest q K W s)
rest-same r q K W s p e =
    let c = cuts_of W in
    let w = flow_of c K in
    let a = c (length W) in
    normal c K p r.items (end_by w r.ending a) s
    ∙ ap (λ (u : Run Item). erase (give_all w (map output u.items) (end_by w u.ending a) s)) e
    ∙ sym (normal c K p q.items (end_by w q.ending a) s)

pub at_once : (t : Tree) (p : Scope) (x : Item) (k : List Frame) (fs : List ForkPoint) → Fits (length fs) k → ForksFit fs → to_come (state (evaluate t p x) k fs) ≡ to_come (deliver (meaning_at t p x) k fs)
at_once t p x k fs fit forks =
    let m = meaning_at t p x in
    let d = deliver-comes k fs fit forks m in
    rest-same (run_at t p x) (spread m) (behaviours k) (waiting fs) (cells fs) (pass_frames (length fs) k fit) ((traced_at t p x).same ∙ sym (spread-items m.items m.ending))
    ∙ ap erase d.same ∙ erase-ticks d.marks (still (deliver m k fs))
