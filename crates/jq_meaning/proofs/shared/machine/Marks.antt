-- A mark passes every frame, so each transition that uses up a mark leaves less work.
use Rattle.std.proofs.Common.{◌≡◌, ℕ, List, [], ◌∷◌, length, nat_eq, if◌then◌else◌, Bool, true, false, refl, sym, ap, ◌∙◌, arith}
use Rattle.std.proofs.lemmas.Bool.Decides.{nat_tests}
use Rattle.jq_meaning.specs.Runs.{Run, none, one, before, then_run}
use Rattle.jq_meaning.specs.machine.State.{Cell}
use Rattle.jq_meaning.proofs.shared.machine.Flow.{Cells, put, Rest, Flow, feed, Taken, turn_flow, FoldBehaviour, source_flow}
use Rattle.jq_meaning.proofs.shared.machine.Behaviours.{Behaviour, through, guard, turn, fold_source, Waiting, pending, Cuts, frame_flow, flow_of, cuts_of, rest, Fits}
use Rattle.jq_meaning.proofs.shared.machine.Events.{Event, visit, output, tick, on_output, store_output}
use Rattle.jq_meaning.proofs.shared.machine.FlowLaws.{feed-before}
use Rattle.jq_meaning.proofs.shared.machine.RestLaws.{rest-then_run}

put-same-at : (t : Bool) (n h : ℕ) (s : Cells) → nat_eq n h ≡ t → (if t then s h else s n) ≡ s n
put-same-at true n h s e = let p : n ≡ h = grind (arith, nat_tests) in ap s (sym p)
put-same-at false n h s e = refl

pub put-same : (h : ℕ) (s : Cells) → put h (s h) s ≡ s
put-same h s = λ i n. put-same-at (nat_eq n h) n h s refl i

-- ---- frames that let a mark pass

pub record FoldPasses {S A : Type 0} (f : FoldBehaviour (Event S) (Event A) (Event A)) : Type 0 where
  pub begins : (c : Cell) → f.begin visit c ≡ c
  pub updates : (c : Cell) → f.update visit c ≡ one visit
  pub stores : (c : Cell) → f.store visit c ≡ c
  pub extracts : f.extract visit visit ≡ one visit
  pub checks : (c d : Cell) → f.check visit c d ≡ none

abbrev pub BehaviourPasses : {A S : Type 0} → Behaviour (Event A) (Event S) → Type 0
BehaviourPasses (through g) = g visit ≡ one visit
BehaviourPasses (guard h take) = Unit {0}
BehaviourPasses (turn h store extract) = ((c : Cell) → store visit c ≡ c) × (extract visit ≡ one visit)
BehaviourPasses (fold_source h pattern f) = (pattern visit ≡ one visit) × FoldPasses f

abbrev pub Pass : {A S : Type 0} → List (Behaviour (Event A) (Event S)) → Type 0
Pass [] = Unit {0}
Pass (f ∷ k) = BehaviourPasses f × Pass k

turn-marks : {A T : Type 0} (h : ℕ) (store : Event A → Cell → Cell) (extract : Event A → Run (Event A)) (w : Flow (Event A) (Event T))
    → ((a : Rest (Event T)) → ◌≡◌ {A = Rest (Event T)} (w.give visit a) (λ s. before (visit ∷ []) (a s))) → ((c : Cell) → store visit c ≡ c) → extract visit ≡ one visit
    → (a : Rest (Event T)) (s : Cells) → (turn_flow h store extract w).give visit a s ≡ before (visit ∷ []) (a s)
turn-marks {T = T} h store extract w p q r a s =
    ap (λ (d : Cell). feed w (extract visit) a (put h d s)) (q (s h))
    ∙ ap (feed w (extract visit) a) (put-same h s)
    ∙ ap (λ (x : Run (Event _)). feed w x a s) r
    ∙ ap (λ (b : Rest (Event T)). b s) (p a)

pub source-marks : {S A T : Type 0} (h : ℕ) (f : FoldBehaviour (Event S) (Event A) (Event A)) (w : Flow (Event A) (Event T))
    → ((a : Rest (Event T)) → ◌≡◌ {A = Rest (Event T)} (w.give visit a) (λ s. before (visit ∷ []) (a s))) → FoldPasses f
    → (a : Rest (Event T)) (s : Cells) → (source_flow h f w).give visit a s ≡ before (visit ∷ []) (a s)
source-marks {A = A} {T = T} h f w p q a s =
    let after : Rest (Event T) = λ u. feed w (f.check visit (s h) (u h)) a u in
    let v = turn_flow h f.store (f.extract visit) w in
    ap (λ (d : Cell). feed v (f.update visit (s h)) after (put h d s)) (q.begins (s h))
    ∙ ap (feed v (f.update visit (s h)) after) (put-same h s)
    ∙ ap (λ (x : Run (Event A)). feed v x after s) (q.updates (s h))
    ∙ turn-marks h f.store (f.extract visit) w p q.stores q.extracts after s
    ∙ ap (λ (x : Run (Event A)). before (visit ∷ []) (feed w x a s)) (q.checks (s h) (s h))

frame-marks : {A S : Type 0} (c : Cuts (Event A)) (f : Behaviour (Event A) (Event S)) (w : Flow (Event A) (Event A))
    → ((a : Rest (Event A)) → ◌≡◌ {A = Rest (Event A)} (w.give visit a) (λ s. before (visit ∷ []) (a s))) → BehaviourPasses f
    → (a : Rest (Event A)) → ◌≡◌ {A = Rest (Event A)} ((frame_flow c f w).give visit a) (λ s. before (visit ∷ []) (a s))
frame-marks c (through g) w p q a = ap (λ x. feed w x a) q ∙ p a
frame-marks c (guard h take) w p q a = p a
frame-marks c (turn h store extract) w p q a = λ i s. turn-marks h store extract w p q.0 q.1 a s i
frame-marks c (fold_source h pattern f) w p q a = ap (λ x. feed (source_flow h f w) x a) q.0 ∙ (λ i s. source-marks h f w p q.1 a s i)

pub flow-marks : {A S : Type 0} (c : Cuts (Event A)) (k : List (Behaviour (Event A) (Event S))) → Pass k
    → (a : Rest (Event A)) → ◌≡◌ {A = Rest (Event A)} ((flow_of c k).give visit a) (λ s. before (visit ∷ []) (a s))
flow-marks c [] p a = refl
flow-marks c (f ∷ k) p a = frame-marks c f (flow_of c k) (flow-marks c k p.1) p.0 a

-- a mark in front of a run is a mark in front of the remaining run
pub rest-tick : {A S : Type 0} (r : Run (Event A)) (k : List (Behaviour (Event A) (Event S))) (fs : List (Waiting (Event A) (Event S))) (s : Cells) → Pass k → rest (tick r) k fs s ≡ tick (rest r k fs s)
rest-tick {A = A} r k fs s p =
    let w = flow_of (cuts_of fs) k in
    ap (λ (a : Rest (Event A)). a s) (feed-before w (visit ∷ []) r (cuts_of fs (length fs)) ∙ flow-marks (cuts_of fs) k p (feed w r (cuts_of fs (length fs))))

-- ---- the transitions, each with its mark

module _ {A S : Type 0} (k : List (Behaviour (Event A) (Event S))) (fs : List (Waiting (Event A) (Event S))) (s : Cells) (pass : Pass k) where
  pub paid-comma : (r t : Run (Event A)) → Fits (length fs) k → rest (tick (then_run r t)) k fs s ≡ tick (rest r k (pending t k ∷ fs) s)
  paid-comma r t p = rest-tick (then_run r t) k fs s pass ∙ ap (λ (a : Rest (Event A)). tick (a s)) (rest-then_run r t k fs p)

  pub paid-turn : (x : A) (h : ℕ) (store : A → Cell → Cell) (extract : A → Run (Event A)) → rest (one (output x)) (turn h (store_output store) (on_output extract) ∷ k) fs s ≡ tick (rest (extract x) k fs (put h (store x (s h)) s))
  paid-turn x h store extract = rest-tick (extract x) k fs (put h (store x (s h)) s) pass

  -- it passes a handler or a label
  pub paid-pass : (x : A) (h : ℕ) (take : Taken (Event A)) → rest (one (output x)) (through (on_output (λ y. one (output y))) ∷ guard h take ∷ k) fs s ≡ tick (rest (one (output x)) k fs s)
  paid-pass x h take = rest-tick (one (output x)) k fs s pass
