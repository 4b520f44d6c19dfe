-- A run without its marks leaves no more to do.
use Rattle.std.proofs.Common.{◌≡◌, ◌≤◌, ℕ, suc, List, [], ◌∷◌, length, map, ap, arith}
use Rattle.jq_meaning.specs.Runs.{Item, Ending, Done, Raised, Broken, Stopped, Run, before}
use Rattle.jq_meaning.specs.machine.State.{Cell}
use Rattle.jq_meaning.proofs.shared.machine.Flow.{Cells, put, Rest, Flow, end_by, give_all, feed, turn_flow, FoldBehaviour, source_flow}
use Rattle.jq_meaning.proofs.shared.machine.Behaviours.{Behaviour, through, guard, turn, fold_source, Cuts, flow_of, cuts_of, rest}
use Rattle.jq_meaning.proofs.shared.machine.Events.{Event, visit, output, outputs}
use Rattle.jq_meaning.proofs.shared.machine.Marks.{Pass, flow-marks}
use Rattle.jq_meaning.proofs.shared.machine.Reading.{Behaviours, WaitingRuns}

-- as many items, or more
abbrev Covers : {A : Type 0} → Rest (Event A) → Rest (Event A) → Type 0
Covers a b = (s : Cells) → length (b s).items ≤ length (a s).items

record Grows {A B : Type 0} (w : Flow A (Event B)) : Type 0 where
  pub give : (x : A) (a b : Rest (Event B)) → Covers a b → Covers (w.give x a) (w.give x b)

all_cover : {A B : Type 0} (w : Flow A (Event B)) → Grows w → (xs : List A) (a b : Rest (Event B)) → Covers a b → Covers (give_all w xs a) (give_all w xs b)
all_cover w q [] a b e = e
all_cover w q (x ∷ xs) a b e = q.give x (give_all w xs a) (give_all w xs b) (all_cover w q xs a b e)

end_cover : {A B : Type 0} (w : Flow A (Event B)) (e : Ending) (a b : Rest (Event B)) → Covers a b → Covers (end_by w e a) (end_by w e b)
end_cover w Done a b q = q
end_cover w (Raised v) a b q = λ s. omega arith
end_cover w (Broken k) a b q = λ s. omega arith
end_cover w (Stopped stop) a b q = λ s. omega arith

feed_cover : {A B : Type 0} (w : Flow A (Event B)) → Grows w → (r : Run A) (a b : Rest (Event B)) → Covers a b → Covers (feed w r a) (feed w r b)
feed_cover w q r a b e = all_cover w q r.items (end_by w r.ending a) (end_by w r.ending b) (end_cover w r.ending a b e)

turn_grows : {A : Type 0} (h : ℕ) (store : Event A → Cell → Cell) (extract : Event A → Run (Event A)) (w : Flow (Event A) (Event A)) → Grows w → Grows (turn_flow h store extract w)
turn_grows h store extract w q = record { give = λ x a b e s. feed_cover w q (extract x) a b e (put h (store x (s h)) s) }

one_more : {A : Type 0} (x : A) (r q : Run A) → length r.items ≤ length q.items → length (before (x ∷ []) r).items ≤ length (before (x ∷ []) q).items
one_more x r q e = omega (arith, e)

frame_grows : {A S : Type 0} (c : Cuts (Event A)) (k : List (Behaviour (Event A) (Event S))) → Grows (flow_of c k)
frame_grows c [] = record { give = λ x a b e s. one_more x (b s) (a s) (e s) }
frame_grows c (through g ∷ k) = record { give = λ x a b e. feed_cover (flow_of c k) (frame_grows c k) (g x) a b e }
frame_grows c (guard h take ∷ k) = record { give = (frame_grows c k).give }
frame_grows c (turn h store extract ∷ k) = turn_grows h store extract (flow_of c k) (frame_grows c k)
frame_grows c (fold_source h pattern f ∷ k) = record { give = λ x a b e. feed_cover (source_flow h f (flow_of c k)) (source_grows h f (flow_of c k) (frame_grows c k)) (pattern x) a b e }
  where
    source_grows : {A S : Type 0} (h : ℕ) (f : FoldBehaviour (Event S) (Event A) (Event A)) (w : Flow (Event A) (Event A)) → Grows w → Grows (source_flow h f w)
    source_grows h f w q =
        record {
          give = λ x a b e s.
              feed_cover (turn_flow h f.store (f.extract x) w) (turn_grows h f.store (f.extract x) w q) (f.update x (s h)) (λ u. feed w (f.check x (s h) (u h)) a u) (λ u. feed w (f.check x (s h) (u h)) b u)
              (λ u. feed_cover w q (f.check x (s h) (u h)) a b e u) (put h (f.begin x (s h)) s);
        }

-- the items alone are no more than the items with their marks
items_covered : {A S : Type 0} (c : Cuts (Event A)) (k : List (Behaviour (Event A) (Event S))) → Pass k → (xs : List (Event A)) (a : Rest (Event A)) → Covers (give_all (flow_of c k) xs a) (give_all (flow_of c k) (map output (outputs xs)) a)
items_covered c k p [] a = λ s. omega arith
items_covered {A = A} c k p (visit ∷ xs) a = λ s.
    let e : length ((flow_of c k).give visit (give_all (flow_of c k) xs a) s).items ≡ suc (length (give_all (flow_of c k) xs a s).items) =
    ap (λ (b : Rest (Event A)). length (b s).items) (flow-marks c k p (give_all (flow_of c k) xs a)) in
    omega (arith, e, items_covered c k p xs a s)
items_covered c k p (output x ∷ xs) a = (frame_grows c k).give (output x) (give_all (flow_of c k) xs a) (give_all (flow_of c k) (map output (outputs xs)) a) (items_covered c k p xs a)

-- a run without its marks
abbrev pub unmarked : Run Item → Run (Event Item)
unmarked u = record { items = map output u.items; ending = u.ending }

pub rest_covered : (r : Run (Event Item)) (K : Behaviours) (W : WaitingRuns) (s : Cells) → Pass K
    → length (rest (record { items = map output (outputs r.items); ending = r.ending }) K W s).items ≤ length (rest r K W s).items
rest_covered r K W s p =
    let c = cuts_of W in
    let w = flow_of c K in items_covered c K p r.items (end_by w r.ending (c (length W))) s
