-- Each transition of the machine keeps the remaining run.
use Rattle.std.proofs.Common.{◌≡◌, ℕ, suc, ◌<◌, ◌≤◌, List, [], ◌∷◌, length, nat_lt, if◌then◌else◌, Bool, true, false, Option, Some, None, refl, sym, ap, ◌∙◌, arith}
use Rattle.std.proofs.lemmas.Bool.Decides.{nat_tests}
use Rattle.jv_data.specs.Value.{Value}
use Rattle.jq_meaning.specs.Runs.{Ending, Done, Raised, Broken, Stop, Stopped, Run, ended, none, one, then_run, bind}
use Rattle.jq_meaning.specs.machine.State.{Cell}
use Rattle.jq_meaning.specs.machine.Stack.{cut}
use Rattle.jq_meaning.proofs.shared.machine.Flow.{Cells, put, Rest, at, Flow, end_by, feed, outside, through_flow, Taken, take_or, guard_flow, turn_flow, FoldBehaviour, source_flow, guarded, stored, folded}
use Rattle.jq_meaning.proofs.shared.machine.Behaviours.{Behaviour, through, guard, turn, fold_source, Waiting, pending, Cuts, frame_flow, flow_of, resumed, cuts_of, rest, BehaviourFits, Fits, WaitingFit}
use Rattle.jq_meaning.proofs.shared.machine.FlowLaws.{put-here, put-other, feed-then_run, feed-bind, feed-guarded, Local, local-feed, feed-stored, feed-folded, local-outside, local-through, local-guard, local-turn, local-source}

-- ---- cuts at a height, and frames that fit

pub cut_top : {A S : Type 0} (f : Waiting A S) (fs : List (Waiting A S)) → cuts_of (f ∷ fs) (suc (length fs)) ≡ resumed f (length fs) (cuts_of fs)
cut_top f fs = let e : nat_lt (length fs) (suc (length fs)) ≡ true = grind (arith, nat_tests) in rw e refl

pub cut_lower : {A S : Type 0} (f : Waiting A S) (fs : List (Waiting A S)) (h : ℕ) → h ≤ length fs → cuts_of (f ∷ fs) h ≡ cuts_of fs h
cut_lower f fs h p = let e : nat_lt (length fs) h ≡ false = grind (arith, nat_tests) in rw e refl

frame_higher : {A S : Type 0} (n m : ℕ) (f : Behaviour A S) → n ≤ m → BehaviourFits n f → BehaviourFits m f
frame_higher n m (through g) p q = tt
frame_higher n m (guard h take) p q = omega arith
frame_higher n m (turn h store extract) p q = omega arith
frame_higher n m (fold_source h pattern f) p q = omega arith

pub fits_higher : {A S : Type 0} (n m : ℕ) (k : List (Behaviour A S)) → n ≤ m → Fits n k → Fits m k
fits_higher n m [] p q = tt
fits_higher n m (f ∷ k) p q = (frame_higher n m f p q.0, fits_higher n m k p q.1)

-- frames that fit a height depend only on the cuts up to there
abbrev pub Agree : {A : Type 0} → ℕ → Cuts A → Cuts A → Type 0
Agree n c d = (h : ℕ) → h ≤ n → c h ≡ d h

frame-agrees : {A S : Type 0} (n : ℕ) (f : Behaviour A S) (c d : Cuts A) (w : Flow A A) → Agree n c d → BehaviourFits n f → frame_flow c f w ≡ frame_flow d f w
frame-agrees n (through g) c d w same p = refl
frame-agrees n (guard h take) c d w same p = ap (λ a. guard_flow take a w) (same h p)
frame-agrees n (turn h store extract) c d w same p = refl
frame-agrees n (fold_source h pattern f) c d w same p = refl

pub flow-agrees : {A S : Type 0} (n : ℕ) (k : List (Behaviour A S)) (c d : Cuts A) → Agree n c d → Fits n k → flow_of c k ≡ flow_of d k
flow-agrees n [] c d same p = refl
flow-agrees n (f ∷ k) c d same p = frame-agrees n f c d (flow_of c k) same p.0 ∙ ap (frame_flow d f) (flow-agrees n k c d same p.1)

pub flow-pushed : {A S : Type 0} (f : Waiting A S) (fs : List (Waiting A S)) (k : List (Behaviour A S)) → Fits (length fs) k → flow_of (cuts_of fs) k ≡ flow_of (cuts_of (f ∷ fs)) k
flow-pushed f fs k p = flow-agrees (length fs) k (cuts_of fs) (cuts_of (f ∷ fs)) (λ h q. sym (cut_lower f fs h q)) p

-- frames that fit a height do not change a cell from there on
frame-local : {A S : Type 0} (n h : ℕ) (f : Behaviour A S) (c : Cuts A) (w : Flow A A) → n ≤ h → BehaviourFits n f → ((i : ℕ) → i ≤ n → (d : Cell) → at h d (c i) ≡ c i) → Local h w → Local h (frame_flow c f w)
frame-local n h (through g) c w p q steady l = local-through h g w l
frame-local n h (guard i take) c w p q steady l = local-guard h take (c i) w l (steady i q)
frame-local n h (turn i store extract) c w p q steady l = local-turn h i store extract w (omega arith) l
frame-local n h (fold_source i pattern f) c w p q steady l = local-through h pattern (source_flow i f w) (local-source h i f w (omega arith) l)

flow-local : {A S : Type 0} (n h : ℕ) (k : List (Behaviour A S)) (c : Cuts A) → n ≤ h → Fits n k → ((i : ℕ) → i ≤ n → (d : Cell) → at h d (c i) ≡ c i) → Local h (flow_of c k)
flow-local n h [] c p q steady = local-outside h
flow-local n h (f ∷ k) c p q steady = frame-local n h f c (flow_of c k) p q.0 steady (flow-local n h k c p q.1 steady)

resumed-steady : {A S : Type 0} (f : Waiting A S) (m h : ℕ) (c : Cuts A) → m < h → f.looks_at ≤ m → Local h (flow_of c f.frames) → ((d : Cell) → at h d (c m) ≡ c m) → (d : Cell) → at h d (resumed f m c) ≡ resumed f m c
resumed-steady {A = A} f m h c p q l steady d = λ i s. here s i
  where
    here : (s : Cells) → resumed f m c (put h d s) ≡ resumed f m c s
    here s =
        ap (λ (e : Cell). feed (flow_of c f.frames) (f.run e) (c m) (put h d s)) (put-other h f.looks_at d s (omega arith))
        ∙ ap (λ (b : Rest A). b s) (local-feed h (flow_of c f.frames) l d (f.run (s f.looks_at)) (c m) ∙ ap (feed (flow_of c f.frames) (f.run (s f.looks_at))) (steady d))

choose-steady : {A : Type 0} (t : Bool) (h : ℕ) (d : Cell) (a b : Rest A) → at h d a ≡ a → at h d b ≡ b → at h d (if t then a else b) ≡ (if t then a else b)
choose-steady true h d a b p q = p
choose-steady false h d a b p q = q

-- what remains of a stack up to a height does not read a cell from there on
pub cuts-steady : {A S : Type 0} (fs : List (Waiting A S)) → WaitingFit fs → (i h : ℕ) → i ≤ h → length fs ≤ h → (d : Cell) → at h d (cuts_of fs i) ≡ cuts_of fs i
cuts-steady [] w i h p q d = refl
cuts-steady (f ∷ fs) w i h p q d =
    choose-steady (nat_lt (length fs) i) h d (resumed f (length fs) (cuts_of fs)) (cuts_of fs i)
    (resumed-steady f (length fs) h (cuts_of fs) q w.0 (flow-local (length fs) h f.frames (cuts_of fs) (omega arith) w.1 (λ j r e. cuts-steady fs w.2 j h (omega arith) (omega arith) e)) (λ e. cuts-steady fs w.2 (length fs) h (omega arith) (omega arith) e) d)
    (cuts-steady fs w.2 i h p (omega arith) d)

pub local-here : {A S : Type 0} (k : List (Behaviour A S)) (fs : List (Waiting A S)) (h : ℕ) → length fs ≤ h → Fits (length fs) k → WaitingFit fs → Local h (flow_of (cuts_of fs) k)
local-here k fs h p q w = flow-local (length fs) h k (cuts_of fs) p q (λ i r d. cuts-steady fs w i h (omega arith) p d)

-- ---- a cell above the stack does not matter

pub rest-steady : {A S : Type 0} (r : Run A) (k : List (Behaviour A S)) (fs : List (Waiting A S)) (h : ℕ) (d : Cell) (s : Cells) → length fs ≤ h → Fits (length fs) k → WaitingFit fs → rest r k fs (put h d s) ≡ rest r k fs s
rest-steady {A = A} r k fs h d s p q w =
    ap (λ (b : Rest A). b s) (local-feed h (flow_of (cuts_of fs) k) (local-here k fs h p q w) d r (cuts_of fs (length fs)) ∙ ap (feed (flow_of (cuts_of fs) k) r) (cuts-steady fs w (length fs) h p p d))

-- ---- forms

-- a comma, and each item with others after it: the others are kept
pub rest-then_run : {A S : Type 0} (r t : Run A) (k : List (Behaviour A S)) (fs : List (Waiting A S)) → Fits (length fs) k → rest (then_run r t) k fs ≡ rest r k (pending t k ∷ fs)
rest-then_run r t k fs p =
    let w = flow_of (cuts_of fs) k in
    feed-then_run w r t (cuts_of fs (length fs))
    ∙ ap (feed w r) (sym (cut_top (pending t k) fs))
    ∙ ap (λ v. feed v r (cuts_of (pending t k ∷ fs) (suc (length fs)))) (flow-pushed (pending t k) fs k p)

-- a pipe
pub rest-bind : {A S : Type 0} (r : Run A) (g : A → Run A) (k : List (Behaviour A S)) (fs : List (Waiting A S)) → rest (bind r g) k fs ≡ rest r (through g ∷ k) fs
rest-bind r g k fs = feed-bind (flow_of (cuts_of fs) k) g r (cuts_of fs (length fs))

-- try, label
pub rest-guarded : {A S : Type 0} (take : Taken A) (r : Run A) (k : List (Behaviour A S)) (fs : List (Waiting A S)) → take Done ≡ None → rest (guarded take r) k fs ≡ rest r (guard (length fs) take ∷ k) fs
rest-guarded take r k fs p = feed-guarded (flow_of (cuts_of fs) k) take r (cuts_of fs (length fs)) p

-- the fork point of a form with a cell: the result of the cell at the end
abbrev pub finishing : {A S : Type 0} → (Cell → Run A) → List (Behaviour A S) → List (Waiting A S) → Waiting A S
finishing finish k fs = record { looks_at = length fs; run = finish; frames = k }

finish-at : {A S : Type 0} (finish : Cell → Run A) (k : List (Behaviour A S)) (fs : List (Waiting A S)) → Fits (length fs) k → WaitingFit fs → (d : Cell)
    → feed (flow_of (cuts_of fs) k) (finish d) (cuts_of fs (length fs)) ≡ at (length fs) d (cuts_of (finishing finish k fs ∷ fs) (suc (length fs)))
finish-at {A = A} finish k fs p q d = (λ i s. here s i) ∙ ap (at (length fs) d) (sym (cut_top (finishing finish k fs) fs))
  where
    here : (s : Cells) → rest (finish d) k fs s ≡ rest (finish (put (length fs) d s (length fs))) k fs (put (length fs) d s)
    here s = sym (rest-steady (finish d) k fs (length fs) d s (omega arith) p q) ∙ ap (λ (c : Cell). rest (finish c) k fs (put (length fs) d s)) (sym (put-here (length fs) d s))

-- an array, the left side of //
pub rest-stored : {A S : Type 0} (store : A → Cell → Cell) (extract : A → Run A) (finish : Cell → Run A) (c : Cell) (r : Run A) (k : List (Behaviour A S)) (fs : List (Waiting A S)) (s : Cells) → Fits (length fs) k → WaitingFit fs
    → rest (stored store extract finish c r) k fs s ≡ rest r (turn (length fs) store extract ∷ k) (finishing finish k fs ∷ fs) (put (length fs) c s)
rest-stored {A = A} store extract finish c r k fs s p q =
    let f = finishing finish k fs in
    let n = length fs in
    let last = cuts_of (f ∷ fs) (suc n) in
    ap (λ (b : Rest A). b s) (feed-stored n (flow_of (cuts_of fs) k) (local-here k fs n (omega arith) p q) store extract finish (cuts_of fs n) last (finish-at finish k fs p q) r c
    ∙ ap (λ (w : Flow A A). at n c (feed (turn_flow n store extract w) r last)) (flow-pushed f fs k p))

-- a fold, whose source makes bindings
pub rest-folded : {A S : Type 0} (f : FoldBehaviour S A A) (finish : Cell → Run A) (c : Cell) (r : Run A) (pattern : A → Run S) (k : List (Behaviour A S)) (fs : List (Waiting A S)) (s : Cells) → Fits (length fs) k → WaitingFit fs
    → rest (folded f finish (bind r pattern).items (bind r pattern).ending c) k fs s ≡ rest r (fold_source (length fs) pattern f ∷ k) (finishing finish k fs ∷ fs) (put (length fs) c s)
rest-folded {A = A} f finish c r pattern k fs s p q =
    let g = finishing finish k fs in
    let n = length fs in
    let last = cuts_of (g ∷ fs) (suc n) in
    ap (λ (b : Rest A). b s) (feed-folded n (flow_of (cuts_of fs) k) (local-here k fs n (omega arith) p q) f finish (cuts_of fs n) last (finish-at finish k fs p q) (bind r pattern).items (bind r pattern).ending c
    ∙ ap (λ (w : Flow A A). at n c (feed (source_flow n f w) (bind r pattern) last)) (flow-pushed g fs k p)
    ∙ ap (at n c) (feed-bind (source_flow n f (flow_of (cuts_of (g ∷ fs)) k)) pattern r last))

-- ---- an item is given to a frame

-- the last step of a fold for an item of its source: the update runs, and the check is kept
abbrev pub checking : {A S : Type 0} → ℕ → (Cell → Run A) → List (Behaviour A S) → Waiting A S
checking h check k = record { looks_at = h; run = check; frames = k }

source-top : {A S : Type 0} (h : ℕ) (f : FoldBehaviour S A A) (b : S) (c : Cell) (k : List (Behaviour A S)) (fs : List (Waiting A S)) → Fits (length fs) k
    → feed (turn_flow h f.store (f.extract b) (flow_of (cuts_of fs) k)) (f.update b c) (λ s. feed (flow_of (cuts_of fs) k) (f.check b c (s h)) (cuts_of fs (length fs)) s)
    ≡ rest (f.update b c) (turn h f.store (f.extract b) ∷ k) (checking h (f.check b c) k ∷ fs)
source-top {A = A} h f b c k fs p =
    let g = checking h (f.check b c) k in
    ap (λ (w : Flow A A). feed (turn_flow h f.store (f.extract b) w) (f.update b c) (resumed g (length fs) (cuts_of fs))) (flow-pushed g fs k p)
    ∙ ap (feed (flow_of (cuts_of (g ∷ fs)) (turn h f.store (f.extract b) ∷ k)) (f.update b c)) (sym (cut_top g fs))

-- a single list of bindings
pub give-source-one : {A S : Type 0} (x : A) (b : S) (h : ℕ) (pattern : A → Run S) (f : FoldBehaviour S A A) (k : List (Behaviour A S)) (fs : List (Waiting A S)) (s : Cells) → Fits (length fs) k
    → pattern x ≡ one b
    → rest (one x) (fold_source h pattern f ∷ k) fs s ≡ rest (f.update b (s h)) (turn h f.store (f.extract b) ∷ k) (checking h (f.check b (s h)) k ∷ fs) (put h (f.begin b (s h)) s)
give-source-one {A = A} {S = S} x b h pattern f k fs s p q =
    ap (λ (r : Run S). feed (source_flow h f (flow_of (cuts_of fs) k)) r (cuts_of fs (length fs)) s) q
    ∙ ap (λ (r : Rest A). r (put h (f.begin b (s h)) s)) (source-top h f b (s h) k fs p)

-- ---- a run ends: the newest fork point goes on

pub rest-back : {A S : Type 0} (k : List (Behaviour A S)) (f : Waiting A S) (fs : List (Waiting A S)) (s : Cells) → rest none k (f ∷ fs) s ≡ rest (f.run (s f.looks_at)) f.frames fs s
rest-back {A = A} k f fs s = ap (λ (a : Rest A). a s) (cut_top f fs)

-- a fork point that has no items may be removed
pub rest-drop : {A S : Type 0} (r : Run A) (i : ℕ) (k k' : List (Behaviour A S)) (fs : List (Waiting A S)) → Fits (length fs) k → rest r k (checking i (λ c. none) k' ∷ fs) ≡ rest r k fs
rest-drop {A = A} r i k k' fs p =
    ap (feed (flow_of (cuts_of (checking i (λ c. none) k' ∷ fs)) k) r) (cut_top (checking i (λ c. none) k') fs)
    ∙ ap (λ (w : Flow A A). feed w r (cuts_of fs (length fs))) (sym (flow-pushed (checking i (λ c. none) k') fs k p))

-- ---- an item is given

-- ---- an ending other than Done goes to a frame that catches it

pub data Stops : Ending → Type 0 where
  raises : (v : Value) → Stops (Raised v)
  breaks : (k : ℕ) → Stops (Broken k)
  sinks : (stop : Stop) → Stops (Stopped stop)

stops : {A T : Type 0} {e : Ending} (w : Flow A T) (a : Rest T) → Stops e → end_by w e a ≡ w.stop e
stops w a (raises v) = refl
stops w a (breaks k) = refl
stops w a (sinks stop) = refl

pub stop-out : {A S : Type 0} {e : Ending} (fs : List (Waiting A S)) (s : Cells) → Stops e → rest {A = A} (ended e) [] fs s ≡ ended e
stop-out {A = A} fs s p = ap (λ (a : Rest A). a s) (stops (outside {T = A}) (cuts_of fs (length fs)) p)

pub stop-through : {A S : Type 0} {e : Ending} (g : A → Run A) (k : List (Behaviour A S)) (fs : List (Waiting A S)) → Stops e → rest (ended e) (through g ∷ k) fs ≡ rest (ended e) k fs
stop-through g k fs p = stops (through_flow g (flow_of (cuts_of fs) k)) (cuts_of fs (length fs)) p ∙ sym (stops (flow_of (cuts_of fs) k) (cuts_of fs (length fs)) p)

take-none : {A : Type 0} (w : Flow A A) (cut : Rest A) (e : Ending) (o : Option (Run A)) → o ≡ None → take_or w cut e o ≡ w.stop e
take-none w cut e None p = refl
take-none w cut e (Some r) p = cc

take-some : {A : Type 0} (w : Flow A A) (cut : Rest A) (e : Ending) (o : Option (Run A)) (r : Run A) → o ≡ Some r → take_or w cut e o ≡ feed w r cut
take-some w cut e o r p = ap (take_or w cut e) p

pub stop-passes : {A S : Type 0} {e : Ending} (h : ℕ) (take : Taken A) (k : List (Behaviour A S)) (fs : List (Waiting A S)) → Stops e → take e ≡ None → rest (ended e) (guard h take ∷ k) fs ≡ rest (ended e) k fs
stop-passes {e = e} h take k fs p q =
    let w = flow_of (cuts_of fs) k in
    stops (guard_flow take (cuts_of fs h) w) (cuts_of fs (length fs)) p ∙ take-none w (cuts_of fs h) e (take e) q ∙ sym (stops w (cuts_of fs (length fs)) p)

choose_length : {A S : Type 0} (t : Bool) (f : Waiting A S) (fs : List (Waiting A S)) (h : ℕ) → nat_lt (length fs) h ≡ t → h ≤ suc (length fs) → (h ≤ length fs → length (cut h fs) ≡ h) → length (if t then f ∷ fs else cut h fs) ≡ h
choose_length true f fs h e p ih = let q : length fs < h = grind (arith, nat_tests) in omega arith
choose_length false f fs h e p ih = ih (grind (arith, nat_tests))

pub cut-length : {A S : Type 0} (h : ℕ) (fs : List (Waiting A S)) → h ≤ length fs → length (cut h fs) ≡ h
cut-length h [] p = omega arith
cut-length h (f ∷ fs) p = choose_length (nat_lt (length fs) h) f fs h refl p (cut-length h fs)

choose_same : {A S : Type 0} (t : Bool) (f : Waiting A S) (fs : List (Waiting A S)) (h m : ℕ) → nat_lt (length fs) h ≡ t → m ≤ h → (h ≤ length fs → cuts_of (cut h fs) m ≡ cuts_of fs m) → cuts_of (if t then f ∷ fs else cut h fs) m ≡ cuts_of (f ∷ fs) m
choose_same true f fs h m e q ih = refl
choose_same false f fs h m e q ih =
    let low : h ≤ length fs = grind (arith, nat_tests) in ih low ∙ sym (cut_lower f fs m (omega arith))

pub cut-same : {A S : Type 0} (h m : ℕ) (fs : List (Waiting A S)) → m ≤ h → h ≤ length fs → cuts_of (cut h fs) m ≡ cuts_of fs m
cut-same h m [] q p = refl
cut-same h m (f ∷ fs) q p = choose_same (nat_lt (length fs) h) f fs h m refl q (λ low. cut-same h m fs q low)

-- an error goes to its handler, a break to its label, an error on the left of // to the fork point of //
pub stop-taken : {A S : Type 0} {e : Ending} (h : ℕ) (take : Taken A) (r : Run A) (k : List (Behaviour A S)) (fs : List (Waiting A S)) → Stops e → take e ≡ Some r → h ≤ length fs → Fits h k
    → rest (ended e) (guard h take ∷ k) fs ≡ rest r k (cut h fs)
stop-taken {A = A} {e = e} h take r k fs p q low fits =
    let w = flow_of (cuts_of fs) k in
    stops (guard_flow take (cuts_of fs h) w) (cuts_of fs (length fs)) p
    ∙ take-some w (cuts_of fs h) e (take e) r q
    ∙ ap (λ (v : Flow A A). feed v r (cuts_of fs h)) (flow-agrees h k (cuts_of fs) (cuts_of (cut h fs)) (λ i j. sym (cut-same h i fs j low)) fits)
    ∙ ap (feed (flow_of (cuts_of (cut h fs)) k) r) (sym (cut-same h h fs (omega arith) low) ∙ ap (cuts_of (cut h fs)) (sym (cut-length h fs low)))
