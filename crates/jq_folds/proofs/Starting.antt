-- From these states the machine makes the pieces of a fold.
use Rattle.std.proofs.Common.{◌≡◌, ℕ, List, [], ◌∷◌, length, Option, Some, None, true, refl, sym, ap, ◌∙◌, subst, arith}
use Rattle.jv_data.specs.Value.{Value}
use Rattle.jq_tree.specs.Tree.{Tree, Pattern}
use Rattle.jq_tree.specs.Inputs.{at_most_one}
use Rattle.jq_meaning.specs.Runs.{Item, plain, located, Ending, Done, Raised, Broken, Stopped, Run, ended, none, one, then_run, bind}
use Rattle.jq_meaning.specs.Env.{Env}
use Rattle.jq_meaning.specs.Folds.{next_state, reduced, each_of}
use Rattle.jq_meaning.specs.Continuations.{on_source, on_state}
use Rattle.jq_meaning.specs.Meaning.{meaning, bindings_with, below}
use Rattle.jq_meaning.specs.machine.State.{Scope, reducing, extracting, Cell}
use Rattle.jq_meaning.specs.machine.Heights.{Fit, Fits}
use Rattle.jq_meaning.specs.machine.Machine.{Produces}
use Rattle.jq_meaning.specs.machine.Operations.{state_in, replace_state}
use Rattle.jq_meaning.proofs.shared.machine.Flow.{Cells, put, Rest, Flow, feed, outside, through_flow, source_flow, FoldBehaviour, folded}
use Rattle.jq_meaning.proofs.shared.machine.FlowLaws.{feed-bind}
use Rattle.jq_meaning.proofs.shared.machine.Behaviours.{through, fold_source, Waiting, rest, cuts_of}
use Rattle.jq_meaning.proofs.shared.machine.RestLaws.{rest-folded}
use Rattle.jq_meaning.proofs.shared.machine.Shapes.{missing, fold_of, give_state, nothing_of}
use Rattle.jq_meaning.proofs.shared.machine.ShapeLaws.{reduced-folded}
use Rattle.jq_meaning.proofs.shared.machine.Events.{Event, visit, output, outputs, erase, tick, on_output, store_output, marked}
use Rattle.jq_meaning.proofs.shared.machine.EventLaws.{FoldErases, erase-folded, erase-bind}
use Rattle.jq_meaning.proofs.shared.machine.Traced.{trace_fold, erases, fold-erases, t_bound}
use Rattle.jq_meaning.proofs.shared.machine.TracedMeaning.{traced, traced_below, traced_bindings, t_on_source, t_on_state}
use Rattle.jq_meaning.proofs.shared.machine.Reading.{run_at, traced_at, source_at, state_at, fold_at, to_come}
use Rattle.jq_meaning.proofs.shared.machine.Correct.{produces, start-produces}
use Rattle.jq_folds.specs.Pieces.{state_of, if_done, stepped, begun, state_run, with_state}
use Rattle.jq_folds.specs.Folding.{Fold, a_reduce, a_foreach, closing_tree, states_of, outputs_of, closed_by, steps_of}
use Rattle.jq_folds.specs.laws.Machine.{closing_frames, begin_state, step_state, close_state}
use Rattle.jq_meaning.proofs.shared.machine.RunLaws.{then_run-assoc, bind-one, bind-one_right, bind-then_run, bind-bind, go_on-twice}
use Rattle.jq_folds.proofs.Cells.{next-items, feed-outside}
use Rattle.jq_folds.proofs.Singles.{single}
use Rattle.jq_folds.proofs.Threading.{not_done, OneOrEnd, gives, ends, reduced-one, each-done, bind-done, next-bind, next-then, next-same, then-not, Kind, done, other, kind_of}

-- ---- the outputs of a fold, and then its last state

pub each-state : {S : Type 0} (update extract : S → Item → Run Item) (ss : List S) (e : Ending) (c : Cell)
    → folded (fold_of update extract) give_state ss e c ≡ then_run (each_of update extract ss e (state_in c)) (reduced update ss e (state_in c))
each-state update extract [] e c = sym (go_on-twice e (one (state_in c)))
each-state update extract (s ∷ ss) e c =
    let r = update s (state_in c) in
    let first = bind r (extract s) in
    let each = each_of update extract ss e in
    let states = reduced update ss e in
    let go : Item → Run Item = λ y. then_run (each y) (states y) in
    ap (then_run first)
    (sym (next-items (state_in c) r.items r.ending go (folded (fold_of update extract) give_state ss e) (λ d. sym (each-state update extract ss e d)))
    ∙ next-then (state_in c) r each states)
    ∙ sym (then_run-assoc first (next_state (state_in c) r each) (next_state (state_in c) r states))

-- a filter after a `foreach` runs on each output
pub each-bind : {S : Type 0} (update extract : S → Item → Run Item) (g : Item → Run Item) (ss : List S) (e : Ending) (s : Item)
    → each_of update (λ b y. bind (extract b y) g) ss e s ≡ bind (each_of update extract ss e s) g
each-bind update extract g [] e s = refl
each-bind update extract g (b ∷ ss) e s =
    let r = update b s in
    ap (then_run (bind r (λ y. bind (extract b y) g)))
    (next-same s r (each_of update (λ d y. bind (extract d y) g) ss e) (λ y. bind (each_of update extract ss e y) g) (each-bind update extract g ss e) ∙ sym (next-bind s r (each_of update extract ss e) g))
    ∙ ap (λ (q : Run Item). then_run q (bind (next_state s r (each_of update extract ss e)) g)) (sym (bind-bind r (extract b) g))
    ∙ sym (bind-then_run (bind r (extract b)) (next_state s r (each_of update extract ss e)) g)

-- ---- a step as one run

pub with_state-states : (outputs states : Run Item) → OneOrEnd states → (outputs.ending ≡ Done → states.ending ≡ Done) → with_state (stepped outputs states) ≡ then_run outputs states
with_state-states outputs states h i = go (kind_of outputs.ending) h
  where
    go : Kind outputs.ending → OneOrEnd states → with_state (stepped outputs states) ≡ then_run outputs states
    go (done d) (gives s p) =
        ap (λ (e : Ending). then_run outputs (state_run (if_done e (state_of states.items states.ending)))) d
        ∙ ap (λ (r : Run Item). then_run outputs (state_run (state_of r.items r.ending))) p ∙ ap (then_run outputs) (sym p)
    go (done d) (ends e n p) = absurd (not_done e n (sym (ap (λ (r : Run Item). r.ending) p) ∙ i d))
    go (other n) h = then-not outputs (state_run (if_done outputs.ending (state_of states.items states.ending))) n ∙ sym (then-not outputs states n)

pub with_state-begun : (states : Run Item) → OneOrEnd states → with_state (begun states) ≡ states
with_state-begun states h = with_state-states (ended states.ending) states h (λ e. e) ∙ go h
  where
    twice : (e : Ending) → then_run (ended {A = Item} e) (ended e) ≡ ended e
    twice Done = refl
    twice (Raised v) = refl
    twice (Broken k) = refl
    twice (Stopped stop) = refl

    go : OneOrEnd states → then_run (ended states.ending) states ≡ states
    go (gives s p) = ap (λ (r : Run Item). then_run (ended r.ending) r) p ∙ sym p
    go (ends e n p) = ap (λ (r : Run Item). then_run (ended r.ending) r) p ∙ twice e ∙ sym p

-- ---- a fold whose frames are outermost

rest-outermost : (r : Run (Event Item)) (s : Cells) → rest {A = Event Item} {S = Event Env} r [] [] s ≡ r
rest-outermost r s = feed-outside r.items r.ending s

-- the bindings of one input, with marks
abbrev marked_bindings : Pattern → Scope → Value → Run (Event Env)
marked_bindings q p v = bind (one (output (plain v))) (on_output (source_at q p))

bindings-same : (q : Pattern) (p : Scope) (v : Value) → erase (marked_bindings q p v) ≡ bindings_with (below p.depth) q p.level p.env v
unfolding on_source
bindings-same q p v =
    ap erase (bind-one (output (plain v)) (on_output (source_at q p)))
    ∙ (t_on_source {pattern = bindings_with (below p.depth) q p.level} p.env (plain v) (λ e w. t_bound (traced_bindings (below p.depth) (traced_below p.depth) q p.level e w))).same

state-same : (t : Tree) (p : Scope) (e : Env) (y : Item) → erase (state_at t p e y) ≡ on_state (meaning p.depth t) p.level e y
state-same t p e y = (t_on_state (meaning p.depth t) p.level e y (traced p.depth t e p.level y)).same

abbrev last_run : Cell → Run (Event Item)
last_run c = one (output (state_in c))

-- ---- `reduce`

reduce-still : (q : Pattern) (start update : Tree) (o : Option Tree) (p : Scope) (s : Item) (v : Value)
    → to_come (step_state (a_reduce q start update o) p s v) ≡ states_of p.depth p.env p.level (a_reduce q start update o) s v
reduce-still q start update o p s v =
    let f = fold_at (reducing update) p in
    let bs : Run (Event Env) = marked_bindings q p v in
    let u : Env → Item → Run Item = on_state (meaning p.depth update) p.level in
    ap erase (sym (rest-folded f last_run (s ∷ []) (one (output (plain v))) (on_output (source_at q p)) [] [] (λ n. []) tt tt) ∙ rest-outermost (folded f last_run bs.items bs.ending (s ∷ [])) (λ n. []))
    ∙ erase-folded (trace_fold (state_at update p) (λ e y. none)) (fold_of u (λ b. nothing_of)) last_run give_state
    (fold-erases (state_at update p) (λ e y. none) u (λ b. nothing_of) (state-same update p) (λ b y. refl)) (λ c. refl) bs.items bs.ending (s ∷ [])
    ∙ ap (λ (r : Run Env). folded (fold_of u (λ b. nothing_of)) give_state r.items r.ending (s ∷ [])) (bindings-same q p v)
    ∙ sym (reduced-folded u (bindings_with (below p.depth) q p.level p.env v).items (bindings_with (below p.depth) q p.level p.env v).ending (s ∷ []))

-- ---- `foreach` alone

foreach-folded : (q : Pattern) (update extract : Tree) (p : Scope) (s : Item) (v : Value)
    → erase (folded (fold_at (extracting update extract) p) last_run (marked_bindings q p v).items (marked_bindings q p v).ending (s ∷ []))
    ≡ then_run (each_of (on_state (meaning p.depth update) p.level) (on_state (meaning p.depth extract) p.level) (bindings_with (below p.depth) q p.level p.env v).items (bindings_with (below p.depth) q p.level p.env v).ending s)
    (reduced (on_state (meaning p.depth update) p.level) (bindings_with (below p.depth) q p.level p.env v).items (bindings_with (below p.depth) q p.level p.env v).ending s)
foreach-folded q update extract p s v =
    let bs : Run (Event Env) = marked_bindings q p v in
    let u : Env → Item → Run Item = on_state (meaning p.depth update) p.level in
    let x : Env → Item → Run Item = on_state (meaning p.depth extract) p.level in
    erase-folded (trace_fold (state_at update p) (state_at extract p)) (fold_of u x) last_run give_state
    (fold-erases (state_at update p) (state_at extract p) u x (state-same update p) (state-same extract p)) (λ c. refl) bs.items bs.ending (s ∷ [])
    ∙ ap (λ (r : Run Env). folded (fold_of u x) give_state r.items r.ending (s ∷ [])) (bindings-same q p v)
    ∙ each-state u x (bindings_with (below p.depth) q p.level p.env v).items (bindings_with (below p.depth) q p.level p.env v).ending (s ∷ [])

alone-still : (q : Pattern) (start update extract : Tree) (p : Scope) (s : Item) (v : Value)
    → to_come (step_state (a_foreach q start update extract None) p s v)
    ≡ then_run (outputs_of p.depth p.env p.level (a_foreach q start update extract None) (Some extract) s v) (states_of p.depth p.env p.level (a_foreach q start update extract None) s v)
alone-still q start update extract p s v =
    let f = fold_at (extracting update extract) p in
    let bs : Run (Event Env) = marked_bindings q p v in
    let cs : Run Env = bindings_with (below p.depth) q p.level p.env v in
    let u : Env → Item → Run Item = on_state (meaning p.depth update) p.level in
    let x : Env → Item → Run Item = on_state (meaning p.depth extract) p.level in
    ap erase (sym (rest-folded f last_run (s ∷ []) (one (output (plain v))) (on_output (source_at q p)) [] [] (λ n. []) tt tt) ∙ rest-outermost (folded f last_run bs.items bs.ending (s ∷ [])) (λ n. []))
    ∙ foreach-folded q update extract p s v
    ∙ ap (λ (r : Run Item). then_run r (reduced u cs.items cs.ending s)) (sym (bind-one_right (each_of u x cs.items cs.ending s)))

-- ---- `foreach` with a filter after it

-- the outputs of a fold go through g
abbrev through_fold : {S : Type 0} → FoldBehaviour S (Event Item) (Event Item) → (Event Item → Run (Event Item)) → FoldBehaviour S (Event Item) (Event Item)
through_fold f g =
    record { begin = f.begin; update = f.update; store = f.store; extract = λ s x. bind (f.extract s x) g; check = λ s c d. bind (f.check s c d) g }

-- the surroundings of a fold, by what is done with its runs
abbrev source_by : {S : Type 0} → ℕ → FoldBehaviour S (Event Item) (Event Item) → (Ending → Rest (Event Item)) → (Run (Event Item) → Rest (Event Item) → Rest (Event Item)) → Flow S (Event Item)
source_by h f stop φ =
    record {
      give = λ x a s. feed (record { give = λ y b t. φ (f.extract x y) b (put h (f.store y (t h)) t); stop = stop }) (f.update x (s h)) (λ t. φ (f.check x (s h) (t h)) a t) (put h (f.begin x (s h)) s);
      stop = stop;
    }

source-through : {S : Type 0} (h : ℕ) (f : FoldBehaviour S (Event Item) (Event Item)) (g : Event Item → Run (Event Item)) (w : Flow (Event Item) (Event Item))
    → source_flow h f (through_flow g w) ≡ source_flow h (through_fold f g) w
source-through {S = S} h f g w = ap (source_by h f w.stop) (λ i r a. sym (feed-bind w g r a) i)

rest-through : (h : ℕ) (pattern : Event Item → Run (Event Env)) (f : FoldBehaviour (Event Env) (Event Item) (Event Item)) (g : Event Item → Run (Event Item)) (r : Run (Event Item)) (fs : List (Waiting (Event Item) (Event Env))) (s : Cells)
    → rest r (fold_source h pattern f ∷ through g ∷ []) fs s ≡ rest r (fold_source h pattern (through_fold f g) ∷ []) fs s
rest-through h pattern f g r fs s = ap (λ (w : Flow (Event Env) (Event Item)). feed (through_flow pattern w) r (cuts_of fs (length fs)) s) (source-through h f g outside)

-- the same fold, with its marks
abbrev traced_through : {S : Type 0} → (S → Item → Run (Event Item)) → (S → Item → Run (Event Item)) → (Item → Run (Event Item)) → FoldBehaviour S (Event Item) (Event Item)
traced_through update extract g =
    record {
      begin = λ b c. [];
      update = λ b c. update b (state_in c);
      store = store_output replace_state;
      extract = λ b y. bind (on_output (extract b) y) (on_output g);
      check = λ b c d. bind (missing (state_in c) d) (on_output g);
    }

marked-through : {S : Type 0} (update extract : S → Item → Run (Event Item)) (g : Item → Run (Event Item))
    → through_fold (marked (trace_fold update extract)) (on_output g) ≡ marked (traced_through update extract g)
marked-through {S = S} update extract g =
    λ i. record {
      begin = (marked (trace_fold update extract)).begin;
      update = (marked (trace_fold update extract)).update;
      store = (marked (trace_fold update extract)).store;
      extract = λ s y. extracts s y i;
      check = λ s c d. checks s c d i;
    }
  where
    extracts : (s : Event S) (y : Event Item) → bind ((marked (trace_fold update extract)).extract s y) (on_output g) ≡ (marked (traced_through update extract g)).extract s y
    extracts visit y = refl
    extracts (output b) y = refl

    checks : (s : Event S) (c d : Cell) → bind ((marked (trace_fold update extract)).check s c d) (on_output g) ≡ (marked (traced_through update extract g)).check s c d
    checks visit c d = refl
    checks (output b) c d = refl

missing-through : (x : Item) (d : Cell) (g : Event Item → Run (Event Item)) → erase (bind (missing {B = Event Item} x d) g) ≡ missing x d
missing-through (plain v) d g = refl
missing-through (located v p) [] g = refl
missing-through (located v p) (y ∷ d) g = refl

through-erases : (u x : Env → Item → Run (Event Item)) (g : Item → Run (Event Item)) (u' x' : Env → Item → Run Item) (g' : Item → Run Item) → ((b : Env) (y : Item) → erase (u b y) ≡ u' b y) → ((b : Env) (y : Item) → erase (x b y) ≡ x' b y) → ((y : Item) → erase (g y) ≡ g' y)
    → FoldErases (traced_through u x g) (fold_of u' (λ b y. bind (x' b y) g'))
through-erases u x g u' x' g' p q r =
    record {
      begins = λ b c. refl;
      updates = λ b c. p b (state_in c);
      stores = refl;
      extracts = λ b. record { of_visit = refl; of_output = λ y. erase-bind (on_output g) g' (erases g g' r) (tick (x b y)) ∙ ap (λ (t : Run Item). bind t g') (q b y) };
      checks = λ b c d. missing-through (state_in c) d (on_output g);
    }

piped-still : (q : Pattern) (start update extract g : Tree) (p : Scope) (s : Item) (v : Value)
    → to_come (step_state (a_foreach q start update extract (Some g)) p s v)
    ≡ then_run (outputs_of p.depth p.env p.level (a_foreach q start update extract (Some g)) (Some extract) s v) (states_of p.depth p.env p.level (a_foreach q start update extract (Some g)) s v)
piped-still q start update extract g p s v =
    let f = fold_at (extracting update extract) p in
    let f' = traced_through (state_at update p) (state_at extract p) (run_at g p) in
    let bs : Run (Event Env) = marked_bindings q p v in
    let cs : Run Env = bindings_with (below p.depth) q p.level p.env v in
    let u : Env → Item → Run Item = on_state (meaning p.depth update) p.level in
    let x : Env → Item → Run Item = on_state (meaning p.depth extract) p.level in
    let m : Item → Run Item = meaning p.depth g p.env p.level in
    let fs : List (Waiting (Event Item) (Event Env)) = record { looks_at = 0; run = last_run; frames = [] } ∷ [] in
    ap erase
    (rest-through 0 (on_output (source_at q p)) f (on_output (run_at g p)) (one (output (plain v))) fs (put 0 (s ∷ []) (λ n. []))
    ∙ ap (λ (h : FoldBehaviour (Event Env) (Event Item) (Event Item)). rest (one (output (plain v))) (fold_source 0 (on_output (source_at q p)) h ∷ []) fs (put 0 (s ∷ []) (λ n. []))) (marked-through (state_at update p) (state_at extract p) (run_at g p))
    ∙ sym (rest-folded (marked f') last_run (s ∷ []) (one (output (plain v))) (on_output (source_at q p)) [] [] (λ n. []) tt tt)
    ∙ rest-outermost (folded (marked f') last_run bs.items bs.ending (s ∷ [])) (λ n. []))
    ∙ erase-folded f' (fold_of u (λ b y. bind (x b y) m)) last_run give_state
    (through-erases (state_at update p) (state_at extract p) (run_at g p) u x m (state-same update p) (state-same extract p) (λ y. (traced_at g p y).same)) (λ c. refl) bs.items bs.ending (s ∷ [])
    ∙ ap (λ (r : Run Env). folded (fold_of u (λ b y. bind (x b y) m)) give_state r.items r.ending (s ∷ [])) (bindings-same q p v)
    ∙ each-state u (λ b y. bind (x b y) m) cs.items cs.ending (s ∷ [])
    ∙ ap (λ (r : Run Item). then_run r (reduced u cs.items cs.ending s)) (each-bind u x m cs.items cs.ending s)

-- ---- every fold

foreach-with_state : (q : Pattern) (start update extract : Tree) (o : Option Tree) (p : Scope) (s : Item) (v : Value)
    → with_state (stepped (outputs_of p.depth p.env p.level (a_foreach q start update extract o) (Some extract) s v) (states_of p.depth p.env p.level (a_foreach q start update extract o) s v))
    ≡ then_run (outputs_of p.depth p.env p.level (a_foreach q start update extract o) (Some extract) s v) (states_of p.depth p.env p.level (a_foreach q start update extract o) s v)
foreach-with_state q start update extract o p s v =
    let f = a_foreach q start update extract o in
    let cs : Run Env = bindings_with (below p.depth) q p.level p.env v in
    let u : Env → Item → Run Item = on_state (meaning p.depth update) p.level in
    let x : Env → Item → Run Item = on_state (meaning p.depth extract) p.level in
    with_state-states (outputs_of p.depth p.env p.level f (Some extract) s v) (states_of p.depth p.env p.level f s v) (reduced-one u cs.items cs.ending s)
    (λ h. each-done u x cs.items cs.ending s (bind-done (each_of u x cs.items cs.ending s) (meaning p.depth (closing_tree o) p.env p.level) h))

step-to_come : (q : Pattern) (start update : Tree) (e o : Option Tree) (p : Scope) (s : Item) (v : Value)
    → to_come (step_state (record { pattern = q; start = start; update = update; extract = e; closing = o }) p s v)
    ≡ with_state ((steps_of p.depth p.env p.level (record { pattern = q; start = start; update = update; extract = e; closing = o })).step s v)
step-to_come q start update None o p s v =
    let cs : Run Env = bindings_with (below p.depth) q p.level p.env v in
    reduce-still q start update o p s v ∙ sym (with_state-begun (states_of p.depth p.env p.level (a_reduce q start update o) s v) (reduced-one (on_state (meaning p.depth update) p.level) cs.items cs.ending s))
step-to_come q start update (Some extract) None p s v =
    alone-still q start update extract p s v ∙ sym (foreach-with_state q start update extract None p s v)
step-to_come q start update (Some extract) (Some g) p s v =
    piped-still q start update extract g p s v ∙ sym (foreach-with_state q start update extract (Some g) p s v)

step-fits : (f : Fold) (p : Scope) (s : Item) (v : Value) → Fit (step_state f p s v)
step-fits f p s v = record { frames = (omega arith, frames f.extract f.closing); forks = (tt, tt, tt) }
  where
    frames : (e o : Option Tree) → Fits 0 (closing_frames e o p)
    frames None o = tt
    frames (Some x) None = tt
    frames (Some x) (Some g) = (tt, tt)

-- the machine gives the outputs of a step, and then the next state
pub step-produces : (f : Fold) (p : Scope) (s : Item) (v : Value) → Produces (step_state f p s v) (with_state ((steps_of p.depth p.env p.level f).step s v))
step-produces f p s v =
    subst (λ (r : Run Item). Produces (step_state f p s v) r) (step-to_come f.pattern f.start f.update f.extract f.closing p s v) (produces (step_state f p s v) (step-fits f p s v))

pub step-fit : (f : Fold) (p : Scope) (s : Item) (v : Value) → Fit (step_state f p s v)
step-fit f p s v = step-fits f p s v

-- the start, and the filter after a `reduce`
pub begin-produces : (f : Fold) (p : Scope) (v : Value) → at_most_one f.start ≡ true → Produces (begin_state f p (plain v)) (with_state (begun (meaning p.depth f.start p.env p.level (plain v))))
begin-produces f p v h =
    subst (λ (r : Run Item). Produces (begin_state f p (plain v)) r) (sym (with_state-begun (meaning p.depth f.start p.env p.level (plain v)) (single (below p.depth) p.env p.level f.start v h))) (start-produces f.start p (plain v))

pub close-produces : (f : Fold) (p : Scope) (s : Item) → f.extract ≡ None → Produces (close_state f p s) ((steps_of p.depth p.env p.level f).close s)
close-produces f p s e =
    subst (λ (r : Run Item). Produces (close_state f p s) r) (ap (λ (o : Option Tree). closed_by p.depth p.env p.level f o s) (sym e)) (start-produces (closing_tree f.closing) p s)
