-- Patterns in a machine: what they bind, part by part, and what runs in the bindings.
use Rattle.std.proofs.Common.{◌≡◌, ℕ, suc, List, [], ◌∷◌, length, Ok, Err, refl, sym, ap, ◌∙◌, arith}
use Rattle.std.specs.Prelude.{pos}
use Rattle.jv_data.specs.Value.{Value, null, number, string}
use Rattle.jv_value.specs.Index.{index_of}
use Rattle.jq_natives.specs.Answers.{Answer}
use Rattle.jq_tree.specs.Tree.{Name, Tree, Pattern, Patterns, no_patterns, more_patterns, Parts, no_parts, more_parts}
use Rattle.jq_tree.specs.Tree as tree
use Rattle.jq_meaning.specs.Runs.{Item, plain, located, value_in, Raised, Run, ended, none, one, bind, answered}
use Rattle.jq_meaning.specs.Env.{Env, bound, value_of}
use Rattle.jq_meaning.specs.Continuations.{part_at}
use Rattle.jq_meaning.specs.Meaning.{below}
use Rattle.jq_meaning.proofs.shared.machine.RunLaws.{bind-bind, bind-one}
use Rattle.jq_meaning.specs.machine.State.{Scope, with_env, Fold, reducing, extracting, Binder, body, fold_step, Task, items_from, members_of, Frame, source, pattern_key, evaluate, give, matching, matched, Cell, ForkPoint, State, state}
use Rattle.jq_meaning.specs.machine.Stack.{cell_at, set_cell}
use Rattle.jq_meaning.specs.machine.Operations.{state_in, replace_state}
use Rattle.jq_meaning.specs.machine.Matching.{update_of, enter_update, run_bound, match_part, match_pattern, match_later}
use Rattle.jq_meaning.proofs.shared.machine.Flow.{Cells, put, feed, source_flow}
use Rattle.jq_meaning.proofs.shared.machine.FlowLaws.{feed-bind}
use Rattle.jq_meaning.proofs.shared.machine.Behaviours.{turn, flow_of, cuts_of, rest}
use Rattle.jq_meaning.proofs.shared.machine.RestLaws.{rest-bind, rest-drop, checking, give-source-one}
use Rattle.jq_meaning.proofs.shared.machine.Shapes.{missing}
use Rattle.jq_meaning.proofs.shared.machine.Events.{Event, output, tick, on_output, store_output}
use Rattle.jq_meaning.proofs.shared.machine.Traced.{spread}
use Rattle.jq_meaning.proofs.shared.machine.TracedMeaning.{traced_below, traced_bindings, traced_items, traced_members, t_on_part, t_on_part_key, t_on_named_part, t_on_source, t_in_bindings, t_on_state}
use Rattle.jq_meaning.proofs.shared.machine.Marks.{Pass, rest-tick, source-marks, flow-marks}
use Rattle.jq_meaning.proofs.shared.machine.Ticks.{bind-ticks}
use Rattle.jq_meaning.proofs.shared.machine.Reading.{Behaviours, WaitingRuns, run_at, pattern_at, tasks_at, matching_at, source_at, key_at, state_at, body_at, fold_at, extract_at, binds, behaviours, waiting, cells, token}
use Rattle.jq_meaning.specs.machine.Heights.{Fits, ForksFit, BinderFits}
use Rattle.jq_meaning.proofs.shared.machine.Invariants.{fits_higher, fold-passes, waiting-length}
use Rattle.jq_meaning.proofs.shared.machine.StackLaws.{cells-none, cells-at, set-length, set-both, set_fits}
use Rattle.jq_meaning.proofs.shared.machine.Comings.{Leads, leads-tick, leads-same, Paid, paid, pass_frames, machine_fits}
use Rattle.jq_meaning.proofs.shared.machine.Parts.{bind-outputs}

pub binder_passes : (n : ℕ) (b : Binder) (k : List Frame) → BinderFits n b k → Pass (behaviours k)
binder_passes n (body t x) k p = pass_frames n k p
binder_passes n (fold_step h f) k p = pass_frames h k p.1

pub binder_fits : (n : ℕ) (b : Binder) (k : List Frame) → BinderFits n b k → Fits n k
binder_fits n (body t x) k p = p
binder_fits n (fold_step h f) k p = fits_higher h n k (omega arith) p.1

-- ---- what takes bindings

-- (the result depends only on the depth and the level of a scope)
binds-env : (b : Binder) (p : Scope) (e : Env) (g : Event Item → Run (Event Env)) (B : Behaviours) → binds b (with_env e p) g B ≡ binds b p g B
binds-env (body t x) p e g B = refl
binds-env (fold_step h (reducing update)) p e g B = refl
binds-env (fold_step h (extracting update extract)) p e g B = refl

module _ (B : Behaviours) (W : WaitingRuns) (s : Cells) (passes : Pass B) where
  -- the frames use only the bindings of an item
  pub binds-token : (b : Binder) (p : Scope) (g : Event Item → Run (Event Env)) (y : Item) → rest (one (output y)) (binds b p g B) W s ≡ rest token (binds b p (λ z. g (output y)) B) W s
  binds-token (body t x) p g y = refl
  binds-token (fold_step h f) p g y = refl

  pub binds-tick : (b : Binder) (p : Scope) (r : Run (Event Env)) → rest token (binds b p (λ z. tick r) B) W s ≡ tick (rest token (binds b p (λ z. r) B) W s)
  binds-tick (body t x) p r = rest-tick (bind r (on_output (body_at t p x))) B W s passes
  binds-tick (fold_step h f) p r =
      let w = flow_of (cuts_of W) B in
      source-marks h (fold_at f p) w (flow-marks (cuts_of W) B passes) (fold-passes f p) (feed (source_flow h (fold_at f p) w) r (cuts_of W (length W))) s

  -- a run in front of the bindings
  pub binds-run : (b : Binder) (p : Scope) (r : Run (Event Item)) (g : Event Item → Run (Event Env)) → rest token (binds b p (λ z. bind r g) B) W s ≡ rest r (binds b p g B) W s
  binds-run (body t x) p r g =
      let h = on_output (body_at t p x) in
      ap (λ (q : Run (Event Item)). rest q B W s) (bind-bind r g h) ∙ ap (λ a. a s) (rest-bind r (λ y. bind (g y) h) B W)
  binds-run (fold_step h f) p r g = ap (λ a. a s) (feed-bind (source_flow h (fold_at f p) (flow_of (cuts_of W) B)) g r (cuts_of W (length W)))

  pub binds-raise : (b : Binder) (p : Scope) (v : Value) → rest token (binds b p (λ z. ended (Raised v)) B) W s ≡ rest (ended (Raised v)) B W s
  binds-raise (body t x) p v = refl
  binds-raise (fold_step h f) p v = refl

-- ---- the results of the parts of a pattern

items-run : (q : Pattern) (ps : Patterns) (i : ℕ) (v : Value) (p : Scope) (y : Item)
    → (t_on_part p.env y (λ d w. traced_bindings (below p.depth) (traced_below p.depth) q p.level d w) (λ d. traced_items (below p.depth) (traced_below p.depth) ps i p.level v d)).trace
    ≡ bind (pattern_at q p (value_in y)) (on_output (λ d. (traced_items (below p.depth) (traced_below p.depth) ps i p.level v d).trace))
unfolding t_on_part
items-run q ps i v p y = refl

members-run : (q : Pattern) (ps : Parts) (v : Value) (p : Scope) (y : Item)
    → (t_on_part p.env y (λ d w. traced_bindings (below p.depth) (traced_below p.depth) q p.level d w) (λ d. traced_members (below p.depth) (traced_below p.depth) ps p.level v d)).trace
    ≡ bind (pattern_at q p (value_in y)) (on_output (λ d. (traced_members (below p.depth) (traced_below p.depth) ps p.level v d).trace))
unfolding t_on_part
members-run q ps v p y = refl

named-run : (n : Name) (q : Pattern) (ps : Parts) (v : Value) (p : Scope) (y : Item)
    → (t_on_named_part n p.env y (λ d w. traced_bindings (below p.depth) (traced_below p.depth) q p.level d w) (λ d. traced_members (below p.depth) (traced_below p.depth) ps p.level v d)).trace
    ≡ bind (pattern_at q (with_env (bound (value_of n (value_in y)) p.env) p) (value_in y)) (on_output (λ d. (traced_members (below p.depth) (traced_below p.depth) ps p.level v d).trace))
unfolding t_on_named_part
named-run n q ps v p y = refl

key-run : (q : Pattern) (ps : Parts) (v : Value) (ts : List Task) (p : Scope) (y : Item)
    → key_at q ps v ts p y
    ≡ bind (bind (spread (part_at v (value_in y))) (on_output (λ z. (t_on_part p.env z (λ d w. traced_bindings (below p.depth) (traced_below p.depth) q p.level d w) (λ d. traced_members (below p.depth) (traced_below p.depth) ps p.level v d)).trace)))
    (on_output (tasks_at ts p.depth p.level))
unfolding t_on_part_key
key-run q ps v ts p y = refl

pub source-run : (q : Pattern) (p : Scope) (y : Item) → source_at q p y ≡ matching_at q (value_in y) [] p
unfolding t_on_source
source-run q p y = refl

body-run : (t : Tree) (p : Scope) (x : Item) → body_at t p x p.env ≡ run_at t p x
unfolding t_in_bindings
body-run t p x = refl

pub state-run : (t : Tree) (p : Scope) (y : Item) → state_at t p p.env y ≡ run_at t p y
unfolding t_on_state
state-run t p y = refl

-- ---- the transitions

module _ (k : List Frame) (fs : List ForkPoint) (forks : ForksFit fs) where
  abbrev runs : Binder → Scope → Run (Event Env) → Run (Event Item)
  runs b p r = rest token (binds b p (λ z. r) (behaviours k)) (waiting fs) (cells fs)

  runs-tick : (b : Binder) (p : Scope) (r : Run (Event Env)) → BinderFits (length fs) b k → {t : State} → Leads (runs b p r) (length fs) t → Leads (runs b p (tick r)) (length fs) t
  runs-tick b p r fit l = leads-tick (binds-tick (behaviours k) (waiting fs) (cells fs) (binder_passes (length fs) b k fit) b p r) l

  runs-same : (b : Binder) (p : Scope) {r q : Run (Event Env)} → r ≡ q → {t : State} → Leads (runs b p q) (length fs) t → Leads (runs b p r) (length fs) t
  runs-same b p e l = leads-same (ap (runs b p) e) l

  -- a state in which bindings are made
  matches : (q : Pattern) (v : Value) (ts : List Task) (b : Binder) (p : Scope) (e : Env) → BinderFits (length fs) b k → Leads (runs b p (matching_at q v ts (with_env e p))) (length fs) (state (matching q v ts b (with_env e p)) k fs)
  matches q v ts b p e fit =
      leads-same (ap (λ (K : Behaviours). rest token K (waiting fs) (cells fs)) (sym (binds-env b p e (λ z. matching_at q v ts (with_env e p)) (behaviours k))))
      (record { marks = 0; same = refl; low = omega arith; fit = record { frames = fit; forks = forks } })

  binds-on : (ts : List Task) (b : Binder) (p : Scope) (e : Env) → BinderFits (length fs) b k → Leads (runs b p (tasks_at ts p.depth p.level e)) (length fs) (state (matched ts b (with_env e p)) k fs)
  binds-on ts b p e fit =
      leads-same (ap (λ (K : Behaviours). rest token K (waiting fs) (cells fs)) (sym (binds-env b p e (λ z. tasks_at ts p.depth p.level e) (behaviours k))))
      (record { marks = 0; same = refl; low = omega arith; fit = record { frames = fit; forks = forks } })

  -- a part of the value, with which a pattern goes on
  part-leads : (a : Answer) (q : Pattern) (e : Value → Env) (ts us : List Task) (b : Binder) (p : Scope) (g : Item → Run (Event Env)) → BinderFits (length fs) b k
      → ((w : Value) → bind (g (plain w)) (on_output (tasks_at us p.depth p.level)) ≡ matching_at q w ts (with_env (e w) p))
      → Leads (runs b p (bind (bind (spread (answered plain a)) (on_output g)) (on_output (tasks_at us p.depth p.level)))) (length fs) (match_part a q (λ w. with_env (e w) p) ts b k fs)
  part-leads (Err v) q e ts us b p g fit same =
      record { marks = 0; same = binds-raise (behaviours k) (waiting fs) (cells fs) (binder_passes (length fs) b k fit) b p v; low = omega arith; fit = record { frames = binder_fits (length fs) b k fit; forks = forks } }
  part-leads (Ok w) q e ts us b p g fit same =
      let m = matching_at q w ts (with_env (e w) p) in
      runs-same b p
      (ap (λ (r : Run (Event Env)). bind r (on_output (tasks_at us p.depth p.level))) (bind-ticks 1 (plain w) g) ∙ ap (λ (r : Run (Event Env)). tick (tick r)) (same w))
      (runs-tick b p (tick m) fit (runs-tick b p m fit (matches q w ts b p (e w) fit)))

  -- a pattern is matched with a value
  pub match_pattern-paid : (q : Pattern) (v : Value) (ts : List Task) (b : Binder) (p : Scope) → BinderFits (length fs) b k → Paid (state (matching q v ts b p) k fs) (match_pattern q v ts b p k fs)
  match_pattern-paid (tree.whole n) v ts b p fit =
      let c = with_env (bound (value_of n v) p.env) p in
      let r = tasks_at ts c.depth c.level c.env in
      paid (ap (runs b p) (bind-one (output c.env) (on_output (tasks_at ts p.depth p.level))) ∙ binds-tick (behaviours k) (waiting fs) (cells fs) (binder_passes (length fs) b k fit) b p r) (binds-on ts b p c.env fit)
  match_pattern-paid (tree.items ps) v ts b p fit =
      paid (binds-tick (behaviours k) (waiting fs) (cells fs) (binder_passes (length fs) b k fit) b p (tasks_at (items_from ps 0 v ∷ ts) p.depth p.level p.env)) (binds-on (items_from ps 0 v ∷ ts) b p p.env fit)
  match_pattern-paid (tree.members ps) v ts b p fit =
      paid (binds-tick (behaviours k) (waiting fs) (cells fs) (binder_passes (length fs) b k fit) b p (tasks_at (members_of ps v ∷ ts) p.depth p.level p.env)) (binds-on (members_of ps v ∷ ts) b p p.env fit)

  -- the body of `as` runs
  body-leads : (t : Tree) (x : Item) (p : Scope) → BinderFits (length fs) (body t x) k → Leads (runs (body t x) p (one (output p.env))) (length fs) (state (evaluate t p x) k fs)
  body-leads t x p fit =
      leads-tick
      (ap (λ (r : Run (Event Item)). rest r (behaviours k) (waiting fs) (cells fs)) (bind-one (output p.env) (on_output (body_at t p x)))
      ∙ rest-tick (body_at t p x p.env) (behaviours k) (waiting fs) (cells fs) (pass_frames (length fs) k fit))
      (record { marks = 0; same = ap (λ (r : Run (Event Item)). rest r (behaviours k) (waiting fs) (cells fs)) (body-run t p x); low = omega arith; fit = record { frames = fit; forks = forks } })

  -- a step of a fold: the update runs on the state, above the check that it has an output
  step-run : (h : ℕ) (f : Fold) (p : Scope) → BinderFits (length fs) (fold_step h f) k
      → runs (fold_step h f) p (one (output p.env))
      ≡ rest (run_at (update_of f) p (state_in (cell_at h fs))) (turn h (store_output replace_state) (on_output (extract_at f p p.env)) ∷ behaviours k) (checking h (missing (state_in (cell_at h fs))) (behaviours k) ∷ waiting fs) (put h [] (cells fs))
  step-run h (reducing update) p fit =
      let B = behaviours k in
      let W = waiting fs in
      give-source-one (output (plain null)) (output p.env) h (λ z. one (output p.env)) (fold_at (reducing update) p) B W (cells fs) (machine_fits k fs (fits_higher h (length fs) k (omega arith) fit.1)) refl
      ∙ ap (λ (r : Run (Event Item)). rest r (turn h (store_output replace_state) (on_output (λ y. none)) ∷ B) (checking h (missing (state_in (cells fs h))) B ∷ W) (put h [] (cells fs))) (state-run update p (state_in (cells fs h)))
      ∙ ap (λ (c : Cell). rest (run_at update p (state_in c)) (turn h (store_output replace_state) (on_output (λ y. none)) ∷ B) (checking h (missing (state_in c)) B ∷ W) (put h [] (cells fs))) (cells-at h fs)
  step-run h (extracting update extract) p fit =
      let B = behaviours k in
      let W = waiting fs in
      let K : Behaviours = turn h (store_output replace_state) (on_output (state_at extract p p.env)) ∷ B in
      give-source-one (output (plain null)) (output p.env) h (λ z. one (output p.env)) (fold_at (extracting update extract) p) B W (cells fs) (machine_fits k fs (fits_higher h (length fs) k (omega arith) fit.1)) refl
      ∙ ap (λ (r : Run (Event Item)). rest r K (checking h (missing (state_in (cells fs h))) B ∷ W) (put h [] (cells fs))) (state-run update p (state_in (cells fs h)))
      ∙ ap (λ (c : Cell). rest (run_at update p (state_in c)) K (checking h (missing (state_in c)) B ∷ W) (put h [] (cells fs))) (cells-at h fs)

  update-leads : (y : Item) (h : ℕ) (f : Fold) (p : Scope) → BinderFits (length fs) (fold_step h f) k
      → Leads (rest (run_at (update_of f) p y) (turn h (store_output replace_state) (on_output (extract_at f p p.env)) ∷ behaviours k) (checking h (missing y) (behaviours k) ∷ waiting fs) (put h [] (cells fs))) (length fs) (enter_update y h f p k fs)
  update-leads (plain v) h f p fit =
      let B = behaviours k in
      let K : Behaviours = turn h (store_output replace_state) (on_output (extract_at f p p.env)) ∷ B in
      let r = run_at (update_of f) p (plain v) in
      let low = fits_higher h (length fs) k (omega arith) fit.1 in
      let n : length (set_cell h [] fs) ≡ length fs = set-length h [] fs in
      record {
        marks = 0;
        same =
            ap (λ a. a (put h [] (cells fs))) (rest-drop r h K B (waiting fs) (omega (arith, waiting-length fs, fit.0), machine_fits k fs low))
            ∙ set-both (λ w s. rest r K w s) h [] fs fit.0;
        low = omega (arith, n);
        fit = record { frames = rw n (fit.0, fit.1); forks = set_fits h [] fs forks };
      }
  update-leads (located v path) h f p fit =
      let B = behaviours k in
      let K : Behaviours = turn h (store_output replace_state) (on_output (extract_at f p p.env)) ∷ B in
      let r = run_at (update_of f) p (located v path) in
      let gs = set_cell h [] fs in
      let n : length gs ≡ length fs = set-length h [] fs in
      record {
        marks = 0;
        same =
            set-both (λ w s. rest r K (checking h (missing (located v path)) B ∷ w) s) h [] fs fit.0
            ∙ ap (λ (s : Cells). rest r K (checking h (missing (located v path)) B ∷ waiting gs) s) (sym (cells-none gs));
        low = omega (arith, n);
        fit = record { frames = (omega (arith, n, fit.0), fit.1); forks = (omega (arith, n, fit.0), rw n (fits_higher h (length fs) k (omega arith) fit.1), set_fits h [] fs forks) };
      }

  bound-leads : (b : Binder) (p : Scope) → BinderFits (length fs) b k → Leads (runs b p (one (output p.env))) (length fs) (run_bound b p k fs)
  bound-leads (body t x) p fit = body-leads t x p fit
  bound-leads (fold_step h f) p fit = leads-same (step-run h f p fit) (update-leads (state_in (cell_at h fs)) h f p fit)

  -- the remaining parts
  pub match_later-paid : (ts : List Task) (b : Binder) (p : Scope) → BinderFits (length fs) b k → Paid (state (matched ts b p) k fs) (match_later ts b p k fs)
  match_later-paid [] b p fit = paid (binds-tick (behaviours k) (waiting fs) (cells fs) (binder_passes (length fs) b k fit) b p (one (output p.env))) (bound-leads b p fit)
  match_later-paid (items_from no_patterns i v ∷ ts) b p fit =
      paid (ap (runs b p) (bind-one (output p.env) (on_output (tasks_at ts p.depth p.level))) ∙ binds-tick (behaviours k) (waiting fs) (cells fs) (binder_passes (length fs) b k fit) b p (tasks_at ts p.depth p.level p.env)) (binds-on ts b p p.env fit)
  match_later-paid (items_from (more_patterns q ps) i v ∷ ts) b p fit =
      let a = index_of v (number (pos i)) in
      let g = λ (y : Item). (t_on_part p.env y (λ d w. traced_bindings (below p.depth) (traced_below p.depth) q p.level d w) (λ d. traced_items (below p.depth) (traced_below p.depth) ps (suc i) p.level v d)).trace in
      let later = λ (d : Env). (traced_items (below p.depth) (traced_below p.depth) ps (suc i) p.level v d).trace in
      paid (binds-tick (behaviours k) (waiting fs) (cells fs) (binder_passes (length fs) b k fit) b p (bind (bind (spread (answered plain a)) (on_output g)) (on_output (tasks_at ts p.depth p.level))))
      (part-leads a q (λ w. p.env) (items_from ps (suc i) v ∷ ts) ts b p g fit
      (λ w. ap (λ (r : Run (Event Env)). bind r (on_output (tasks_at ts p.depth p.level))) (items-run q ps (suc i) v p (plain w)) ∙ bind-outputs (pattern_at q p w) later (tasks_at ts p.depth p.level)))
  match_later-paid (members_of no_parts v ∷ ts) b p fit =
      paid (ap (runs b p) (bind-one (output p.env) (on_output (tasks_at ts p.depth p.level))) ∙ binds-tick (behaviours k) (waiting fs) (cells fs) (binder_passes (length fs) b k fit) b p (tasks_at ts p.depth p.level p.env)) (binds-on ts b p p.env fit)
  match_later-paid (members_of (more_parts (tree.keyed key q) ps) v ∷ ts) b p fit =
      let g = λ (y : Item). (t_on_part_key v p.env y (λ d w. traced_bindings (below p.depth) (traced_below p.depth) q p.level d w) (λ d. traced_members (below p.depth) (traced_below p.depth) ps p.level v d)).trace in
      let r = run_at key p (plain v) in
      let o = on_output (key_at q ps v ts p) in
      paid (binds-tick (behaviours k) (waiting fs) (cells fs) (binder_passes (length fs) b k fit) b p (bind (bind r (on_output g)) (on_output (tasks_at ts p.depth p.level))))
      (runs-same b p (bind-outputs r g (tasks_at ts p.depth p.level))
      (leads-same (binds-run (behaviours k) (waiting fs) (cells fs) (binder_passes (length fs) b k fit) b p r o)
      (key-waits b fit)))
    where
      key-waits : (c : Binder) → BinderFits (length fs) c k → Leads (rest (run_at key p (plain v)) (binds c p (on_output (key_at q ps v ts p)) (behaviours k)) (waiting fs) (cells fs)) (length fs) (state (evaluate key p (plain v)) (pattern_key q ps v ts c p ∷ k) fs)
      key-waits (body t x) u = record { marks = 0; same = refl; low = omega arith; fit = record { frames = (tt, u); forks = forks } }
      key-waits (fold_step h f) u = record { marks = 0; same = refl; low = omega arith; fit = record { frames = (u.0, u.1); forks = forks } }
  match_later-paid (members_of (more_parts (tree.keyed_variable n q) ps) v ∷ ts) b p fit =
      let a = index_of v (string n) in
      let g = λ (y : Item). (t_on_named_part n p.env y (λ d w. traced_bindings (below p.depth) (traced_below p.depth) q p.level d w) (λ d. traced_members (below p.depth) (traced_below p.depth) ps p.level v d)).trace in
      let later = λ (d : Env). (traced_members (below p.depth) (traced_below p.depth) ps p.level v d).trace in
      paid (binds-tick (behaviours k) (waiting fs) (cells fs) (binder_passes (length fs) b k fit) b p (bind (bind (spread (answered plain a)) (on_output g)) (on_output (tasks_at ts p.depth p.level))))
      (part-leads a q (λ w. bound (value_of n w) p.env) (members_of ps v ∷ ts) ts b p g fit
      (λ w. ap (λ (r : Run (Event Env)). bind r (on_output (tasks_at ts p.depth p.level))) (named-run n q ps v p (plain w)) ∙ bind-outputs (pattern_at q (with_env (bound (value_of n w) p.env) p) w) later (tasks_at ts p.depth p.level)))

  -- ---- an item is given to a frame that makes bindings

  pub give_source-paid : (q : Pattern) (b : Binder) (p : Scope) (y : Item) → BinderFits (length fs) b k → Paid (state (give y) (source q b p ∷ k) fs) (state (matching q (value_in y) [] b p) k fs)
  give_source-paid q b p y fit =
      let m = binder_passes (length fs) b k fit in
      paid (binds-token (behaviours k) (waiting fs) (cells fs) m b p (on_output (source_at q p)) y ∙ binds-tick (behaviours k) (waiting fs) (cells fs) m b p (source_at q p y))
      (runs-same b p (source-run q p y) (matches q (value_in y) [] b p p.env fit))

  pub give_key-paid : (q : Pattern) (ps : Parts) (v : Value) (ts : List Task) (b : Binder) (p : Scope) (y : Item) → BinderFits (length fs) b k
      → Paid (state (give y) (pattern_key q ps v ts b p ∷ k) fs) (match_part (index_of v (value_in y)) q (λ w. p) (members_of ps v ∷ ts) b k fs)
  give_key-paid q ps v ts b p y fit =
      let a = index_of v (value_in y) in
      let g = λ (z : Item). (t_on_part p.env z (λ d w. traced_bindings (below p.depth) (traced_below p.depth) q p.level d w) (λ d. traced_members (below p.depth) (traced_below p.depth) ps p.level v d)).trace in
      let later = λ (d : Env). (traced_members (below p.depth) (traced_below p.depth) ps p.level v d).trace in
      let m = binder_passes (length fs) b k fit in
      paid (binds-token (behaviours k) (waiting fs) (cells fs) m b p (on_output (key_at q ps v ts p)) y ∙ binds-tick (behaviours k) (waiting fs) (cells fs) m b p (key_at q ps v ts p y))
      (runs-same b p (key-run q ps v ts p y)
      (part-leads a q (λ w. p.env) (members_of ps v ∷ ts) ts b p g fit
      (λ w. ap (λ (r : Run (Event Env)). bind r (on_output (tasks_at ts p.depth p.level))) (members-run q ps v p (plain w)) ∙ bind-outputs (pattern_at q p w) later (tasks_at ts p.depth p.level))))
