-- The behaviours that the frames and fork points of a state represent, and the remaining run of a state, with its marks.
use Rattle.std.proofs.Common.{ℕ, suc, List, [], ◌∷◌, ◌++◌, length}
use Rattle.jv_data.specs.Value.{Value, null, string, Members}
use Rattle.jq_tree.specs.Tree.{Name, Tree, Trees, no_trees, more_trees, Entries, Pattern, Parts}
use Rattle.jq_meaning.specs.Runs.{Item, plain, located, value_in, as_value, Raised, Broken, Stopped, Run, ended, none, one, bind, array_of_items}
use Rattle.jq_meaning.specs.Env.{Env}
use Rattle.jq_meaning.specs.Continuations.{on_inserted}
use Rattle.jq_meaning.specs.Meaning.{below, meaning, entries_with}
use Rattle.jq_meaning.specs.Builtins.{Builtin}
use Rattle.jq_meaning.specs.machine.State.{Scope, Fold, reducing, extracting, Binder, body, fold_step, Task, items_from, members_of, Hole, Frame, operation, pipe_into, target_key, slice_start, slice_end, right_operand, conjunct, disjunct, test, entry_value, entry_key, own_entry, hole, argument, source, pattern_key, fold_start, fold_update, collect, left_side, try_body, label_body, Next, evaluate, give, matching, matched, go_back, raise, leave, quit, Choice, other, remaining, collected, last_state, no_more, right_side, check_update, Cell, ForkPoint, State}
use Rattle.jq_meaning.specs.machine.Operations.{result_of, applied, collect_value, note_true, state_in, replace_state}
use Rattle.jq_meaning.proofs.shared.machine.Flow.{Cells, put, FoldBehaviour, folded}
use Rattle.jq_meaning.proofs.shared.machine.Behaviours.{Behaviour, through, guard, turn, fold_source, Waiting, pending, rest}
use Rattle.jq_meaning.proofs.shared.machine.Shapes.{on_raised, on_break, on_silenced, if_empty, missing}
use Rattle.jq_meaning.proofs.shared.machine.Events.{Event, output, erase, tick, on_output, store_output, marked}
use Rattle.jq_meaning.proofs.shared.machine.Traced.{Traced, spread, pass, true_output, trace_fold, t_bound}
use Rattle.jq_meaning.proofs.shared.machine.TracedMeaning.{traced, traced_below, traced_entries, traced_bindings, traced_items, traced_members, t_on_key, t_on_start, t_on_end, t_on_right, t_on_conjunct, t_on_disjunct, t_on_test, t_on_error, t_on_entry, t_on_entry_key, t_on_own_key, t_on_part_key, t_on_source, t_in_bindings, t_on_state}

abbrev pub Behaviours : Type 0
Behaviours = List (Behaviour (Event Item) (Event Env))

abbrev pub WaitingRuns : Type 0
WaitingRuns = List (Waiting (Event Item) (Event Env))

-- ---- runs of filters in a scope

abbrev pub meaning_at : Tree → Scope → Item → Run Item
meaning_at t p x = meaning p.depth t p.env p.level x

abbrev pub traced_at : (t : Tree) (p : Scope) (x : Item) → Traced (meaning_at t p x)
traced_at t p x = traced p.depth t p.env p.level x

abbrev pub run_at : Tree → Scope → Item → Run (Event Item)
run_at t p x = (traced_at t p x).trace

abbrev pub traced_entries_at : (es : Entries) (p : Scope) (v : Value) (made : Members) → Traced (entries_with (below p.depth) es p.env p.level v made)
traced_entries_at es p v made = traced_entries (below p.depth) (traced_below p.depth) es p.env p.level v made

abbrev pub filled : Name → List ℕ → List ℕ → (List ℕ → Run (Event Item)) → Item → Run (Event Item)
filled format front back later y = bind (spread (on_inserted format front back y)) (on_output later)

abbrev pub holes_at : Name → List Hole → Scope → Item → List ℕ → Run (Event Item)
holes_at format [] p x back = one (output (plain (string back)))
holes_at format (h ∷ hs) p x back = bind (run_at h.filter p x) (on_output (filled format h.front back (holes_at format hs p x)))

abbrev pub arguments_at : Builtin → Trees → Scope → Item → List Value → Run (Event Item)
arguments_at b no_trees p x vs = spread (applied b x vs)
arguments_at b (more_trees t ts) p x vs = bind (run_at t p (plain (value_in x))) (on_output (λ v. arguments_at b ts p x (vs ++ value_in v ∷ [])))

-- ---- patterns

abbrev pub pattern_at : Pattern → Scope → Value → Run (Event Env)
pattern_at q p v = (traced_bindings (below p.depth) (traced_below p.depth) q p.level p.env v).trace

-- the remaining parts, in the bindings so far
abbrev pub tasks_at : List Task → ℕ → ℕ → Env → Run (Event Env)
tasks_at [] d k e = tick (one (output e))
tasks_at (items_from ps i v ∷ ts) d k e = bind (traced_items (below d) (traced_below d) ps i k v e).trace (on_output (tasks_at ts d k))
tasks_at (members_of ps v ∷ ts) d k e = bind (traced_members (below d) (traced_below d) ps k v e).trace (on_output (tasks_at ts d k))

abbrev pub matching_at : Pattern → Value → List Task → Scope → Run (Event Env)
matching_at q v ts p = bind (pattern_at q p v) (on_output (tasks_at ts p.depth p.level))

abbrev pub source_at : Pattern → Scope → Item → Run (Event Env)
source_at q p y = (t_on_source p.env y (λ e w. t_bound (traced_bindings (below p.depth) (traced_below p.depth) q p.level e w))).trace

abbrev pub key_at : Pattern → Parts → Value → List Task → Scope → Item → Run (Event Env)
key_at q ps v ts p y =
    bind (t_on_part_key v p.env y (λ e w. traced_bindings (below p.depth) (traced_below p.depth) q p.level e w) (λ e. traced_members (below p.depth) (traced_below p.depth) ps p.level v e)).trace
    (on_output (tasks_at ts p.depth p.level))

-- ---- folds

abbrev pub state_at : Tree → Scope → Env → Item → Run (Event Item)
state_at t p e y = (t_on_state (meaning p.depth t) p.level e y (traced p.depth t e p.level y)).trace

abbrev pub body_at : Tree → Scope → Item → Env → Run (Event Item)
body_at t p x e = (t_in_bindings (meaning p.depth t) p.level x e (traced p.depth t e p.level x)).trace

abbrev pub fold_at : Fold → Scope → FoldBehaviour (Event Env) (Event Item) (Event Item)
fold_at (reducing update) p = marked (trace_fold (state_at update p) (λ e y. none))
fold_at (extracting update extract) p = marked (trace_fold (state_at update p) (state_at extract p))

abbrev pub finish_of : Fold → Cell → Run (Event Item)
finish_of (reducing update) c = one (output (state_in c))
finish_of (extracting update extract) c = none

abbrev pub extract_at : Fold → Scope → Env → Item → Run (Event Item)
extract_at (reducing update) p e y = none
extract_at (extracting update extract) p e y = state_at extract p e y

abbrev pub fold_from : Tree → Pattern → Fold → Scope → Item → Item → Run (Event Item)
fold_from t q f p x y =
    let sources = bind (run_at t p (as_value x)) (on_output (source_at q p)) in
    folded (fold_at f p) (finish_of f) sources.items sources.ending (y ∷ [])

-- what is done with bindings, where g makes them from an item
abbrev pub binds : Binder → Scope → (Event Item → Run (Event Env)) → Behaviours → Behaviours
binds (body t x) p g K = through (λ y. bind (g y) (on_output (body_at t p x))) ∷ K
binds (fold_step h f) p g K = fold_source h g (fold_at f p) ∷ K

-- ---- frames

abbrev pub push : Frame → Behaviours → Behaviours
push (operation o) K = through (on_output (λ y. spread (result_of o y))) ∷ K
push (pipe_into g p) K = through (on_output (run_at g p)) ∷ K
push (target_key t guarded p x) K = through (on_output (λ y. (t_on_key guarded y (traced_at t p x)).trace)) ∷ K
push (slice_start t to guarded p x) K = through (on_output (λ y. (t_on_start guarded y (traced_at to p (as_value x)) (traced_at t p x)).trace)) ∷ K
push (slice_end t start guarded p x) K = through (on_output (λ y. (t_on_end guarded start y (traced_at t p x)).trace)) ∷ K
push (right_operand op f p x) K = through (on_output (λ y. (t_on_right op y (traced_at f p x)).trace)) ∷ K
push (conjunct g p x) K = through (on_output (λ y. (t_on_conjunct (meaning_at g p) x y (traced_at g p x)).trace)) ∷ K
push (disjunct g p x) K = through (on_output (λ y. (t_on_disjunct (meaning_at g p) x y (traced_at g p x)).trace)) ∷ K
push (test f g p x) K = through (on_output (λ y. (t_on_test (meaning_at f p) (meaning_at g p) x y (traced_at f p x) (traced_at g p x)).trace)) ∷ K
push (entry_value key es made p v) K = through (on_output (λ y. (t_on_entry made key y (traced_entries_at es p v)).trace)) ∷ K
push (entry_key f es made p v) K = through (on_output (λ y. (t_on_entry_key made y (traced_at f p (plain v)) (traced_entries_at es p v)).trace)) ∷ K
push (own_entry es made p v) K = through (on_output (λ y. (t_on_own_key v made y (traced_entries_at es p v)).trace)) ∷ K
push (hole format front back hs p x) K = through (on_output (filled format front back (holes_at format hs p x))) ∷ K
push (argument b ts vs p x) K = through (on_output (λ y. arguments_at b ts p x (vs ++ value_in y ∷ []))) ∷ K
push (source q b p) K = binds b p (on_output (source_at q p)) K
push (pattern_key q ps v ts b p) K = binds b p (on_output (key_at q ps v ts p)) K
push (fold_start t q f p x) K = through (on_output (fold_from t q f p x)) ∷ K
push (fold_update h f p) K = turn h (store_output replace_state) (on_output (extract_at f p p.env)) ∷ K
push (collect h) K = turn h (store_output collect_value) (on_output (λ x. none)) ∷ K
push (left_side h) K = guard (suc h) (on_silenced (tick none)) ∷ turn h (store_output note_true) (on_output true_output) ∷ K
push (try_body h g p x) K = through pass ∷ guard h (on_raised (λ v. tick (t_on_error (meaning_at g p) x v (traced_at g p (plain v))).trace)) ∷ K
push (label_body h level) K = through pass ∷ guard h (on_break (tick none) level) ∷ K

abbrev pub behaviours : List Frame → Behaviours
behaviours [] = []
behaviours (f ∷ k) = push f (behaviours k)

-- ---- fork points, with the number of fork points below them

abbrev pub waiting_run : ℕ → Choice → Behaviours → Waiting (Event Item) (Event Env)
waiting_run n (other g p x) K = pending (run_at g p x) K
waiting_run n (remaining r) K = pending (spread r) K
waiting_run n collected K = record { looks_at = n; run = λ c. one (output (plain (array_of_items c))); frames = K }
waiting_run n last_state K = record { looks_at = n; run = λ c. one (output (state_in c)); frames = K }
waiting_run n no_more K = record { looks_at = n; run = λ c. none; frames = K }
waiting_run n (right_side g p x) K = record { looks_at = n; run = if_empty (run_at g p x); frames = K }
waiting_run n (check_update h) K = record { looks_at = h; run = missing (located null []); frames = K }

abbrev pub waiting : List ForkPoint → WaitingRuns
waiting [] = []
waiting (f ∷ fs) = waiting_run (length fs) f.choice (behaviours f.frames) ∷ waiting fs

abbrev pub cells : List ForkPoint → Cells
cells [] = λ n. []
cells (f ∷ fs) = put (length fs) f.cell (cells fs)

-- ---- states

-- (for a machine that makes bindings: any item)
abbrev pub token : Run (Event Item)
token = one (output (plain null))

abbrev pub next_run : Next → Run (Event Item)
next_run (evaluate t p x) = run_at t p x
next_run (give x) = one (output x)
next_run (matching q v ts b p) = token
next_run (matched ts b p) = token
next_run go_back = none
next_run (raise v) = ended (Raised v)
next_run (leave level) = ended (Broken level)
next_run (quit stop) = ended (Stopped stop)

abbrev pub next_frames : Next → Behaviours → Behaviours
next_frames (evaluate t p x) K = K
next_frames (give x) K = K
next_frames (matching q v ts b p) K = binds b p (λ y. matching_at q v ts p) K
next_frames (matched ts b p) K = binds b p (λ y. tasks_at ts p.depth p.level p.env) K
next_frames go_back K = K
next_frames (raise v) K = K
next_frames (leave level) K = K
next_frames (quit stop) K = K

-- the remaining run, with its marks
abbrev pub still : State → Run (Event Item)
still s = rest (next_run s.next) (next_frames s.next (behaviours s.frames)) (waiting s.forks) (cells s.forks)

-- the remaining run
abbrev pub to_come : State → Run Item
to_come s = erase (still s)
