-- An item that is given to a frame keeps the remaining run, except for its marks.
use Rattle.std.proofs.Common.{◌≡◌, ℕ, ◌<◌, ◌≤◌, List, [], ◌∷◌, ◌++◌, length, Bool, true, false, if◌then◌else◌, Ok, Err, refl, ap, ◌∙◌, arith}
use Rattle.jv_data.specs.Members.{put}
use Rattle.jv_data.specs.Value.{Value, boolean, string, Members}
use Rattle.jv_text.specs.Formats.{Text}
use Rattle.jv_value.specs.Index.{index_of, slice_key}
use Rattle.jq_natives.specs.Answers.{Answer, is_true}
use Rattle.jq_tree.specs.Tree.{Name, Operator, Tree, Entries, Pattern, Parts}
use Rattle.jq_meaning.specs.Runs.{Item, plain, value_in, as_value, Raised, Run, ended, none, one, bind, answered}
use Rattle.jq_meaning.specs.Env.{Env}
use Rattle.jq_meaning.specs.Continuations.{on_target, on_left, truth, put_between, on_inserted, format_of, key_error, part_at}
use Rattle.jq_meaning.specs.machine.State.{Scope, part_at_key, operate, to_truth, Fold, reducing, extracting, Binder, body, fold_step, Task, Hole, Frame, operation, pipe_into, target_key, slice_start, slice_end, right_operand, conjunct, disjunct, test, entry_value, entry_key, own_entry, hole, argument, source, pattern_key, fold_start, fold_update, collect, left_side, try_body, label_body, Next, evaluate, give, go_back, raise, Cell, ForkPoint, fork, State, state}
use Rattle.jq_meaning.specs.machine.Stack.{cell_at, set_cell}
use Rattle.jq_meaning.specs.machine.Operations.{result_of, collect_value, note_true, replace_state}
use Rattle.jq_meaning.specs.machine.Evaluating.{next_entry}
use Rattle.jq_meaning.specs.machine.Giving.{decide, value_of_entry, own_part, own_value, fill_hole, at_end, receive}
use Rattle.jq_meaning.proofs.shared.machine.Flow as flow
use Rattle.jq_meaning.proofs.shared.machine.Behaviours.{Waiting, through, turn, fold_source, rest}
use Rattle.jq_meaning.proofs.shared.machine.RestLaws.{rest-folded}
use Rattle.jq_meaning.proofs.shared.machine.Shapes.{on_raised, on_break}
use Rattle.jq_meaning.proofs.shared.machine.Events.{Event, output, tick, on_output, store_output}
use Rattle.jq_meaning.proofs.shared.machine.Traced.{t_one, t_bind, t_spread, spread, true_output}
use Rattle.jq_meaning.proofs.shared.machine.TracedMeaning.{t_if, t_with_key, t_on_key, t_on_start, t_on_end, t_on_right, t_on_conjunct, t_on_disjunct, t_on_test, t_on_entry, t_on_entry_key, t_on_own_key}
use Rattle.jq_meaning.proofs.shared.machine.Marks.{rest-tick, paid-turn, paid-pass}
use Rattle.jq_meaning.proofs.shared.machine.Ticks.{bind-ticks}
use Rattle.jq_meaning.proofs.shared.machine.Reading.{Behaviours, meaning_at, traced_at, run_at, traced_entries_at, filled, holes_at, source_at, state_at, fold_at, finish_of, fold_from, push, behaviours, waiting, cells, still}
use Rattle.jq_meaning.specs.machine.Heights.{Fits, ForksFit, ChoiceFits, BinderFits, NextFits}
use Rattle.jq_meaning.proofs.shared.machine.Invariants.{fits_higher, waiting-length}
use Rattle.jq_meaning.proofs.shared.machine.StackLaws.{cells-at, set-length, set-both, set_fits}
use Rattle.jq_meaning.proofs.shared.machine.Comings.{Comes, leads-comes, Paid, paid, machine_fits, machine_forks, pass_frames, comes-tick, comes-same, stays, grows, deliver-comes}
use Rattle.jq_meaning.proofs.shared.machine.Parts.{next_hole-comes, next_entry-comes, next_argument-comes}
use Rattle.jq_meaning.proofs.shared.machine.Evaluates.{runs-in}
use Rattle.jq_meaning.proofs.shared.machine.Matches.{state-run, give_source-paid, give_key-paid}

-- ---- the continuation of a form whose parts are known

key-run : (t : Tree) (guarded : Bool) (p : Scope) (x y : Item) → (t_on_key guarded y (traced_at t p x)).trace ≡ bind (run_at t p x) (on_output (λ z. spread (on_target guarded (value_in y) z)))
unfolding t_on_key
key-run t guarded p x y = refl

start-run : (t to : Tree) (guarded : Bool) (p : Scope) (x y : Item)
    → (t_on_start guarded y (traced_at to p (as_value x)) (traced_at t p x)).trace ≡ bind (run_at to p (as_value x)) (on_output (λ z. (t_on_end guarded (value_in y) z (traced_at t p x)).trace))
unfolding t_on_start
start-run t to guarded p x y = refl

end-run : (t : Tree) (start : Value) (guarded : Bool) (p : Scope) (x y : Item)
    → (t_on_end guarded start y (traced_at t p x)).trace ≡ bind (run_at t p x) (on_output (λ z. spread (on_target guarded (slice_key start (value_in y)) z)))
unfolding t_on_end
end-run t start guarded p x y = refl

right-run : (op : Operator) (f : Tree) (p : Scope) (x y : Item) → (t_on_right op y (traced_at f p x)).trace ≡ bind (run_at f p x) (on_output (λ z. spread (on_left op (value_in y) z)))
unfolding t_on_right
right-run op f p x y = refl

conjunct-run : (g : Tree) (p : Scope) (x y : Item) → (t_on_conjunct (meaning_at g p) x y (traced_at g p x)).trace ≡ (t_if (is_true (value_in y)) (t_bind (traced_at g p x) (λ z. t_spread (truth z))) (t_one (plain (boolean false)))).trace
unfolding t_on_conjunct
conjunct-run g p x y = refl

disjunct-run : (g : Tree) (p : Scope) (x y : Item) → (t_on_disjunct (meaning_at g p) x y (traced_at g p x)).trace ≡ (t_if (is_true (value_in y)) (t_one (plain (boolean true))) (t_bind (traced_at g p x) (λ z. t_spread (truth z)))).trace
unfolding t_on_disjunct
disjunct-run g p x y = refl

test-run : (f g : Tree) (p : Scope) (x y : Item) → (t_on_test (meaning_at f p) (meaning_at g p) x y (traced_at f p x) (traced_at g p x)).trace ≡ (t_if (is_true (value_in y)) (traced_at f p x) (traced_at g p x)).trace
unfolding t_on_test
test-run f g p x y = refl

entry-run : (key : List ℕ) (es : Entries) (made : Members) (p : Scope) (v : Value) (y : Item) → (t_on_entry made key y (traced_entries_at es p v)).trace ≡ (traced_entries_at es p v (put key (value_in y) made)).trace
unfolding t_on_entry
entry-run key es made p v y = refl

entry_key-run : (f : Tree) (es : Entries) (made : Members) (p : Scope) (v : Value) (y : Item) → (t_on_entry_key made y (traced_at f p (plain v)) (traced_entries_at es p v)).trace ≡ (t_with_key made (value_in y) (traced_at f p (plain v)) (traced_entries_at es p v)).trace
unfolding t_on_entry_key
entry_key-run f es made p v y = refl

own_key-run : (es : Entries) (made : Members) (p : Scope) (v : Value) (y : Item) → (t_on_own_key v made y (traced_entries_at es p v)).trace ≡ (t_with_key made (value_in y) (t_spread (part_at v (value_in y))) (traced_entries_at es p v)).trace
unfolding t_on_own_key
own_key-run es made p v y = refl

inserted-run : (format : Name) (front back : List ℕ) (y : Item) → spread (on_inserted format front back y) ≡ spread (put_between front back (format_of format (value_in y)))
unfolding on_inserted
inserted-run format front back y = refl

-- ---- frames that turn each item into a run

module _ (k : List Frame) (fs : List ForkPoint) (fit : Fits (length fs) k) (forks : ForksFit fs) where
  passes-through : (f : Frame) (y : Item) (g : Item → Run (Event Item)) {t : State} → push f (behaviours k) ≡ through (on_output g) ∷ behaviours k → Comes (g y) k fs t → Paid (state (give y) (f ∷ k) fs) t
  passes-through f y g e c =
      paid (ap (λ (K : Behaviours). rest (one (output y)) K (waiting fs) (cells fs)) e ∙ rest-tick (g y) (behaviours k) (waiting fs) (cells fs) (pass_frames (length fs) k fit)) (leads-comes c)

  and-comes : (b : Bool) (g : Tree) (p : Scope) (x : Item) → Comes (t_if b (t_bind (traced_at g p x) (λ z. t_spread (truth z))) (t_one (plain (boolean false)))).trace k fs (decide (if b then false else true) (boolean false) g p x k fs)
  and-comes true g p x = runs-in k fs fit forks g p x (operation to_truth) refl (tt, fit)
  and-comes false g p x = stays k fs fit forks (one (output (plain (boolean false)))) (give (plain (boolean false))) k refl fit

  or-comes : (b : Bool) (g : Tree) (p : Scope) (x : Item) → Comes (t_if b (t_one (plain (boolean true))) (t_bind (traced_at g p x) (λ z. t_spread (truth z)))).trace k fs (decide b (boolean true) g p x k fs)
  or-comes true g p x = stays k fs fit forks (one (output (plain (boolean true)))) (give (plain (boolean true))) k refl fit
  or-comes false g p x = runs-in k fs fit forks g p x (operation to_truth) refl (tt, fit)

  branch-comes : (b : Bool) (f g : Tree) (p : Scope) (x : Item) → Comes (t_if b (traced_at f p x) (traced_at g p x)).trace k fs (state (evaluate (if b then f else g) p x) k fs)
  branch-comes true f g p x = stays k fs fit forks (run_at f p x) (evaluate f p x) k refl fit
  branch-comes false f g p x = stays k fs fit forks (run_at g p x) (evaluate g p x) k refl fit

  filled_entry-comes : (key : List ℕ) (es : Entries) (made : Members) (p : Scope) (v : Value) (y : Item) → Comes (t_on_entry made key y (traced_entries_at es p v)).trace k fs (next_entry es (put key (value_in y) made) p v k fs)
  filled_entry-comes key es made p v y = comes-same k fs fit forks (entry-run key es made p v y) (next_entry-comes k fs fit forks es (put key (value_in y) made) p v)

  key-comes : (w : Value) (f : Tree) (es : Entries) (made : Members) (p : Scope) (v : Value) → Comes (t_with_key made w (traced_at f p (plain v)) (traced_entries_at es p v)).trace k fs (value_of_entry w f es made p v k fs)
  key-comes (string key) f es made p v = runs-in k fs fit forks f p (plain v) (entry_value key es made p v) refl (tt, fit)
  key-comes w f es made p v = deliver-comes k fs fit forks key_error

  own_part-comes : (a : Answer) (key : List ℕ) (es : Entries) (made : Members) (p : Scope) (v : Value) → Comes (bind (spread (answered plain a)) (on_output (λ y. (t_on_entry made key y (traced_entries_at es p v)).trace))) k fs (own_part a key es made p v k fs)
  own_part-comes (Ok w) key es made p v =
      comes-same k fs fit forks (bind-ticks 1 (plain w) (λ y. (t_on_entry made key y (traced_entries_at es p v)).trace)) (comes-tick k fs fit forks (comes-tick k fs fit forks (filled_entry-comes key es made p v (plain w))))
  own_part-comes (Err e) key es made p v = stays k fs fit forks (ended (Raised e)) (raise e) k refl fit

  own_key-comes : (w : Value) (es : Entries) (made : Members) (p : Scope) (v : Value) → Comes (t_with_key made w (t_spread (part_at v w)) (traced_entries_at es p v)).trace k fs (own_value w es made p v k fs)
  own_key-comes (string key) es made p v = own_part-comes (index_of v (string key)) key es made p v
  own_key-comes w es made p v = deliver-comes k fs fit forks key_error

  hole-comes : (a : Text) (format : Name) (front back : List ℕ) (hs : List Hole) (p : Scope) (x : Item) → Comes (bind (spread (put_between front back a)) (on_output (holes_at format hs p x))) k fs (fill_hole a format front back hs p x k fs)
  hole-comes (Ok s) format front back hs p x =
      comes-same k fs fit forks (bind-ticks 1 (front ++ (s ++ back)) (holes_at format hs p x)) (comes-tick k fs fit forks (comes-tick k fs fit forks (next_hole-comes k fs fit forks format (front ++ (s ++ back)) hs p x)))
  hole-comes (Err e) format front back hs p x = stays k fs fit forks (ended (Raised e)) (raise e) k refl fit

  -- the start of a fold has given a state: the source runs
  start-comes : (t : Tree) (q : Pattern) (f : Fold) (p : Scope) (x y : Item) → Comes (fold_from t q f p x y) k fs (state (evaluate t p (as_value x)) (source q (fold_step (length fs) f) p ∷ k) (fork (at_end f) (y ∷ []) k ∷ fs))
  start-comes t q f p x y =
      let r = run_at t p (as_value x) in
      let B = behaviours k in
      let W = waiting fs in
      let g = on_output (source_at q p) in
      let below_it : ℕ → Waiting (Event Item) (Event Env) = λ n. record { looks_at = n; run = finish_of f; frames = B } in
      grows k fs fit forks (fold_from t q f p x y) (evaluate t p (as_value x)) (source q (fold_step (length fs) f) p ∷ k) (fork (at_end f) (y ∷ []) k)
      (rest-folded (fold_at f p) (finish_of f) (y ∷ []) r g B W (cells fs) (machine_fits k fs fit) (machine_forks fs forks)
      ∙ ap (λ (n : ℕ). rest r (fold_source n g (fold_at f p) ∷ B) (below_it n ∷ W) (flow.put n (y ∷ []) (cells fs))) (waiting-length fs)
      ∙ finishes f)
      (omega arith, fit) (end_fits f, fit, forks)
    where
      finishes : (f : Fold) → rest (run_at t p (as_value x)) (fold_source (length fs) (on_output (source_at q p)) (fold_at f p) ∷ behaviours k) (record { looks_at = length fs; run = finish_of f; frames = behaviours k } ∷ waiting fs) (flow.put (length fs) (y ∷ []) (cells fs))
          ≡ still (state (evaluate t p (as_value x)) (source q (fold_step (length fs) f) p ∷ k) (fork (at_end f) (y ∷ []) k ∷ fs))
      finishes (reducing update) = refl
      finishes (extracting update extract) = refl

      end_fits : (f : Fold) → ChoiceFits (length fs) (at_end f)
      end_fits (reducing update) = tt
      end_fits (extracting update extract) = tt

-- ---- frames with a cell, a handler or a label

module _ (k : List Frame) (fs : List ForkPoint) (h : ℕ) (fit : Fits h k) (forks : ForksFit fs) where
  turns : (f : Frame) (store : Item → Cell → Cell) (extract : Item → Run (Event Item)) (y : Item) (n : Next) → h < length fs
      → rest (one (output y)) (push f (behaviours k)) (waiting fs) (cells fs) ≡ rest (one (output y)) (turn h (store_output store) (on_output extract) ∷ behaviours k) (waiting fs) (cells fs)
      → ((gs : List ForkPoint) → rest (extract y) (behaviours k) (waiting gs) (cells gs) ≡ still (state n k gs)) → ((m : ℕ) → Fits m k → NextFits m n k)
      → Paid (state (give y) (f ∷ k) fs) (state n k (set_cell h (store y (cell_at h fs)) fs))
  turns f store extract y n low e same fits =
      let B = behaviours k in
      let W = waiting fs in
      let c = store y (cell_at h fs) in
      let gs = set_cell h c fs in
      let l : length gs ≡ length fs = set-length h c fs in
      paid
      (e ∙ paid-turn B W (cells fs) (pass_frames h k fit) y h store extract
      ∙ ap (λ (d : Cell). tick (rest (extract y) B W (flow.put h (store y d) (cells fs)))) (cells-at h fs)
      ∙ ap tick (set-both (λ w s. rest (extract y) B w s) h c fs low))
      (record { marks = 0; same = same gs; low = omega (arith, l); fit = record { frames = fits (length gs) (fits_higher h (length gs) k (omega (arith, l)) fit); forks = set_fits h c fs forks } })

  passes : (f : Frame) (y : Item) → h ≤ length fs → rest (one (output y)) (push f (behaviours k)) (waiting fs) (cells fs) ≡ tick (rest (one (output y)) (behaviours k) (waiting fs) (cells fs)) → Paid (state (give y) (f ∷ k) fs) (state (give y) k fs)
  passes f y low e = paid e (record { marks = 0; same = refl; low = omega arith; fit = record { frames = fits_higher h (length fs) k low fit; forks = forks } })

  collects : (y : Item) → h < length fs → Paid (state (give y) (collect h ∷ k) fs) (receive (collect h) y k fs)
  collects y low = turns (collect h) collect_value (λ z. none) y go_back low refl (λ gs. refl) (λ m p. p)

  extracts : (f : Fold) (p : Scope) (y : Item) → h < length fs → Paid (state (give y) (fold_update h f p ∷ k) fs) (receive (fold_update h f p) y k fs)
  extracts (reducing update) p y low = turns (fold_update h (reducing update) p) replace_state (λ z. none) y go_back low refl (λ gs. refl) (λ m q. q)
  extracts (extracting update extract) p y low =
      turns (fold_update h (extracting update extract) p) replace_state (state_at extract p p.env) y (evaluate extract p y) low refl
      (λ gs. ap (λ (r : Run (Event Item)). rest r (behaviours k) (waiting gs) (cells gs)) (state-run extract p y)) (λ m q. q)

  left-choose : (b : Bool) (y : Item) (gs : List ForkPoint) → rest (if b then one (output y) else none) (behaviours k) (waiting gs) (cells gs) ≡ still (state (if b then give y else go_back) k gs)
  left-choose true y gs = refl
  left-choose false y gs = refl

  left-fits : (b : Bool) (y : Item) (m : ℕ) → Fits m k → NextFits m (if b then give y else go_back) k
  left-fits true y m p = p
  left-fits false y m p = p

  notes : (y : Item) → h < length fs → Paid (state (give y) (left_side h ∷ k) fs) (receive (left_side h) y k fs)
  notes y low =
      turns (left_side h) note_true true_output y (if is_true (value_in y) then give y else go_back) low refl (left-choose (is_true (value_in y)) y) (left-fits (is_true (value_in y)) y)

  tries : (g : Tree) (p : Scope) (x y : Item) → h ≤ length fs → Paid (state (give y) (try_body h g p x ∷ k) fs) (state (give y) k fs)
  tries g p x y low = passes (try_body h g p x) y low (paid-pass (behaviours k) (waiting fs) (cells fs) (pass_frames h k fit) y h (on_raised (λ v. none)))

  labels : (level : ℕ) (y : Item) → h ≤ length fs → Paid (state (give y) (label_body h level ∷ k) fs) (state (give y) k fs)
  labels level y low = passes (label_body h level) y low (paid-pass (behaviours k) (waiting fs) (cells fs) (pass_frames h k fit) y h (on_break (tick none) level))

-- ---- every frame

binder : (n : ℕ) (b : Binder) (q : Pattern) (p : Scope) (k : List Frame) → Fits n (source q b p ∷ k) → BinderFits n b k
binder n (body t x) q p k fit = fit.1
binder n (fold_step h f) q p k fit = (fit.0, fit.1)

key_binder : (n : ℕ) (b : Binder) (q : Pattern) (ps : Parts) (v : Value) (ts : List Task) (p : Scope) (k : List Frame) → Fits n (pattern_key q ps v ts b p ∷ k) → BinderFits n b k
key_binder n (body t x) q ps v ts p k fit = fit.1
key_binder n (fold_step h f) q ps v ts p k fit = (fit.0, fit.1)

pub gives : (f : Frame) (y : Item) (k : List Frame) (fs : List ForkPoint) → Fits (length fs) (f ∷ k) → ForksFit fs → Paid (state (give y) (f ∷ k) fs) (receive f y k fs)
gives (operation o) y k fs fit forks = passes-through k fs fit.1 forks (operation o) y (λ z. spread (result_of o z)) refl (deliver-comes k fs fit.1 forks (result_of o y))
gives (pipe_into g p) y k fs fit forks = passes-through k fs fit.1 forks (pipe_into g p) y (run_at g p) refl (stays k fs fit.1 forks (run_at g p y) (evaluate g p y) k refl fit.1)
gives (target_key t guarded p x) y k fs fit forks =
    passes-through k fs fit.1 forks (target_key t guarded p x) y (λ z. (t_on_key guarded z (traced_at t p x)).trace) refl
    (comes-same k fs fit.1 forks (key-run t guarded p x y) (runs-in k fs fit.1 forks t p x (operation (part_at_key guarded (value_in y))) refl (tt, fit.1)))
gives (slice_start t to guarded p x) y k fs fit forks =
    passes-through k fs fit.1 forks (slice_start t to guarded p x) y (λ z. (t_on_start guarded z (traced_at to p (as_value x)) (traced_at t p x)).trace) refl
    (comes-same k fs fit.1 forks (start-run t to guarded p x y) (runs-in k fs fit.1 forks to p (as_value x) (slice_end t (value_in y) guarded p x) refl (tt, fit.1)))
gives (slice_end t start guarded p x) y k fs fit forks =
    passes-through k fs fit.1 forks (slice_end t start guarded p x) y (λ z. (t_on_end guarded start z (traced_at t p x)).trace) refl
    (comes-same k fs fit.1 forks (end-run t start guarded p x y) (runs-in k fs fit.1 forks t p x (operation (part_at_key guarded (slice_key start (value_in y)))) refl (tt, fit.1)))
gives (right_operand op f p x) y k fs fit forks =
    passes-through k fs fit.1 forks (right_operand op f p x) y (λ z. (t_on_right op z (traced_at f p x)).trace) refl
    (comes-same k fs fit.1 forks (right-run op f p x y) (runs-in k fs fit.1 forks f p x (operation (operate op (value_in y))) refl (tt, fit.1)))
gives (conjunct g p x) y k fs fit forks =
    passes-through k fs fit.1 forks (conjunct g p x) y (λ z. (t_on_conjunct (meaning_at g p) x z (traced_at g p x)).trace) refl (comes-same k fs fit.1 forks (conjunct-run g p x y) (and-comes k fs fit.1 forks (is_true (value_in y)) g p x))
gives (disjunct g p x) y k fs fit forks =
    passes-through k fs fit.1 forks (disjunct g p x) y (λ z. (t_on_disjunct (meaning_at g p) x z (traced_at g p x)).trace) refl (comes-same k fs fit.1 forks (disjunct-run g p x y) (or-comes k fs fit.1 forks (is_true (value_in y)) g p x))
gives (test f g p x) y k fs fit forks =
    passes-through k fs fit.1 forks (test f g p x) y (λ z. (t_on_test (meaning_at f p) (meaning_at g p) x z (traced_at f p x) (traced_at g p x)).trace) refl
    (comes-same k fs fit.1 forks (test-run f g p x y) (branch-comes k fs fit.1 forks (is_true (value_in y)) f g p x))
gives (entry_value key es made p v) y k fs fit forks =
    passes-through k fs fit.1 forks (entry_value key es made p v) y (λ z. (t_on_entry made key z (traced_entries_at es p v)).trace) refl (filled_entry-comes k fs fit.1 forks key es made p v y)
gives (entry_key f es made p v) y k fs fit forks =
    passes-through k fs fit.1 forks (entry_key f es made p v) y (λ z. (t_on_entry_key made z (traced_at f p (plain v)) (traced_entries_at es p v)).trace) refl
    (comes-same k fs fit.1 forks (entry_key-run f es made p v y) (key-comes k fs fit.1 forks (value_in y) f es made p v))
gives (own_entry es made p v) y k fs fit forks =
    passes-through k fs fit.1 forks (own_entry es made p v) y (λ z. (t_on_own_key v made z (traced_entries_at es p v)).trace) refl
    (comes-same k fs fit.1 forks (own_key-run es made p v y) (own_key-comes k fs fit.1 forks (value_in y) es made p v))
gives (hole format front back hs p x) y k fs fit forks =
    passes-through k fs fit.1 forks (hole format front back hs p x) y (filled format front back (holes_at format hs p x)) refl
    (comes-same k fs fit.1 forks (ap (λ (r : Run (Event (List ℕ))). bind r (on_output (holes_at format hs p x))) (inserted-run format front back y)) (hole-comes k fs fit.1 forks (format_of format (value_in y)) format front back hs p x))
gives (argument b ts vs p x) y k fs fit forks = passes-through k fs fit.1 forks (argument b ts vs p x) y _ refl (next_argument-comes k fs fit.1 forks b ts (vs ++ value_in y ∷ []) p x)
gives (source q b p) y k fs fit forks = give_source-paid k fs forks q b p y (binder (length fs) b q p k fit)
gives (pattern_key q ps v ts b p) y k fs fit forks = give_key-paid k fs forks q ps v ts b p y (key_binder (length fs) b q ps v ts p k fit)
gives (fold_start t q f p x) y k fs fit forks = passes-through k fs fit.1 forks (fold_start t q f p x) y (fold_from t q f p x) refl (start-comes k fs fit.1 forks t q f p x y)
gives (fold_update h f p) y k fs fit forks = extracts k fs h fit.1 forks f p y fit.0
gives (collect h) y k fs fit forks = collects k fs h fit.1 forks y fit.0
gives (left_side h) y k fs fit forks = notes k fs h fit.1 forks y fit.0
gives (try_body h g p x) y k fs fit forks = tries k fs h fit.1 forks g p x y fit.0
gives (label_body h level) y k fs fit forks = labels k fs h fit.1 forks level y fit.0
