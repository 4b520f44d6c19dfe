-- The evaluation of a filter: the first transition of each form keeps the remaining run, except for its marks.
use Rattle.std.proofs.Common.{◌≡◌, ℕ, zero, suc, List, [], ◌∷◌, length, Option, Some, None, refl, sym, ap, ◌∙◌, arith}
use Rattle.jv_data.specs.Value.{Value, string, no_members}
use Rattle.jq_natives.specs.declared.native.Native.{Native}
use Rattle.jq_natives.specs.declared.native.Native.TheVariants.{GetPath}
use Rattle.jq_tree.specs.Tree.{Name, Tree, Trees, no_trees, more_trees, trees_count}
use Rattle.jq_tree.specs.Tree as tree
use Rattle.jq_meaning.specs.Runs.{Item, plain, located, value_in, as_value, Done, Broken, Stopped, deep, Run, ended, none, one, then_run, bind, array_of_items, path_error}
use Rattle.jq_meaning.specs.Env.{Env, bound, function, Callee, found_function, found_closure, no_callee, find_value, find_level, find_callee, find_in_prelude, find_inputs, with_arguments}
use Rattle.jq_meaning.specs.Continuations.{value_of_literal, text_item, put_between, format_of}
use Rattle.jq_meaning.specs.Meaning.{below, arguments_with}
use Rattle.jq_meaning.specs.Builtins.{Builtin, no_outputs, paths, range, all_inputs, halts, native, unknown, builtin_named, plain_items}
use Rattle.jq_meaning.proofs.shared.machine.RunLaws.{bind-bind}
use Rattle.jq_meaning.specs.machine.State.{Scope, with_env, part_at_key, every_part, negate, path_value, refuse, reducing, extracting, body, Frame, operation, pipe_into, target_key, slice_start, right_operand, conjunct, disjunct, test, source, fold_start, collect, left_side, try_body, label_body, evaluate, give, go_back, leave, quit, other, collected, right_side, Cell, ForkPoint, fork, State, state}
use Rattle.jq_meaning.specs.machine.Operations.{collect_value, note_true}
use Rattle.jq_meaning.specs.machine.Evaluating.{enter_body, enter_paths, enter_native, enter_builtin, enter_callee, enter_label, enter_break, enter}
use Rattle.jq_meaning.proofs.shared.machine.Flow.{Cells, put, Taken, guarded, stored}
use Rattle.jq_meaning.proofs.shared.machine.Behaviours.{Waiting, through, guard, turn, pending, rest}
use Rattle.jq_meaning.proofs.shared.machine.RestLaws.{rest-then_run, rest-bind, rest-guarded, rest-stored}
use Rattle.jq_meaning.proofs.shared.machine.Shapes.{on_raised, on_break, on_silenced, if_empty}
use Rattle.jq_meaning.proofs.shared.machine.Events.{Event, output, tick, on_output, store_output}
use Rattle.jq_meaning.proofs.shared.machine.Traced.{Traced, t_ended, spread, pass, true_output}
use Rattle.jq_meaning.proofs.shared.machine.TracedMeaning.{traced_below, traced_arguments, t_on_error, t_builtin, t_native_run, t_called, t_broken}
use Rattle.jq_meaning.proofs.shared.machine.Reading.{Behaviours, meaning_at, traced_at, run_at, source_at, body_at, push, behaviours, waiting, cells}
use Rattle.jq_meaning.specs.machine.Heights.{Fits, ForksFit}
use Rattle.jq_meaning.proofs.shared.machine.Invariants.{fits_higher, waiting-length}
use Rattle.jq_meaning.proofs.shared.machine.StackLaws.{cells-none}
use Rattle.jq_meaning.proofs.shared.machine.Comings.{Comes, Pays, machine_fits, machine_forks, pays, comes-tick, comes-same, stays, grows, deliver-comes, refused}
use Rattle.jq_meaning.proofs.shared.machine.Parts.{pieces-comes, next_entry-comes, next_argument-comes, choices-run}

-- a run without its first mark
abbrev pub untick : Run (Event Item) → Run (Event Item)
untick r = record { items = elim r.items [ [] ↦ [] | x ∷ xs ↦ xs ]; ending = r.ending }

module _ (k : List Frame) (fs : List ForkPoint) (fit : Fits (length fs) k) (forks : ForksFit fs) where
  -- a filter runs inside a frame
  pub runs-in : (t : Tree) (p : Scope) (y : Item) (f : Frame) {g : Event Item → Run (Event Item)} → push f (behaviours k) ≡ through g ∷ behaviours k → Fits (length fs) (f ∷ k)
      → Comes (bind (run_at t p y) g) k fs (state (evaluate t p y) (f ∷ k) fs)
  runs-in t p y f {g = g} e q =
      stays k fs fit forks (bind (run_at t p y) g) (evaluate t p y) (f ∷ k)
      (ap (λ a. a (cells fs)) (rest-bind (run_at t p y) g (behaviours k) (waiting fs)) ∙ ap (λ (K : Behaviours). rest (run_at t p y) K (waiting fs) (cells fs)) (sym e)) q

  -- ---- calls

  pub body-comes : (d : ℕ) (t : Tree) (e : Env) (j : ℕ) (x : Item) → Comes (traced_below d t e j x).trace k fs (enter_body d t e j x k fs)
  body-comes zero t e j x = stays k fs fit forks (ended (Stopped deep)) (quit deep) k refl fit
  body-comes (suc d) t e j x =
      let p : Scope = record { env = e; depth = d; level = j } in
      comes-tick k fs fit forks (stays k fs fit forks (run_at t p x) (evaluate t p x) k refl fit)

  paths-comes : (ts : Trees) (p : Scope) (v : Value) → Comes (t_builtin paths (arguments_with (below p.depth) ts p.env p.level) (find_inputs p.env) (plain v) (λ y. traced_arguments (below p.depth) (traced_below p.depth) ts p.env p.level y)).trace k fs (enter_paths ts p v k fs)
  paths-comes no_trees p v = stays k fs fit forks none go_back k refl fit
  paths-comes (more_trees t ts) p v = runs-in t p (located v []) (operation path_value) refl (tt, fit)

  native-comes : (f : Native) (n : Name) (ts : Trees) (p : Scope) (x : Item)
      → ((y : Item) → run_at (tree.call n ts) p y ≡ tick (t_builtin (native f) (arguments_with (below p.depth) ts p.env p.level) (find_inputs p.env) y (λ z. traced_arguments (below p.depth) (traced_below p.depth) ts p.env p.level z)).trace)
      → Comes (t_native_run f (arguments_with (below p.depth) ts p.env p.level (plain (value_in x))) x (traced_arguments (below p.depth) (traced_below p.depth) ts p.env p.level (plain (value_in x)))).trace k fs (enter_native f n ts p x k fs)
  native-comes GetPath n ts p x e = comes-same k fs fit forks (choices-run (native GetPath) ts p x []) (next_argument-comes k fs fit forks (native GetPath) ts [] p x)
  native-comes f n ts p (plain v) e = comes-same k fs fit forks (choices-run (native f) ts p (plain v) []) (next_argument-comes k fs fit forks (native f) ts [] p (plain v))
  native-comes f n ts p (located v path) e = refused k fs fit forks (tree.call n ts) p v _ (e (plain v))

  builtin-comes : (b : Builtin) (n : Name) (ts : Trees) (p : Scope) (x : Item)
      → ((y : Item) → run_at (tree.call n ts) p y ≡ tick (t_builtin b (arguments_with (below p.depth) ts p.env p.level) (find_inputs p.env) y (λ z. traced_arguments (below p.depth) (traced_below p.depth) ts p.env p.level z)).trace)
      → Comes (t_builtin b (arguments_with (below p.depth) ts p.env p.level) (find_inputs p.env) x (λ z. traced_arguments (below p.depth) (traced_below p.depth) ts p.env p.level z)).trace k fs (enter_builtin b n ts p x k fs)
  builtin-comes no_outputs n ts p x e = stays k fs fit forks none go_back k refl fit
  builtin-comes paths n ts p (plain v) e = paths-comes ts p v
  builtin-comes paths n ts p (located v path) e = refused k fs fit forks (tree.call n ts) p v _ (e (plain v))
  builtin-comes range n ts p (plain v) e = comes-same k fs fit forks (choices-run range ts p (plain v) []) (next_argument-comes k fs fit forks range ts [] p (plain v))
  builtin-comes range n ts p (located v path) e = refused k fs fit forks (tree.call n ts) p v _ (e (plain v))
  builtin-comes all_inputs n ts p (plain v) e = deliver-comes k fs fit forks (plain_items (find_inputs p.env))
  builtin-comes all_inputs n ts p (located v path) e = refused k fs fit forks (tree.call n ts) p v _ (e (plain v))
  builtin-comes halts n ts p x e = comes-same k fs fit forks (choices-run halts ts p x []) (next_argument-comes k fs fit forks halts ts [] p x)
  builtin-comes (native f) n ts p x e = native-comes f n ts p x e
  builtin-comes unknown n ts p x e = stays k fs fit forks none go_back k refl fit

  callee-comes : (c : Callee) (ts : Trees) (p : Scope) (x : Item) (o : State) {r : Run Item} (t : Traced r) → (c ≡ no_callee → Comes t.trace k fs o) → Comes (t_called (below p.depth) (traced_below p.depth) c ts p.env p.level x t).trace k fs (enter_callee c ts p x k fs o)
  callee-comes (found_function parameters b own) ts p x o t h = body-comes p.depth b (with_arguments parameters ts p.env own) p.level x
  callee-comes (found_closure b own) ts p x o t h = body-comes p.depth b own p.level x
  callee-comes no_callee ts p x o t h = h refl

  -- ---- breaks

  break-comes : (o : Option ℕ) → Comes (t_broken o).trace k fs (enter_break o k fs)
  break-comes (Some level) = stays k fs fit forks (ended (Broken level)) (leave level) k refl fit
  break-comes None = stays k fs fit forks none go_back k refl fit

  -- ---- forms with a fork point or a height

  comma-comes : (f g : Tree) (p : Scope) (x : Item) → Comes (then_run (run_at f p x) (run_at g p x)) k fs (state (evaluate f p x) k (fork (other g p x) [] k ∷ fs))
  comma-comes f g p x =
      grows k fs fit forks (then_run (run_at f p x) (run_at g p x)) (evaluate f p x) k (fork (other g p x) [] k)
      (ap (λ a. a (cells fs)) (rest-then_run (run_at f p x) (run_at g p x) (behaviours k) (waiting fs) (machine_fits k fs fit))
      ∙ ap (λ (s : Cells). rest (run_at f p x) (behaviours k) (pending (run_at g p x) (behaviours k) ∷ waiting fs) s) (sym (cells-none fs)))
      (fits_higher (length fs) (suc (length fs)) k (omega arith) fit) (tt, fit, forks)

  alternative-comes : (f g : Tree) (p : Scope) (x : Item)
      → Comes (stored (store_output note_true) (on_output true_output) (if_empty (run_at g p x)) [] (guarded (on_silenced (tick none)) (run_at f p x))) k fs (state (evaluate f p x) (left_side (length fs) ∷ k) (fork (right_side g p x) [] k ∷ fs))
  alternative-comes f g p x =
      let r = run_at f p x in
      let B = behaviours k in
      let W = waiting fs in
      let last = if_empty (run_at g p x) in
      let s = cells fs in
      let below_it : ℕ → Waiting (Event Item) (Event Env) = λ n. record { looks_at = n; run = last; frames = B } in
      grows k fs fit forks (stored (store_output note_true) (on_output true_output) last [] (guarded (on_silenced (tick none)) r)) (evaluate f p x) (left_side (length fs) ∷ k) (fork (right_side g p x) [] k)
      (rest-stored (store_output note_true) (on_output true_output) last [] (guarded (on_silenced (tick none)) r) B W s (machine_fits k fs fit) (machine_forks fs forks)
      ∙ ap (λ a. a (put (length W) [] s)) (rest-guarded (on_silenced (tick none)) r (turn (length W) (store_output note_true) (on_output true_output) ∷ B) (below_it (length W) ∷ W) refl)
      ∙ ap (λ (n : ℕ). rest r (guard (suc n) (on_silenced (tick none)) ∷ turn n (store_output note_true) (on_output true_output) ∷ B) (below_it n ∷ W) (put n [] s)) (waiting-length fs))
      (omega arith, fit) (tt, fit, forks)

  array-comes : (f : Tree) (p : Scope) (v : Value)
      → Comes (stored (store_output collect_value) (on_output (λ x. none)) (λ c. one (output (plain (array_of_items c)))) [] (run_at f p (plain v))) k fs (state (evaluate f p (plain v)) (collect (length fs) ∷ k) (fork collected [] k ∷ fs))
  array-comes f p v =
      let r = run_at f p (plain v) in
      let B = behaviours k in
      let W = waiting fs in
      let s = cells fs in
      let last = λ (c : Cell). one (output (plain (array_of_items c))) in
      grows k fs fit forks (stored (store_output collect_value) (on_output (λ x. none)) last [] r) (evaluate f p (plain v)) (collect (length fs) ∷ k) (fork collected [] k)
      (rest-stored (store_output collect_value) (on_output (λ x. none)) last [] r B W s (machine_fits k fs fit) (machine_forks fs forks)
      ∙ ap (λ (n : ℕ). rest r (turn n (store_output collect_value) (on_output (λ x. none)) ∷ B) (record { looks_at = n; run = last; frames = B } ∷ W) (put n [] s)) (waiting-length fs))
      (omega arith, fit) (tt, fit, forks)

  -- an item that passes and an ending that is caught: try and label
  guarded-comes : (take : Taken (Event Item)) (f : Tree) (p : Scope) (x : Item) (frame : ℕ → Frame) → take Done ≡ None → push (frame (length fs)) (behaviours k) ≡ through pass ∷ guard (length fs) take ∷ behaviours k → Fits (length fs) (frame (length fs) ∷ k)
      → Comes (guarded take (bind (run_at f p x) pass)) k fs (state (evaluate f p x) (frame (length fs) ∷ k) fs)
  guarded-comes take f p x frame e q fits =
      let r = run_at f p x in
      let B = behaviours k in
      let W = waiting fs in
      stays k fs fit forks (guarded take (bind r pass)) (evaluate f p x) (frame (length fs) ∷ k)
      (ap (λ a. a (cells fs)) (rest-guarded take (bind r pass) B W e ∙ rest-bind r pass (guard (length W) take ∷ B) W)
      ∙ ap (λ (n : ℕ). rest r (through pass ∷ guard n take ∷ B) W (cells fs)) (waiting-length fs)
      ∙ ap (λ (K : Behaviours). rest r K W (cells fs)) (sym q)) fits

  -- ---- every form

  refuses : (t : Tree) (p : Scope) (v : Value) → run_at t p (plain v) ≡ tick (untick (run_at t p (plain v))) → Comes (bind (tick (untick (run_at t p (plain v)))) (on_output (λ x. spread path_error))) k fs (state (evaluate t p (plain v)) (operation refuse ∷ k) fs)
  refuses t p v e = refused k fs fit forks t p v (untick (run_at t p (plain v))) e

  pub enters : (t : Tree) (p : Scope) (x : Item) → Pays (run_at t p x) k fs (enter t p x k fs)
  enters tree.identity p x = pays k fs fit forks (stays k fs fit forks (one (output x)) (give x) k refl fit)
  enters tree.empty p x = pays k fs fit forks (stays k fs fit forks none go_back k refl fit)
  enters (tree.literal l) p (plain v) = pays k fs fit forks (stays k fs fit forks (one (output (plain (value_of_literal l)))) (give (plain (value_of_literal l))) k refl fit)
  enters (tree.literal l) p (located v path) = pays k fs fit forks (refuses (tree.literal l) p v refl)
  enters (tree.text format ps) p (plain v) = pays k fs fit forks (pieces-comes k fs fit forks ps format [] p (plain v))
  enters (tree.text format ps) p (located v path) = pays k fs fit forks (refuses (tree.text format ps) p v refl)
  enters (tree.format n) p (plain v) = pays k fs fit forks (deliver-comes k fs fit forks (bind (put_between [] [] (format_of n v)) text_item))
  enters (tree.format n) p (located v path) = pays k fs fit forks (refuses (tree.format n) p v refl)
  enters (tree.variable n) p (plain v) = pays k fs fit forks (stays k fs fit forks (one (output (plain (find_value n p.env)))) (give (plain (find_value n p.env))) k refl fit)
  enters (tree.variable n) p (located v path) = pays k fs fit forks (refuses (tree.variable n) p v refl)
  enters (tree.field t key guarded) p x = pays k fs fit forks (runs-in t p x (operation (part_at_key guarded (string key))) refl (tt, fit))
  enters (tree.index t key guarded) p x = pays k fs fit forks (runs-in key p (as_value x) (target_key t guarded p x) refl (tt, fit))
  enters (tree.slice t from to guarded) p x = pays k fs fit forks (runs-in from p (as_value x) (slice_start t to guarded p x) refl (tt, fit))
  enters (tree.iterate t guarded) p x = pays k fs fit forks (runs-in t p x (operation (every_part guarded)) refl (tt, fit))
  enters (tree.pipe f g) p x = pays k fs fit forks (runs-in f p x (pipe_into g p) refl (tt, fit))
  enters (tree.comma f g) p x = pays k fs fit forks (comma-comes f g p x)
  enters (tree.binary op f g) p (plain v) = pays k fs fit forks (runs-in g p (plain v) (right_operand op f p (plain v)) refl (tt, fit))
  enters (tree.binary op f g) p (located v path) = pays k fs fit forks (refuses (tree.binary op f g) p v refl)
  enters (tree.conjunction f g) p (plain v) = pays k fs fit forks (runs-in f p (plain v) (conjunct g p (plain v)) refl (tt, fit))
  enters (tree.conjunction f g) p (located v path) = pays k fs fit forks (refuses (tree.conjunction f g) p v refl)
  enters (tree.disjunction f g) p (plain v) = pays k fs fit forks (runs-in f p (plain v) (disjunct g p (plain v)) refl (tt, fit))
  enters (tree.disjunction f g) p (located v path) = pays k fs fit forks (refuses (tree.disjunction f g) p v refl)
  enters (tree.alternative f g) p x = pays k fs fit forks (alternative-comes f g p x)
  enters (tree.negation f) p (plain v) = pays k fs fit forks (runs-in f p (plain v) (operation negate) refl (tt, fit))
  enters (tree.negation f) p (located v path) = pays k fs fit forks (refuses (tree.negation f) p v refl)
  enters (tree.array f) p (plain v) = pays k fs fit forks (array-comes f p v)
  enters (tree.array f) p (located v path) = pays k fs fit forks (refuses (tree.array f) p v refl)
  enters (tree.object es) p (plain v) = pays k fs fit forks (next_entry-comes k fs fit forks es no_members p v)
  enters (tree.object es) p (located v path) = pays k fs fit forks (refuses (tree.object es) p v refl)
  enters (tree.choice c f g) p x = pays k fs fit forks (runs-in c p (as_value x) (test f g p x) refl (tt, fit))
  enters (tree.try_catch f g) p x =
      pays k fs fit forks (guarded-comes (on_raised (λ v. tick (t_on_error (meaning_at g p) x v (traced_at g p (plain v))).trace)) f p x (λ h. try_body h g p x) refl refl (omega arith, fit))
  enters (tree.label n f) p x = pays k fs fit forks (guarded-comes (on_break (tick none) p.level) f (enter_label n p) x (λ h. label_body h p.level) refl refl (omega arith, fit))
  enters (tree.break n) p x = pays k fs fit forks (break-comes (find_level n p.env))
  enters (tree.bind_as t q f) p x =
      pays k fs fit forks (comes-same k fs fit forks (bind-bind (run_at t p (as_value x)) (on_output (source_at q p)) (on_output (body_at f p x))) (runs-in t p (as_value x) (source q (body f x) p) refl (tt, fit)))
  enters (tree.reduce t q start update) p x = pays k fs fit forks (runs-in start p x (fold_start t q (reducing update) p x) refl (tt, fit))
  enters (tree.foreach t q start update extract) p x = pays k fs fit forks (runs-in start p x (fold_start t q (extracting update extract) p x) refl (tt, fit))
  enters (tree.define n parameters t others) p x =
      let q = with_env (bound (function n parameters t) p.env) p in pays k fs fit forks (stays k fs fit forks (run_at others q x) (evaluate others q x) k refl fit)
  enters (tree.call n ts) p x =
      let b = t_builtin (builtin_named n (trees_count ts)) (arguments_with (below p.depth) ts p.env p.level) (find_inputs p.env) x (λ z. traced_arguments (below p.depth) (traced_below p.depth) ts p.env p.level z) in
      pays k fs fit forks (callee-comes (find_callee n (trees_count ts) p.env) ts p x (enter_builtin (builtin_named n (trees_count ts)) n ts p x k fs) b (λ e. builtin-comes (builtin_named n (trees_count ts)) n ts p x (λ y. no_function e y)))
    where
      no_function : find_callee n (trees_count ts) p.env ≡ no_callee → (y : Item) → run_at (tree.call n ts) p y ≡ tick (t_builtin (builtin_named n (trees_count ts)) (arguments_with (below p.depth) ts p.env p.level) (find_inputs p.env) y (λ z. traced_arguments (below p.depth) (traced_below p.depth) ts p.env p.level z)).trace
      no_function e y =
          let b = t_builtin (builtin_named n (trees_count ts)) (arguments_with (below p.depth) ts p.env p.level) (find_inputs p.env) y (λ z. traced_arguments (below p.depth) (traced_below p.depth) ts p.env p.level z) in
          ap (λ c. tick (t_called (below p.depth) (traced_below p.depth) c ts p.env p.level y b).trace) e
  enters (tree.prelude_call n ts) p x =
      pays k fs fit forks (callee-comes (find_in_prelude n (trees_count ts) p.env) ts p x (state go_back k fs) (t_ended Done) (λ e. stays k fs fit forks none go_back k refl fit))
