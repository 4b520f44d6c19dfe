-- No run ends in a break of a label outside of it.
use Rattle.std.proofs.Common.{ℕ, ℤ, zero, suc, List, [], ◌∷◌, ◌++◌, Bool, true, false, arith, pos}
use Rattle.std.specs.Prelude.{⊤, Option, Some, None, Result, Ok, Err, nat_le, if◌then◌else◌, map, codes}
use Rattle.std.specs.List.{range_with_len}
use Rattle.std.specs.Ordering.{int_eq}
use Rattle.jv_arith.specs.Arith.{neg_of}
use Rattle.jv_data.specs.Members.{put}
use Rattle.jv_data.specs.Value.{Value, null, boolean, number, string, array, object, Members, no_members}
use Rattle.jv_text.specs.Formats.{Text}
use Rattle.jv_value.specs.Index.{index_of, slice_key}
use Rattle.jv_value.specs.Parts.{parts_of}
use Rattle.jq_natives.specs.Answers.{Answer, is_true}
use Rattle.jq_natives.specs.Natives.{answer_of_native}
use Rattle.jq_natives.specs.declared.native.Native.{Native}
use Rattle.jq_natives.specs.declared.native.Native.TheVariants.{GetPath}
use Rattle.jq_tree.specs.Tree.{Name, Tree, Trees, no_trees, more_trees, trees_count, Pieces, Entries, Pattern, Patterns, Parts}
use Rattle.jq_tree.specs.Tree as tree
use Rattle.jq_meaning.specs.laws.Breaks.{IsNoBreak}
use Rattle.jq_meaning.specs.Builtins.{Builtin, no_outputs, paths, range, all_inputs, halts, native, unknown, builtin_named, builtin_run, plain_items, first_run, each_choice, range_of, numbers_between, halt_bytes, not_an_exit_code, halted_by, plain_native, path_native, native_run, at_path, steps_between, step_from}
use Rattle.jq_meaning.specs.Env.{Env, outermost, bound, value_of, function, label_of, Callee, found_function, found_closure, no_callee, find_value, find_level, find_callee, find_in_prelude, find_inputs, with_arguments, with_variables}
use Rattle.jq_meaning.specs.Folds.{reduced, each_of}
use Rattle.jq_meaning.specs.Continuations.{value_of_literal, text_item, put_between, format_of, broken, with_key, part_at, on_target, on_key, on_end, on_start, on_left, on_right, truth, on_conjunct, on_disjunct, negated, on_test, on_error, on_inserted, on_back, on_entry, on_entry_key, on_own_key, on_part, on_part_key, on_named_part, on_source, in_bindings, on_state}
use Rattle.jq_meaning.specs.Meaning.{Means, meaning_with, below, run_of, called, arguments_with, pieces_with, entries_with, bindings_with, items_with, members_with}
use Rattle.jq_meaning.specs.Runs.{Item, plain, located, value_in, Run, Ending, Done, Raised, Broken, Stopped, halted, ended, none, one, fail, bind, bind_items, go_on, gathered, paths_in}
use Rattle.jq_meaning.specs.Steps.{step, step_answer, guarded_fail, all_parts, each_part, operator_of}
use Rattle.jq_meaning.proofs.BreakLemmas.{EndingBelow, EndsBelow, Each, LabelsBelow, LevelBelow, CalleeBelow, labels_higher, then_run-below, bind_each-below, bind-below, each_trivial, answered-below, without_path-below, gathered-below, catch-below, alternative-below, labelled-below, reduced-below, each_of-below, find_inputs-below, find_level-below, find_callee-below, find_in_prelude-below, with_arguments-below, with_variables-below}

abbrev Safe : Means → Type 0
Safe m = (t : Tree) (e : Env) (k : ℕ) (x : Item) → LabelsBelow k e → EndsBelow k (m t e k x)

-- ---- lists of bindings

Each-append : {A : Type 0} (P : A → Type 0) (xs ys : List A) → Each P xs → Each P ys → Each P (xs ++ ys)
Each-append P [] ys h i = i
Each-append P (x ∷ xs) ys h i = (h.0, Each-append P xs ys h.1 i)

Each-go_on : {A : Type 0} (P : A → Type 0) (e : Ending) (r : Run A) → Each P r.items → Each P (go_on e r).items
Each-go_on P Done r h = h
Each-go_on P (Raised v) r h = tt
Each-go_on P (Broken level) r h = tt
Each-go_on P (Stopped stop) r h = tt

Each-bind : {A B : Type 0} (P : A → Type 0) (Q : B → Type 0) (xs : List A) (e : Ending) (g : A → Run B) → Each P xs → ((x : A) → P x → Each Q (g x).items) → Each Q (bind_items xs e g).items
Each-bind P Q [] e g h i = tt
Each-bind P Q (x ∷ xs) e g h i =
    Each-append Q (g x).items (go_on (g x).ending (bind_items xs e g)).items (i x h.0)
    (Each-go_on Q (g x).ending (bind_items xs e g) (Each-bind P Q xs e g h.1 i))

-- the run ends below k, and so do the labels of each list of bindings
abbrev Good : ℕ → Run Env → Type 0
Good k r = EndsBelow k r × Each (LabelsBelow k) r.items

good_bind : {A : Type 0} (k : ℕ) (P : A → Type 0) (r : Run A) (g : A → Run Env) → EndsBelow k r → Each P r.items → ((x : A) → P x → Good k (g x)) → Good k (bind r g)
good_bind k P r g h all i =
    (bind_each-below k P r g h all (λ x j. (i x j).0), Each-bind P (LabelsBelow k) r.items r.ending g all (λ x j. (i x j).1))

good_items : (k : ℕ) (r : Run Item) (g : Item → Run Env) → EndsBelow k r → ((x : Item) → Good k (g x)) → Good k (bind r g)
good_items k r g h i = good_bind k (λ x. ⊤) r g h (each_trivial r.items) (λ x j. i x)

-- ---- steps

guarded_fail-below : (k : ℕ) (guarded : Bool) (v : Value) → EndsBelow k (guarded_fail guarded v)
guarded_fail-below k true v = tt
guarded_fail-below k false v = tt

step_answer-below : (k : ℕ) (guarded : Bool) (x : Item) (key : Value) (a : Answer) → EndsBelow k (step_answer guarded x key a)
step_answer-below k guarded x key (Ok w) = tt
step_answer-below k guarded x key (Err e) = guarded_fail-below k guarded e

step-below : (k : ℕ) (guarded : Bool) (x : Item) (key : Value) → EndsBelow k (step guarded x key)
step-below k guarded x key = step_answer-below k guarded x key (index_of (value_in x) key)

all_parts-below : (k : ℕ) (guarded : Bool) (x : Item) (a : Result (List Value) Value) → EndsBelow k (all_parts guarded x a)
all_parts-below k guarded x (Ok vs) = tt
all_parts-below k guarded x (Err e) = guarded_fail-below k guarded e

put_between-below : (k : ℕ) (front back : List ℕ) (t : Text) → EndsBelow k (put_between front back t)
put_between-below k front back (Ok s) = tt
put_between-below k front back (Err e) = tt

broken-below : (k : ℕ) (o : Option ℕ) → LevelBelow k o → EndsBelow k (broken o)
broken-below k None h = tt
broken-below k (Some level) h = h

on_conjunct-below : (k : ℕ) (right : Item → Run Item) (x left : Item) → EndsBelow k (right x) → EndsBelow k (on_conjunct right x left)
unfolding on_conjunct truth
on_conjunct-below k right x left h = go (is_true (value_in left))
  where
    go : (b : Bool) → EndsBelow k (let s : Run Item = elim b [ true ↦ bind (right x) truth | false ↦ one (plain (boolean false)) ] in s)
    go true = bind-below k (right x) truth h (λ v. tt)
    go false = tt

on_disjunct-below : (k : ℕ) (right : Item → Run Item) (x left : Item) → EndsBelow k (right x) → EndsBelow k (on_disjunct right x left)
unfolding on_disjunct truth
on_disjunct-below k right x left h = go (is_true (value_in left))
  where
    go : (b : Bool) → EndsBelow k (let s : Run Item = elim b [ true ↦ one (plain (boolean true)) | false ↦ bind (right x) truth ] in s)
    go true = tt
    go false = bind-below k (right x) truth h (λ v. tt)

on_test-below : (k : ℕ) (holds fails : Item → Run Item) (x test : Item) → EndsBelow k (holds x) → EndsBelow k (fails x) → EndsBelow k (on_test holds fails x test)
unfolding on_test
on_test-below k holds fails x test h i = go (is_true (value_in test))
  where
    go : (b : Bool) → EndsBelow k (let s : Run Item = elim b [ true ↦ holds x | false ↦ fails x ] in s)
    go true = h
    go false = i

with_key-below : (k : ℕ) (values : Run Item) (later : Members → Run Item) (made : Members) (key : Value) → EndsBelow k values → ((ms : Members) → EndsBelow k (later ms)) → EndsBelow k (with_key values later made key)
unfolding on_entry
with_key-below k values later made null h i = tt
with_key-below k values later made (boolean b) h i = tt
with_key-below k values later made (number n) h i = tt
with_key-below k values later made (string s) h i = bind-below k values (on_entry later made s) h (λ v. i (put s (value_in v) made))
with_key-below k values later made (array vs) h i = tt
with_key-below k values later made (object ms) h i = tt

-- ---- calls of names of the language

each_choice-below : {A : Type 0} (k : ℕ) (rs : List (Run Item)) (g : List Value → Run A) → Each (EndsBelow k) rs → ((vs : List Value) → EndsBelow k (g vs)) → EndsBelow k (each_choice rs g)
each_choice-below k [] g h i = i []
each_choice-below k (r ∷ rs) g h i =
    bind-below k r (λ v. each_choice rs (λ vs. g (value_in v ∷ vs))) h.0 (λ v. each_choice-below k rs (λ vs. g (value_in v ∷ vs)) h.1 (λ vs. i (value_in v ∷ vs)))

first_run-below : (k : ℕ) (rs : List (Run Item)) → Each (EndsBelow k) rs → EndsBelow k (first_run rs)
first_run-below k [] h = tt
first_run-below k (r ∷ rs) h = h.0

either_below : {A : Type 0} (k : ℕ) (r s : Run A) → EndsBelow k r → EndsBelow k s → (b : Bool) → EndsBelow k (if b then r else s)
either_below k r s h i true = h
either_below k r s h i false = i

numbers-below : (k : ℕ) (start end step : ℤ) → EndsBelow k (numbers_between start end step)
numbers-below k start end step =
    either_below k (fail (string (codes "Range step is 0"))) (record { items = map (step_from start step) (range_with_len 0 (steps_between start end step)); ending = Done }) tt tt (int_eq step (pos 0))

range-below : (k : ℕ) (vs : List Value) → EndsBelow k (range_of vs)
range-below k (number start ∷ number end ∷ []) = numbers-below k start end (pos 1)
range-below k (number start ∷ number end ∷ number step ∷ []) = numbers-below k start end step
range-below k vs = tt

halted-below : (k : ℕ) (v : Value) (vs : List Value) → EndsBelow k (halted_by v vs)
halted-below k v [] = tt
halted-below k v (number (pos n) ∷ []) = either_below k (ended (Stopped (halted n (halt_bytes v)))) not_an_exit_code tt tt (nat_le n 255)
halted-below k v vs = tt

native_run-below : (k : ℕ) (f : Native) (rs : List (Run Item)) (x : Item) → Each (EndsBelow k) rs → EndsBelow k (native_run f rs x)
native_run-below k GetPath rs x h = each_choice-below k rs (path_native GetPath x) h (λ vs. answered-below k (at_path x vs) (answer_of_native GetPath (value_in x) vs))
native_run-below k f rs x h =
    without_path-below k x (each_choice rs (plain_native f (value_in x))) (each_choice-below k rs (plain_native f (value_in x)) h (λ vs. answered-below k plain (answer_of_native f (value_in x) vs)))

builtin_run-below : (k : ℕ) (b : Builtin) (arguments : Item → List (Run Item)) (inputs : Run Value) (x : Item) → ((y : Item) → Each (EndsBelow k) (arguments y)) → EndsBelow k inputs → EndsBelow k (builtin_run b arguments inputs x)
builtin_run-below k no_outputs arguments inputs x h i = tt
builtin_run-below k paths arguments inputs x h i =
    without_path-below k x (paths_in (first_run (arguments (located (value_in x) [])))) (first_run-below k (arguments (located (value_in x) [])) (h (located (value_in x) [])))
builtin_run-below k range arguments inputs x h i =
    without_path-below k x (each_choice (arguments (plain (value_in x))) range_of) (each_choice-below k (arguments (plain (value_in x))) range_of (h (plain (value_in x))) (range-below k))
builtin_run-below k all_inputs arguments inputs x h i = without_path-below k x (plain_items inputs) i
builtin_run-below k halts arguments inputs x h i =
    each_choice-below k (arguments (plain (value_in x))) (halted_by (value_in x)) (h (plain (value_in x))) (halted-below k (value_in x))
builtin_run-below k (native f) arguments inputs x h i = native_run-below k f (arguments (plain (value_in x))) x (h (plain (value_in x)))
builtin_run-below k unknown arguments inputs x h i = tt

-- ---- trees

module _ (deeper : Means) (safe : Safe deeper) where
  called-below : (c : Callee) (ts : Trees) (caller : Env) (k : ℕ) (x : Item) (otherwise : Run Item) → CalleeBelow k c → LabelsBelow k caller → EndsBelow k otherwise → EndsBelow k (called deeper c ts caller k x otherwise)
  called-below (found_function ps body own) ts caller k x otherwise h l i = safe body (with_arguments ps ts caller own) k x (with_arguments-below k ps ts caller own l h)
  called-below (found_closure body own) ts caller k x otherwise h l i = safe body own k x h
  called-below no_callee ts caller k x otherwise h l i = i

  mutual
    unfolding on_target on_key on_end on_start on_left on_right negated on_error in_bindings on_state on_source on_back on_inserted on_entry on_entry_key on_own_key on_part on_part_key on_named_part

    tree_safe : (t : Tree) (e : Env) (k : ℕ) (x : Item) → LabelsBelow k e → EndsBelow k (meaning_with deeper t e k x)
    tree_safe tree.identity e k x l = tt
    tree_safe tree.empty e k x l = tt
    tree_safe (tree.literal v) e k x l = without_path-below k x (one (plain (value_of_literal v))) tt
    tree_safe (tree.text format ps) e k x l =
        without_path-below k x (bind (pieces_with deeper ps format e k (plain (value_in x))) text_item)
        (bind-below k (pieces_with deeper ps format e k (plain (value_in x))) text_item (pieces_safe ps format e k (plain (value_in x)) l) (λ s. tt))
    tree_safe (tree.format n) e k x l =
        without_path-below k x (bind (put_between [] [] (format_of n (value_in x))) text_item)
        (bind-below k (put_between [] [] (format_of n (value_in x))) text_item (put_between-below k [] [] (format_of n (value_in x))) (λ s. tt))
    tree_safe (tree.variable n) e k x l = without_path-below k x (one (plain (find_value n e))) tt
    tree_safe (tree.field t key guarded) e k x l =
        bind-below k (meaning_with deeper t e k x) (on_target guarded (string key)) (tree_safe t e k x l) (λ y. step-below k guarded y (string key))
    tree_safe (tree.index t key guarded) e k x l =
        bind-below k (meaning_with deeper key e k (plain (value_in x))) (on_key guarded (meaning_with deeper t e k x)) (tree_safe key e k (plain (value_in x)) l)
        (λ i. bind-below k (meaning_with deeper t e k x) (on_target guarded (value_in i)) (tree_safe t e k x l) (λ y. step-below k guarded y (value_in i)))
    tree_safe (tree.slice t from to guarded) e k x l =
        bind-below k (meaning_with deeper from e k (plain (value_in x))) (on_start guarded (meaning_with deeper to e k (plain (value_in x))) (meaning_with deeper t e k x))
        (tree_safe from e k (plain (value_in x)) l)
        (λ a. bind-below k (meaning_with deeper to e k (plain (value_in x))) (on_end guarded (meaning_with deeper t e k x) (value_in a)) (tree_safe to e k (plain (value_in x)) l)
        (λ b. bind-below k (meaning_with deeper t e k x) (on_target guarded (slice_key (value_in a) (value_in b))) (tree_safe t e k x l)
        (λ y. step-below k guarded y (slice_key (value_in a) (value_in b)))))
    tree_safe (tree.iterate t guarded) e k x l =
        bind-below k (meaning_with deeper t e k x) (each_part guarded) (tree_safe t e k x l) (λ y. all_parts-below k guarded y (parts_of (value_in y)))
    tree_safe (tree.pipe f g) e k x l =
        bind-below k (meaning_with deeper f e k x) (meaning_with deeper g e k) (tree_safe f e k x l) (λ y. tree_safe g e k y l)
    tree_safe (tree.comma f g) e k x l =
        then_run-below k (meaning_with deeper f e k x) (meaning_with deeper g e k x) (tree_safe f e k x l) (tree_safe g e k x l)
    tree_safe (tree.binary op f g) e k x l =
        without_path-below k x (bind (meaning_with deeper g e k (plain (value_in x))) (on_right op (meaning_with deeper f e k (plain (value_in x)))))
        (bind-below k (meaning_with deeper g e k (plain (value_in x))) (on_right op (meaning_with deeper f e k (plain (value_in x)))) (tree_safe g e k (plain (value_in x)) l)
        (λ b. bind-below k (meaning_with deeper f e k (plain (value_in x))) (on_left op (value_in b)) (tree_safe f e k (plain (value_in x)) l)
        (λ a. answered-below k plain (operator_of op (value_in a) (value_in b)))))
    tree_safe (tree.conjunction f g) e k x l =
        without_path-below k x (bind (meaning_with deeper f e k (plain (value_in x))) (on_conjunct (meaning_with deeper g e k) (plain (value_in x))))
        (bind-below k (meaning_with deeper f e k (plain (value_in x))) (on_conjunct (meaning_with deeper g e k) (plain (value_in x))) (tree_safe f e k (plain (value_in x)) l)
        (λ a. on_conjunct-below k (meaning_with deeper g e k) (plain (value_in x)) a (tree_safe g e k (plain (value_in x)) l)))
    tree_safe (tree.disjunction f g) e k x l =
        without_path-below k x (bind (meaning_with deeper f e k (plain (value_in x))) (on_disjunct (meaning_with deeper g e k) (plain (value_in x))))
        (bind-below k (meaning_with deeper f e k (plain (value_in x))) (on_disjunct (meaning_with deeper g e k) (plain (value_in x))) (tree_safe f e k (plain (value_in x)) l)
        (λ a. on_disjunct-below k (meaning_with deeper g e k) (plain (value_in x)) a (tree_safe g e k (plain (value_in x)) l)))
    tree_safe (tree.alternative f g) e k x l =
        alternative-below k (meaning_with deeper f e k x) (meaning_with deeper g e k) x (tree_safe f e k x l) (tree_safe g e k x l)
    tree_safe (tree.negation f) e k x l =
        without_path-below k x (bind (meaning_with deeper f e k (plain (value_in x))) negated)
        (bind-below k (meaning_with deeper f e k (plain (value_in x))) negated (tree_safe f e k (plain (value_in x)) l) (λ v. answered-below k plain (neg_of (value_in v))))
    tree_safe (tree.array f) e k x l =
        without_path-below k x (gathered (meaning_with deeper f e k (plain (value_in x)))) (gathered-below k (meaning_with deeper f e k (plain (value_in x))) (tree_safe f e k (plain (value_in x)) l))
    tree_safe (tree.object es) e k x l =
        without_path-below k x (entries_with deeper es e k (value_in x) no_members) (entries_safe es e k (value_in x) no_members l)
    tree_safe (tree.choice c f g) e k x l =
        bind-below k (meaning_with deeper c e k (plain (value_in x))) (on_test (meaning_with deeper f e k) (meaning_with deeper g e k) x) (tree_safe c e k (plain (value_in x)) l)
        (λ b. on_test-below k (meaning_with deeper f e k) (meaning_with deeper g e k) x b (tree_safe f e k x l) (tree_safe g e k x l))
    tree_safe (tree.try_catch f g) e k x l =
        catch-below k (meaning_with deeper f e k x) (on_error (meaning_with deeper g e k) x) (tree_safe f e k x l)
        (λ v. without_path-below k x (meaning_with deeper g e k (plain v)) (tree_safe g e k (plain v) l))
    tree_safe (tree.label n f) e k x l =
        labelled-below k (meaning_with deeper f (bound (label_of n k) e) (suc k) x) (tree_safe f (bound (label_of n k) e) (suc k) x (omega arith, labels_higher k e l))
    tree_safe (tree.break n) e k x l = broken-below k (find_level n e) (find_level-below k n e l)
    tree_safe (tree.bind_as t p f) e k x l =
        let r : Run Item = meaning_with deeper t e k (plain (value_in x)) in
        let good : Good k (bind r (on_source (bindings_with deeper p k) e)) = good_items k r (on_source (bindings_with deeper p k) e) (tree_safe t e k (plain (value_in x)) l) (λ v. bindings_safe p k e (value_in v) l) in
        bind_each-below k (LabelsBelow k) (bind r (on_source (bindings_with deeper p k) e)) (in_bindings (meaning_with deeper f) k x) good.0 good.1 (λ e' l'. tree_safe f e' k x l')
    tree_safe (tree.reduce t p start update) e k x l =
        let r : Run Item = meaning_with deeper t e k (plain (value_in x)) in
        let sources : Run Env = bind r (on_source (bindings_with deeper p k) e) in
        let good : Good k sources = good_items k r (on_source (bindings_with deeper p k) e) (tree_safe t e k (plain (value_in x)) l) (λ v. bindings_safe p k e (value_in v) l) in
        bind-below k (meaning_with deeper start e k x) (reduced (on_state (meaning_with deeper update) k) sources.items sources.ending) (tree_safe start e k x l)
        (λ s. reduced-below k (LabelsBelow k) (on_state (meaning_with deeper update) k) sources.items sources.ending s good.0 good.1 (λ e' l' y. tree_safe update e' k y l'))
    tree_safe (tree.foreach t p start update extract) e k x l =
        let r : Run Item = meaning_with deeper t e k (plain (value_in x)) in
        let sources : Run Env = bind r (on_source (bindings_with deeper p k) e) in
        let good : Good k sources = good_items k r (on_source (bindings_with deeper p k) e) (tree_safe t e k (plain (value_in x)) l) (λ v. bindings_safe p k e (value_in v) l) in
        bind-below k (meaning_with deeper start e k x) (each_of (on_state (meaning_with deeper update) k) (on_state (meaning_with deeper extract) k) sources.items sources.ending) (tree_safe start e k x l)
        (λ s. each_of-below k (LabelsBelow k) (on_state (meaning_with deeper update) k) (on_state (meaning_with deeper extract) k) sources.items sources.ending s good.0 good.1
        (λ e' l' y. tree_safe update e' k y l') (λ e' l' y. tree_safe extract e' k y l'))
    tree_safe (tree.define n parameters body rest) e k x l = tree_safe rest (bound (function n parameters body) e) k x l
    tree_safe (tree.call n ts) e k x l =
        called-below (find_callee n (trees_count ts) e) ts e k x (builtin_run (builtin_named n (trees_count ts)) (arguments_with deeper ts e k) (find_inputs e) x)
        (find_callee-below k n (trees_count ts) e l) l
        (builtin_run-below k (builtin_named n (trees_count ts)) (arguments_with deeper ts e k) (find_inputs e) x (λ y. arguments_safe ts e k y l) (find_inputs-below k e l))
    tree_safe (tree.prelude_call n ts) e k x l =
        called-below (find_in_prelude n (trees_count ts) e) ts e k x none (find_in_prelude-below k n (trees_count ts) e l) l tt

    arguments_safe : (ts : Trees) (e : Env) (k : ℕ) (x : Item) → LabelsBelow k e → Each (EndsBelow k) (arguments_with deeper ts e k x)
    arguments_safe no_trees e k x l = tt
    arguments_safe (more_trees t ts) e k x l = (tree_safe t e k x l, arguments_safe ts e k x l)

    pieces_safe : (ps : Pieces) (format : Name) (e : Env) (k : ℕ) (x : Item) → LabelsBelow k e → EndsBelow k (pieces_with deeper ps format e k x)
    pieces_safe (tree.last_piece s) format e k x l = tt
    pieces_safe (tree.more_pieces s f ps) format e k x l =
        bind-below k (pieces_with deeper ps format e k x) (on_back format s (meaning_with deeper f e k x)) (pieces_safe ps format e k x l)
        (λ back. bind-below k (meaning_with deeper f e k x) (on_inserted format s back) (tree_safe f e k x l) (λ v. put_between-below k s back (format_of format (value_in v))))

    entries_safe : (es : Entries) (e : Env) (k : ℕ) (v : Value) (made : Members) → LabelsBelow k e → EndsBelow k (entries_with deeper es e k v made)
    entries_safe tree.no_entries e k v made l = tt
    entries_safe (tree.more_entries (tree.named key f) es) e k v made l =
        bind-below k (meaning_with deeper f e k (plain v)) (on_entry (entries_with deeper es e k v) made key) (tree_safe f e k (plain v) l)
        (λ w. entries_safe es e k v (put key (value_in w) made) l)
    entries_safe (tree.more_entries (tree.computed key f) es) e k v made l =
        bind-below k (meaning_with deeper key e k (plain v)) (on_entry_key (meaning_with deeper f e k (plain v)) (entries_with deeper es e k v) made) (tree_safe key e k (plain v) l)
        (λ name. with_key-below k (meaning_with deeper f e k (plain v)) (entries_with deeper es e k v) made (value_in name) (tree_safe f e k (plain v) l) (λ ms. entries_safe es e k v ms l))
    entries_safe (tree.more_entries (tree.own key) es) e k v made l =
        bind-below k (meaning_with deeper key e k (plain v)) (on_own_key v (entries_with deeper es e k v) made) (tree_safe key e k (plain v) l)
        (λ name. with_key-below k (part_at v (value_in name)) (entries_with deeper es e k v) made (value_in name) (answered-below k plain (index_of v (value_in name))) (λ ms. entries_safe es e k v ms l))

    bindings_safe : (p : Pattern) (k : ℕ) (e : Env) (v : Value) → LabelsBelow k e → Good k (bindings_with deeper p k e v)
    bindings_safe (tree.whole n) k e v l = (tt, (l, tt))
    bindings_safe (tree.items ps) k e v l = items_safe ps 0 k v e l
    bindings_safe (tree.members ps) k e v l = members_safe ps k v e l

    items_safe : (ps : Patterns) (i : ℕ) (k : ℕ) (v : Value) (e : Env) → LabelsBelow k e → Good k (items_with deeper ps i k v e)
    items_safe tree.no_patterns i k v e l = (tt, (l, tt))
    items_safe (tree.more_patterns p ps) i k v e l =
        good_items k (part_at v (number (pos i))) (on_part (bindings_with deeper p k) e (items_with deeper ps (suc i) k v)) (answered-below k plain (index_of v (number (pos i))))
        (λ w. let inner : Good k (bindings_with deeper p k e (value_in w)) = bindings_safe p k e (value_in w) l in
        good_bind k (LabelsBelow k) (bindings_with deeper p k e (value_in w)) (items_with deeper ps (suc i) k v) inner.0 inner.1 (λ e' l'. items_safe ps (suc i) k v e' l'))

    members_safe : (ps : Parts) (k : ℕ) (v : Value) (e : Env) → LabelsBelow k e → Good k (members_with deeper ps k v e)
    members_safe tree.no_parts k v e l = (tt, (l, tt))
    members_safe (tree.more_parts (tree.keyed key p) ps) k v e l =
        good_items k (meaning_with deeper key e k (plain v)) (on_part_key v (bindings_with deeper p k) e (members_with deeper ps k v)) (tree_safe key e k (plain v) l)
        (λ name. good_items k (part_at v (value_in name)) (on_part (bindings_with deeper p k) e (members_with deeper ps k v)) (answered-below k plain (index_of v (value_in name)))
        (λ w. let inner : Good k (bindings_with deeper p k e (value_in w)) = bindings_safe p k e (value_in w) l in
        good_bind k (LabelsBelow k) (bindings_with deeper p k e (value_in w)) (members_with deeper ps k v) inner.0 inner.1 (λ e' l'. members_safe ps k v e' l')))
    members_safe (tree.more_parts (tree.keyed_variable n p) ps) k v e l =
        good_items k (part_at v (string n)) (on_named_part n (bindings_with deeper p k) e (members_with deeper ps k v)) (answered-below k plain (index_of v (string n)))
        (λ w. let inner : Good k (bindings_with deeper p k (bound (value_of n (value_in w)) e) (value_in w)) = bindings_safe p k (bound (value_of n (value_in w)) e) (value_in w) l in
        good_bind k (LabelsBelow k) (bindings_with deeper p k (bound (value_of n (value_in w)) e) (value_in w)) (members_with deeper ps k v) inner.0 inner.1 (λ e' l'. members_safe ps k v e' l'))

below_safe : (depth : ℕ) → Safe (below depth)
below_safe zero = λ t e k x l. tt
below_safe (suc depth) = λ t e k x l. tree_safe (below depth) (below_safe depth) t e k x l

no_break : (e : Ending) → EndingBelow 0 e → IsNoBreak e
no_break Done h = tt
no_break (Raised v) h = tt
no_break (Broken level) h = absurd (omega arith)
no_break (Stopped stop) h = tt

below_none : (e : Ending) → IsNoBreak e → EndingBelow 0 e
below_none Done h = tt
below_none (Raised v) h = tt
below_none (Broken level) h = absurd h
below_none (Stopped stop) h = tt

pub run_of-no_break : (depth : ℕ) (variables : List (Name × Value)) (inputs : Run Value) (t : Tree) (v : Value) → IsNoBreak inputs.ending → IsNoBreak (run_of depth variables inputs t v).ending
run_of-no_break depth variables inputs t v h =
    no_break (run_of depth variables inputs t v).ending
    (tree_safe (below depth) (below_safe depth) t (with_variables variables (outermost inputs)) 0 (plain v)
    (with_variables-below 0 variables (outermost inputs) (below_none inputs.ending h)))
