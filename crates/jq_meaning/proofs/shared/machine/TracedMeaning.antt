-- The meaning of each filter, with the trace of a machine that runs it.
use Rattle.std.proofs.Common.{ℕ, zero, suc, List, [], ◌∷◌, Bool, true, false, Option, Some, None}
use Rattle.std.specs.Prelude.{pos}
use Rattle.jv_data.specs.Value.{Value, number, string, object, Members, no_members}
use Rattle.jv_value.specs.Index.{slice_key}
use Rattle.jq_natives.specs.Answers.{is_true}
use Rattle.jq_natives.specs.declared.native.Native.{Native}
use Rattle.jq_natives.specs.declared.native.Native.TheVariants.{GetPath}
use Rattle.jq_tree.specs.Tree.{Name, Operator, Tree, Trees, no_trees, more_trees, trees_count, Pieces, Entries, Pattern, Patterns, Parts}
use Rattle.jq_tree.specs.Tree as tree
use Rattle.jq_meaning.specs.Runs.{Item, plain, located, value_in, as_value, Done, Stopped, deep, Run, bind}
use Rattle.jq_meaning.specs.Env.{Env, bound, value_of, function, label_of, Callee, found_function, found_closure, no_callee, find_value, find_level, find_callee, find_in_prelude, find_inputs, with_arguments}
use Rattle.jq_meaning.specs.Steps.{each_part}
use Rattle.jq_meaning.specs.Builtins.{Builtin, no_outputs, paths, range, all_inputs, halts, native, unknown, builtin_named, builtin_run, each_choice, first_run, plain_native, path_native, native_run, range_of, halted_by, plain_items}
use Rattle.jq_meaning.specs.Continuations.{value_of_literal, on_target, on_key, on_end, on_start, on_left, on_right, truth, on_conjunct, on_disjunct, negated, on_test, on_error, broken, text_item, put_between, format_of, on_inserted, on_back, on_entry, with_key, on_entry_key, part_at, on_own_key, on_part, on_part_key, on_named_part, on_source, in_bindings, on_state}
use Rattle.jq_meaning.specs.Meaning.{Means, called, meaning_with, arguments_with, pieces_with, entries_with, bindings_with, items_with, members_with, below, meaning}
use Rattle.jq_meaning.proofs.shared.machine.Traced.{Traced, t_ended, t_one, t_tick, t_then, t_bind, t_spread, t_catch, t_labelled, t_alternative, t_gathered, t_each, t_reduced, t_without_path, t_paths_in, t_bound}

abbrev pub t_if : {A : Type 0} {r s : Run A} (t : Bool) → Traced r → Traced s → Traced (elim t [ true ↦ r | false ↦ s ])
t_if true a b = a
t_if false a b = b

-- ---- the continuations, form by form

unfoldable pub t_on_key : {targets : Run Item} (guarded : Bool) (key : Item) → Traced targets → Traced (on_key guarded targets key)
unfolding on_key
t_on_key guarded key t = t_bind t (λ y. t_spread (on_target guarded (value_in key) y))

unfoldable pub t_on_end : {targets : Run Item} (guarded : Bool) (start : Value) (end : Item) → Traced targets → Traced (on_end guarded targets start end)
unfolding on_end
t_on_end guarded start end t = t_bind t (λ y. t_spread (on_target guarded (slice_key start (value_in end)) y))

unfoldable pub t_on_start : {ends targets : Run Item} (guarded : Bool) (start : Item) → Traced ends → Traced targets → Traced (on_start guarded ends targets start)
unfolding on_start
t_on_start guarded start ends t = t_bind ends (λ y. t_on_end guarded (value_in start) y t)

unfoldable pub t_on_right : {lefts : Run Item} (op : Operator) (right : Item) → Traced lefts → Traced (on_right op lefts right)
unfolding on_right
t_on_right op right t = t_bind t (λ y. t_spread (on_left op (value_in right) y))

unfoldable pub t_on_conjunct : (right : Item → Run Item) (x left : Item) → Traced (right x) → Traced (on_conjunct right x left)
unfolding on_conjunct
t_on_conjunct right x left t = t_if (is_true (value_in left)) (t_bind t (λ y. t_spread (truth y))) (t_one _)

unfoldable pub t_on_disjunct : (right : Item → Run Item) (x left : Item) → Traced (right x) → Traced (on_disjunct right x left)
unfolding on_disjunct
t_on_disjunct right x left t = t_if (is_true (value_in left)) (t_one _) (t_bind t (λ y. t_spread (truth y)))

unfoldable pub t_on_test : (holds fails : Item → Run Item) (x test : Item) → Traced (holds x) → Traced (fails x) → Traced (on_test holds fails x test)
unfolding on_test
t_on_test holds fails x test t u = t_if (is_true (value_in test)) t u

unfoldable pub t_on_error : (handler : Item → Run Item) (x : Item) (v : Value) → Traced (handler (plain v)) → Traced (on_error handler x v)
unfolding on_error
t_on_error handler x v t = t_without_path x t

unfoldable pub t_on_back : {inserted : Run Item} (format : Name) (front back : List ℕ) → Traced inserted → Traced (on_back format front inserted back)
unfolding on_back
t_on_back format front back t = t_bind t (λ y. t_spread (on_inserted format front back y))

unfoldable pub t_on_entry : {later : Members → Run Item} (made : Members) (key : List ℕ) (v : Item) → ((m : Members) → Traced (later m)) → Traced (on_entry later made key v)
unfolding on_entry
t_on_entry made key v t = t _

abbrev pub t_with_key : {values : Run Item} {later : Members → Run Item} (made : Members) (key : Value) → Traced values → ((m : Members) → Traced (later m)) → Traced (with_key values later made key)
t_with_key made (string key) t u = t_bind t (λ y. t_on_entry made key y u)
t_with_key made v t u = t_ended _

unfoldable pub t_on_entry_key : {values : Run Item} {later : Members → Run Item} (made : Members) (key : Item) → Traced values → ((m : Members) → Traced (later m)) → Traced (on_entry_key values later made key)
unfolding on_entry_key
t_on_entry_key made key t u = t_with_key made (value_in key) t u

unfoldable pub t_on_own_key : {later : Members → Run Item} (v : Value) (made : Members) (key : Item) → ((m : Members) → Traced (later m)) → Traced (on_own_key v later made key)
unfolding on_own_key
t_on_own_key v made key u = t_with_key made (value_in key) (t_spread (part_at v (value_in key))) u

unfoldable pub t_on_part : {pattern : Env → Value → Run Env} {later : Env → Run Env} (e : Env) (part : Item) → ((d : Env) (v : Value) → Traced (pattern d v)) → ((d : Env) → Traced (later d)) → Traced (on_part pattern e later part)
unfolding on_part
t_on_part e part t u = t_bind (t e (value_in part)) u

unfoldable pub t_on_part_key : {pattern : Env → Value → Run Env} {later : Env → Run Env} (v : Value) (e : Env) (key : Item) → ((d : Env) (w : Value) → Traced (pattern d w)) → ((d : Env) → Traced (later d)) → Traced (on_part_key v pattern e later key)
unfolding on_part_key
t_on_part_key v e key t u = t_bind (t_spread (part_at v (value_in key))) (λ y. t_on_part e y t u)

unfoldable pub t_on_named_part : {pattern : Env → Value → Run Env} {later : Env → Run Env} (n : Name) (e : Env) (part : Item) → ((d : Env) (w : Value) → Traced (pattern d w)) → ((d : Env) → Traced (later d)) → Traced (on_named_part n pattern e later part)
unfolding on_named_part
t_on_named_part n e part t u = t_bind (t _ (value_in part)) u

unfoldable pub t_on_source : {pattern : Env → Value → Run Env} (e : Env) (v : Item) → ((d : Env) (w : Value) → Traced (pattern d w)) → Traced (on_source pattern e v)
unfolding on_source
t_on_source e v t = t e (value_in v)

unfoldable pub t_in_bindings : (body : Env → ℕ → Item → Run Item) (k : ℕ) (x : Item) (e : Env) → Traced (body e k x) → Traced (in_bindings body k x e)
unfolding in_bindings
t_in_bindings body k x e t = t

unfoldable pub t_on_state : (body : Env → ℕ → Item → Run Item) (k : ℕ) (e : Env) (state : Item) → Traced (body e k state) → Traced (on_state body k e state)
unfolding on_state
t_on_state body k e state t = t

-- ---- calls

abbrev pub AllTraced : List (Run Item) → Type 0
AllTraced [] = Unit {0}
AllTraced (r ∷ rs) = Traced r × AllTraced rs

abbrev pub t_each_choice : {A : Type 0} (rs : List (Run Item)) {g : List Value → Run A} → AllTraced rs → ((vs : List Value) → Traced (g vs)) → Traced (each_choice rs g)
t_each_choice [] ts u = u []
t_each_choice (r ∷ rs) ts u = t_bind ts.0 (λ v. t_each_choice rs ts.1 (λ vs. u (value_in v ∷ vs)))

abbrev pub t_first_run : (rs : List (Run Item)) → AllTraced rs → Traced (first_run rs)
t_first_run [] ts = t_ended Done
t_first_run (r ∷ rs) ts = ts.0

abbrev pub t_native_run : (f : Native) (rs : List (Run Item)) (x : Item) → AllTraced rs → Traced (native_run f rs x)
t_native_run GetPath rs x ts = t_each_choice rs ts (λ vs. t_spread (path_native GetPath x vs))
t_native_run f rs x ts = t_without_path x (t_each_choice rs ts (λ vs. t_spread (plain_native f (value_in x) vs)))

abbrev pub t_builtin : (b : Builtin) (arguments : Item → List (Run Item)) (inputs : Run Value) (x : Item) → ((y : Item) → AllTraced (arguments y)) → Traced (builtin_run b arguments inputs x)
t_builtin no_outputs arguments inputs x ts = t_ended Done
t_builtin paths arguments inputs x ts = t_without_path x (t_paths_in (t_first_run (arguments (located (value_in x) [])) (ts (located (value_in x) []))))
t_builtin range arguments inputs x ts = t_without_path x (t_each_choice (arguments (plain (value_in x))) (ts (plain (value_in x))) (λ vs. t_spread (range_of vs)))
t_builtin all_inputs arguments inputs x ts = t_without_path x (t_spread (plain_items inputs))
t_builtin halts arguments inputs x ts = t_each_choice (arguments (plain (value_in x))) (ts (plain (value_in x))) (λ vs. t_spread (halted_by (value_in x) vs))
t_builtin (native f) arguments inputs x ts = t_native_run f (arguments (plain (value_in x))) x (ts (plain (value_in x)))
t_builtin unknown arguments inputs x ts = t_ended Done

abbrev pub TracedMeans : Means → Type 0
TracedMeans m = (t : Tree) (e : Env) (k : ℕ) (x : Item) → Traced (m t e k x)

abbrev pub t_called : (deeper : Means) → TracedMeans deeper → (c : Callee) (ts : Trees) (caller : Env) (k : ℕ) (x : Item) {otherwise : Run Item} → Traced otherwise → Traced (called deeper c ts caller k x otherwise)
t_called deeper under (found_function parameters body own) ts caller k x t = under body (with_arguments parameters ts caller own) k x
t_called deeper under (found_closure body own) ts caller k x t = under body own k x
t_called deeper under no_callee ts caller k x t = t

abbrev pub t_broken : (o : Option ℕ) → Traced (broken o)
t_broken (Some level) = t_ended _
t_broken None = t_ended Done

-- ---- the meaning

module _ (deeper : Means) (under : TracedMeans deeper) where
  abbrev mutual
    pub traced_with : (t : Tree) (e : Env) (k : ℕ) (x : Item) → Traced (meaning_with deeper t e k x)
    traced_with tree.identity e k x = t_tick (t_one x)
    traced_with tree.empty e k x = t_tick (t_ended Done)
    traced_with (tree.literal l) e k x = t_tick (t_without_path x (t_one (plain (value_of_literal l))))
    traced_with (tree.text format ps) e k x = t_tick (t_without_path x (t_bind (traced_pieces ps format e k (as_value x)) (λ s. t_one (plain (string s)))))
    traced_with (tree.format n) e k x = t_tick (t_without_path x (t_spread (bind (put_between [] [] (format_of n (value_in x))) text_item)))
    traced_with (tree.variable n) e k x = t_tick (t_without_path x (t_one (plain (find_value n e))))
    traced_with (tree.field t key guarded) e k x = t_tick (t_bind (traced_with t e k x) (λ y. t_spread (on_target guarded (string key) y)))
    traced_with (tree.index t key guarded) e k x = t_tick (t_bind (traced_with key e k (as_value x)) (λ y. t_on_key guarded y (traced_with t e k x)))
    traced_with (tree.slice t from to guarded) e k x =
        t_tick (t_bind (traced_with from e k (as_value x)) (λ y. t_on_start guarded y (traced_with to e k (as_value x)) (traced_with t e k x)))
    traced_with (tree.iterate t guarded) e k x = t_tick (t_bind (traced_with t e k x) (λ y. t_spread (each_part guarded y)))
    traced_with (tree.pipe f g) e k x = t_tick (t_bind (traced_with f e k x) (λ y. traced_with g e k y))
    traced_with (tree.comma f g) e k x = t_tick (t_then (traced_with f e k x) (traced_with g e k x))
    traced_with (tree.binary op f g) e k x = t_tick (t_without_path x (t_bind (traced_with g e k (as_value x)) (λ y. t_on_right op y (traced_with f e k (as_value x)))))
    traced_with (tree.conjunction f g) e k x = t_tick (t_without_path x (t_bind (traced_with f e k (as_value x)) (λ y. t_on_conjunct (meaning_with deeper g e k) (as_value x) y (traced_with g e k (as_value x)))))
    traced_with (tree.disjunction f g) e k x = t_tick (t_without_path x (t_bind (traced_with f e k (as_value x)) (λ y. t_on_disjunct (meaning_with deeper g e k) (as_value x) y (traced_with g e k (as_value x)))))
    traced_with (tree.alternative f g) e k x = t_tick (t_alternative (meaning_with deeper g e k) x (traced_with f e k x) (traced_with g e k x))
    traced_with (tree.negation f) e k x = t_tick (t_without_path x (t_bind (traced_with f e k (as_value x)) (λ y. t_spread (negated y))))
    traced_with (tree.array f) e k x = t_tick (t_without_path x (t_gathered (traced_with f e k (as_value x))))
    traced_with (tree.object es) e k x = t_tick (t_without_path x (traced_entries es e k (value_in x) no_members))
    traced_with (tree.choice c f g) e k x = t_tick (t_bind (traced_with c e k (as_value x)) (λ y. t_on_test (meaning_with deeper f e k) (meaning_with deeper g e k) x y (traced_with f e k x) (traced_with g e k x)))
    traced_with (tree.try_catch f g) e k x = t_tick (t_catch (traced_with f e k x) (λ v. t_on_error (meaning_with deeper g e k) x v (traced_with g e k (plain v))))
    traced_with (tree.label n f) e k x = t_tick (t_labelled k (traced_with f (bound (label_of n k) e) (suc k) x))
    traced_with (tree.break n) e k x = t_tick (t_broken (find_level n e))
    traced_with (tree.bind_as t p f) e k x =
        t_tick (t_bind (t_bind (traced_with t e k (as_value x)) (λ v. t_on_source e v (λ d w. t_bound (traced_bindings p k d w)))) (λ d. t_in_bindings (meaning_with deeper f) k x d (traced_with f d k x)))
    traced_with (tree.reduce t p start update) e k x =
        t_tick (t_bind (traced_with start e k x)
        (λ y. t_reduced (t_bind (traced_with t e k (as_value x)) (λ v. t_on_source e v (λ d w. t_bound (traced_bindings p k d w)))) (λ d z. t_on_state (meaning_with deeper update) k d z (traced_with update d k z)) y))
    traced_with (tree.foreach t p start update extract) e k x =
        t_tick (t_bind (traced_with start e k x)
        (λ y. t_each (t_bind (traced_with t e k (as_value x)) (λ v. t_on_source e v (λ d w. t_bound (traced_bindings p k d w)))) (λ d z. t_on_state (meaning_with deeper update) k d z (traced_with update d k z)) (λ d z. t_on_state (meaning_with deeper extract) k d z (traced_with extract d k z)) y))
    traced_with (tree.define n parameters body rest) e k x = t_tick (traced_with rest (bound (function n parameters body) e) k x)
    traced_with (tree.call n ts) e k x =
        t_tick (t_called deeper under (find_callee n (trees_count ts) e) ts e k x (t_builtin (builtin_named n (trees_count ts)) (arguments_with deeper ts e k) (find_inputs e) x (λ y. traced_arguments ts e k y)))
    traced_with (tree.prelude_call n ts) e k x = t_tick (t_called deeper under (find_in_prelude n (trees_count ts) e) ts e k x (t_ended Done))

    pub traced_arguments : (ts : Trees) (e : Env) (k : ℕ) (x : Item) → AllTraced (arguments_with deeper ts e k x)
    traced_arguments no_trees e k x = tt
    traced_arguments (more_trees t ts) e k x = (traced_with t e k x, traced_arguments ts e k x)

    pub traced_pieces : (ps : Pieces) (format : Name) (e : Env) (k : ℕ) (x : Item) → Traced (pieces_with deeper ps format e k x)
    traced_pieces (tree.last_piece s) format e k x = t_one s
    traced_pieces (tree.more_pieces s f ps) format e k x = t_bind (traced_pieces ps format e k x) (λ back. t_on_back format s back (traced_with f e k x))

    pub traced_entries : (es : Entries) (e : Env) (k : ℕ) (v : Value) (made : Members) → Traced (entries_with deeper es e k v made)
    traced_entries tree.no_entries e k v made = t_one (plain (object made))
    traced_entries (tree.more_entries (tree.named key f) es) e k v made = t_bind (traced_with f e k (plain v)) (λ y. t_on_entry made key y (λ m. traced_entries es e k v m))
    traced_entries (tree.more_entries (tree.computed key f) es) e k v made =
        t_bind (traced_with key e k (plain v)) (λ y. t_on_entry_key made y (traced_with f e k (plain v)) (λ m. traced_entries es e k v m))
    traced_entries (tree.more_entries (tree.own key) es) e k v made = t_bind (traced_with key e k (plain v)) (λ y. t_on_own_key v made y (λ m. traced_entries es e k v m))

    pub traced_bindings : (p : Pattern) (k : ℕ) (e : Env) (v : Value) → Traced (bindings_with deeper p k e v)
    traced_bindings (tree.whole n) k e v = t_one (bound (value_of n v) e)
    traced_bindings (tree.items ps) k e v = t_tick (traced_items ps 0 k v e)
    traced_bindings (tree.members ps) k e v = t_tick (traced_members ps k v e)

    pub traced_items : (ps : Patterns) (i k : ℕ) (v : Value) (e : Env) → Traced (items_with deeper ps i k v e)
    traced_items tree.no_patterns i k v e = t_one e
    traced_items (tree.more_patterns p ps) i k v e = t_tick (t_bind (t_spread (part_at v (number (pos i)))) (λ y. t_on_part e y (λ d w. traced_bindings p k d w) (λ d. traced_items ps (suc i) k v d)))

    pub traced_members : (ps : Parts) (k : ℕ) (v : Value) (e : Env) → Traced (members_with deeper ps k v e)
    traced_members tree.no_parts k v e = t_one e
    traced_members (tree.more_parts (tree.keyed key p) ps) k v e =
        t_tick (t_bind (traced_with key e k (plain v)) (λ y. t_on_part_key v e y (λ d w. traced_bindings p k d w) (λ d. traced_members ps k v d)))
    traced_members (tree.more_parts (tree.keyed_variable n p) ps) k v e =
        t_tick (t_bind (t_spread (part_at v (string n))) (λ y. t_on_named_part n e y (λ d w. traced_bindings p k d w) (λ d. traced_members ps k v d)))

abbrev pub traced_below : (d : ℕ) → TracedMeans (below d)
traced_below zero t e k x = t_ended (Stopped deep)
traced_below (suc d) t e k x = t_tick (traced_with (below d) (traced_below d) t e k x)

-- the meaning of a filter has a trace
abbrev pub traced : (d : ℕ) → TracedMeans (meaning d)
traced d t e k x = traced_with (below d) (traced_below d) t e k x
