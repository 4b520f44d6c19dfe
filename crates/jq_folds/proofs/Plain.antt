-- A filter that runs on a value, without a path, gives values without paths.
use Rattle.std.proofs.Common.{ℕ, ℤ, zero, suc, pos, List, [], ◌∷◌, ◌++◌, Bool, true, false}
use Rattle.std.specs.Prelude.{⊤, nat_le, Option, Some, None, Result, Ok, Err, if◌then◌else◌, map, zip, codes}
use Rattle.std.specs.List.{range_with_len}
use Rattle.std.specs.Ordering.{int_eq}
use Rattle.jv_arith.specs.Arith.{neg_of}
use Rattle.jv_data.specs.Members.{put}
use Rattle.jv_data.specs.Value.{Value, null, boolean, number, string, array, object, Members, no_members}
use Rattle.jv_value.specs.Index.{index_of, slice_key}
use Rattle.jv_value.specs.Parts.{parts_of}
use Rattle.jq_natives.specs.Answers.{Answer, is_true, part_keys}
use Rattle.jq_natives.specs.Natives.{answer_of_native}
use Rattle.jq_natives.specs.declared.native.Native.{Native}
use Rattle.jq_natives.specs.declared.native.Native.TheVariants.{GetPath}
use Rattle.jq_tree.specs.Tree.{Name, Tree, Trees, trees_count, Entries}
use Rattle.jq_tree.specs.Tree as tree
use Rattle.jq_meaning.specs.Builtins.{Builtin, no_outputs, paths, range, all_inputs, halts, native, unknown, halt_bytes, not_an_exit_code, halted_by, builtin_named, builtin_run, first_run, each_choice, range_of, numbers_between, plain_native, path_native, native_run, at_path, steps_between, step_from}
use Rattle.jq_meaning.specs.Env.{Env, bound, function, label_of, Callee, found_function, found_closure, no_callee, find_level, find_callee, find_in_prelude, find_inputs, with_arguments}
use Rattle.jq_meaning.specs.Folds.{last_or, next_state, reduced, each_of}
use Rattle.jq_meaning.specs.Continuations.{text_item, put_between, format_of, broken, with_key, part_at, on_target, on_key, on_end, on_start, on_left, on_right, truth, on_conjunct, on_disjunct, negated, on_test, on_error, on_entry, on_entry_key, on_own_key, on_source, in_bindings, on_state}
use Rattle.jq_meaning.specs.Meaning.{Means, meaning_with, below, meaning, called, arguments_with, pieces_with, entries_with, bindings_with}
use Rattle.jq_meaning.specs.Runs.{Item, plain, located, value_in, Run, Ending, Done, Raised, Broken, Stopped, halted, ended, none, one, fail, go_on, then_run, bind, bind_items, answered, array_of_items, catch, kept, silenced, alternative, path_array}
use Rattle.jq_meaning.specs.Steps.{step, step_answer, guarded_fail, all_parts, each_part, part_of, operator_of}
use Rattle.jq_folds.proofs.Moved.{Each}

abbrev pub IsPlain : Item → Type 0
IsPlain (plain v) = ⊤
IsPlain (located v p) = ⊥

abbrev pub AllPlain : Run Item → Type 0
AllPlain r = Each IsPlain r.items

each_always : {A : Type 0} (xs : List A) → Each (λ (x : A). ⊤) xs
each_always [] = tt
each_always (x ∷ xs) = (tt, each_always xs)

append-plain : (xs ys : List Item) → Each IsPlain xs → Each IsPlain ys → Each IsPlain (xs ++ ys)
append-plain [] ys h i = i
append-plain (x ∷ xs) ys h i = (h.0, append-plain xs ys h.1 i)

go_on-plain : (e : Ending) (r : Run Item) → AllPlain r → AllPlain (go_on e r)
go_on-plain Done r h = h
go_on-plain (Raised v) r h = tt
go_on-plain (Broken k) r h = tt
go_on-plain (Stopped stop) r h = tt

then-plain : (r q : Run Item) → AllPlain r → AllPlain q → AllPlain (then_run r q)
then-plain r q h i = append-plain r.items (go_on r.ending q).items h (go_on-plain r.ending q i)

bind-list : {A : Type 0} (P : A → Type 0) (xs : List A) (e : Ending) (g : A → Run Item) → Each P xs → ((x : A) → P x → AllPlain (g x)) → AllPlain (bind_items xs e g)
bind-list P [] e g h i = tt
bind-list P (x ∷ xs) e g h i = then-plain (g x) (bind_items xs e g) (i x h.0) (bind-list P xs e g h.1 i)

bind-all : {A : Type 0} (r : Run A) (g : A → Run Item) → ((x : A) → AllPlain (g x)) → AllPlain (bind r g)
bind-all {A = A} r g i = bind-list (λ (x : A). ⊤) r.items r.ending g (each_always r.items) (λ x h. i x)

on-plain : (g : Item → Run Item) → ((v : Value) → AllPlain (g (plain v))) → (x : Item) → IsPlain x → AllPlain (g x)
on-plain g i (plain v) h = i v
on-plain g i (located v p) h = absurd h

bind-plain : (r : Run Item) (g : Item → Run Item) → AllPlain r → ((v : Value) → AllPlain (g (plain v))) → AllPlain (bind r g)
bind-plain r g h i = bind-list IsPlain r.items r.ending g h (on-plain g i)

answered-plain : (f : Value → Item) (a : Answer) → ((v : Value) → IsPlain (f v)) → AllPlain (answered f a)
answered-plain f (Ok v) h = (h v, tt)
answered-plain f (Err e) h = tt

guarded-plain : (guarded : Bool) (e : Value) → AllPlain (guarded_fail guarded e)
guarded-plain true e = tt
guarded-plain false e = tt

answer-plain : (guarded : Bool) (v key : Value) (a : Answer) → AllPlain (step_answer guarded (plain v) key a)
answer-plain guarded v key (Ok w) = (tt, tt)
answer-plain guarded v key (Err e) = guarded-plain guarded e

step-plain : (guarded : Bool) (v key : Value) → AllPlain (step guarded (plain v) key)
step-plain guarded v key = answer-plain guarded v key (index_of v key)

parts-list : (v : Value) (ps : List (Value × Value)) → Each IsPlain (map (λ p. part_of (plain v) p.0 p.1) ps)
parts-list v [] = tt
parts-list v (p ∷ ps) = (tt, parts-list v ps)

parts-plain : (guarded : Bool) (v : Value) (a : Result (List Value) Value) → AllPlain (all_parts guarded (plain v) a)
parts-plain guarded v (Ok vs) = parts-list v (zip (part_keys v) vs)
parts-plain guarded v (Err e) = guarded-plain guarded e

catch-plain : (xs : List Item) (e : Ending) (h : Value → Run Item) → Each IsPlain xs → ((v : Value) → AllPlain (h v)) → AllPlain (catch (record { items = xs; ending = e }) h)
catch-plain xs Done h p i = p
catch-plain xs (Raised v) h p i = append-plain xs (h v).items p (i v)
catch-plain xs (Broken k) h p i = p
catch-plain xs (Stopped stop) h p i = p

choose-plain : (b : Bool) (x : Item) (xs : List Item) → IsPlain x → Each IsPlain xs → Each IsPlain (if b then x ∷ xs else xs)
choose-plain true x xs h i = (h, i)
choose-plain false x xs h i = i

kept-plain : (xs : List Item) → Each IsPlain xs → Each IsPlain (kept xs)
kept-plain [] h = tt
kept-plain (x ∷ xs) h = choose-plain (is_true (value_in x)) x (kept xs) h.0 (kept-plain xs h.1)

alternative-plain : (r : Run Item) (g : Item → Run Item) (x : Item) → AllPlain r → AllPlain (g x) → AllPlain (alternative r g x)
alternative-plain r g x h i = go (kept r.items) (kept-plain r.items h)
  where
    go : (ys : List Item) → Each IsPlain ys → AllPlain (let s : Run Item = elim ys [ [] ↦ go_on (silenced r.ending) (g x) | y ∷ zs ↦ record { items = y ∷ zs; ending = silenced r.ending } ] in s)
    go [] p = go_on-plain (silenced r.ending) (g x) i
    go (y ∷ zs) p = p

broken-plain : (o : Option ℕ) → AllPlain (broken o)
broken-plain None = tt
broken-plain (Some level) = tt

last-plain : (x : Item) (xs : List Item) → IsPlain x → Each IsPlain xs → IsPlain (last_or x xs)
last-plain x [] h i = h
last-plain x (y ∷ ys) h i = last-plain y ys i.0 i.1

next-plain : (s : Item) (u : Run Item) (go : Item → Run Item) → IsPlain s → AllPlain u → ((y : Item) → IsPlain y → AllPlain (go y)) → AllPlain (next_state s u go)
next-plain (plain v) u go h i j = go_on-plain u.ending (go (last_or (plain null) u.items)) (j (last_or (plain null) u.items) (last-plain (plain null) u.items tt i))
next-plain (located v p) u go h i j = absurd h

pub reduced-plain : {S : Type 0} (u : S → Item → Run Item) (bs : List S) (e : Ending) (s : Item) → IsPlain s → ((b : S) (v : Value) → AllPlain (u b (plain v))) → AllPlain (reduced u bs e s)
reduced-plain u [] e s h i = go_on-plain e (one s) (h, tt)
reduced-plain u (b ∷ bs) e s h i = next-plain s (u b s) (reduced u bs e) h (on-plain (u b) (i b) s h) (λ y p. reduced-plain u bs e y p i)

pub each-plain : {S : Type 0} (u x : S → Item → Run Item) (bs : List S) (e : Ending) (s : Item) → IsPlain s → ((b : S) (v : Value) → AllPlain (u b (plain v))) → ((b : S) (v : Value) → AllPlain (x b (plain v))) → AllPlain (each_of u x bs e s)
each-plain u x [] e s h i j = tt
each-plain u x (b ∷ bs) e s h i j =
    then-plain (bind (u b s) (x b)) (next_state s (u b s) (each_of u x bs e)) (bind-plain (u b s) (x b) (on-plain (u b) (i b) s h) (j b))
    (next-plain s (u b s) (each_of u x bs e) h (on-plain (u b) (i b) s h) (λ y p. each-plain u x bs e y p i j))

-- ---- calls of names of the language

choice-plain : (rs : List (Run Item)) (g : List Value → Run Item) → ((vs : List Value) → AllPlain (g vs)) → AllPlain (each_choice rs g)
choice-plain [] g h = h []
choice-plain (r ∷ rs) g h = bind-all r (λ v. each_choice rs (λ vs. g (value_in v ∷ vs))) (λ v. choice-plain rs (λ vs. g (value_in v ∷ vs)) (λ vs. h (value_in v ∷ vs)))

paths-list : (xs : List Item) → Each IsPlain (map path_array xs)
paths-list [] = tt
paths-list (x ∷ xs) = (tt, paths-list xs)

numbers-list : (start step : ℤ) (is : List ℕ) → Each IsPlain (map (step_from start step) is)
numbers-list start step [] = tt
numbers-list start step (i ∷ is) = (tt, numbers-list start step is)

if-plain : (b : Bool) (r q : Run Item) → AllPlain r → AllPlain q → AllPlain (if b then r else q)
if-plain true r q h i = h
if-plain false r q h i = i

numbers-plain : (start end step : ℤ) → AllPlain (numbers_between start end step)
numbers-plain start end step =
    if-plain (int_eq step (pos 0)) (fail (string (codes "Range step is 0"))) (record { items = map (step_from start step) (range_with_len 0 (steps_between start end step)); ending = Done }) tt
    (numbers-list start step (range_with_len 0 (steps_between start end step)))

range-plain : (vs : List Value) → AllPlain (range_of vs)
range-plain (number start ∷ number end ∷ []) = numbers-plain start end (pos 1)
range-plain (number start ∷ number end ∷ number step ∷ []) = numbers-plain start end step
range-plain vs = tt

halted-plain : (v : Value) (vs : List Value) → AllPlain (halted_by v vs)
halted-plain v [] = tt
halted-plain v (number (pos n) ∷ []) = if-plain (nat_le n 255) (ended (Stopped (halted n (halt_bytes v)))) not_an_exit_code tt tt
halted-plain v vs = tt

inputs-list : (vs : List Value) → Each IsPlain (map plain vs)
inputs-list [] = tt
inputs-list (v ∷ vs) = (tt, inputs-list vs)

native-plain : (f : Native) (rs : List (Run Item)) (v : Value) → AllPlain (native_run f rs (plain v))
native-plain GetPath rs v = choice-plain rs (path_native GetPath (plain v)) (λ vs. answered-plain (at_path (plain v) vs) (answer_of_native GetPath v vs) (λ w. tt))
native-plain f rs v = choice-plain rs (plain_native f v) (λ vs. answered-plain plain (answer_of_native f v vs) (λ w. tt))

builtin-plain : (b : Builtin) (arguments : Item → List (Run Item)) (inputs : Run Value) (v : Value) → AllPlain (builtin_run b arguments inputs (plain v))
builtin-plain no_outputs arguments inputs v = tt
builtin-plain paths arguments inputs v = paths-list (first_run (arguments (located v []))).items
builtin-plain range arguments inputs v = choice-plain (arguments (plain v)) range_of range-plain
builtin-plain all_inputs arguments inputs v = inputs-list inputs.items
builtin-plain halts arguments inputs v = choice-plain (arguments (plain v)) (halted_by v) (halted-plain v)
builtin-plain (native f) arguments inputs v = native-plain f (arguments (plain v)) v
builtin-plain unknown arguments inputs v = tt

-- ---- trees

abbrev pub GivesPlain : Means → Type 0
GivesPlain m = (t : Tree) (e : Env) (k : ℕ) (v : Value) → AllPlain (m t e k (plain v))

module _ (deeper : Means) (under : GivesPlain deeper) where
  called-plain : (c : Callee) (ts : Trees) (caller : Env) (k : ℕ) (v : Value) (o : Run Item) → AllPlain o → AllPlain (called deeper c ts caller k (plain v) o)
  called-plain (found_function ps body own) ts caller k v o h = under body (with_arguments ps ts caller own) k v
  called-plain (found_closure body own) ts caller k v o h = under body own k v
  called-plain no_callee ts caller k v o h = h

  with_key-plain : (values : Run Item) (later : Members → Run Item) (made : Members) (key : Value) → ((ms : Members) → AllPlain (later ms)) → AllPlain (with_key values later made key)
  unfolding on_entry
  with_key-plain values later made null i = tt
  with_key-plain values later made (boolean b) i = tt
  with_key-plain values later made (number n) i = tt
  with_key-plain values later made (string s) i = bind-all values (on_entry later made s) (λ v. i (put s (value_in v) made))
  with_key-plain values later made (array vs) i = tt
  with_key-plain values later made (object ms) i = tt

  truth-plain : (right : Item → Run Item) (v : Value) (left : Item) → AllPlain (on_conjunct right (plain v) left)
  unfolding on_conjunct truth
  truth-plain right v left = go (is_true (value_in left))
    where
      go : (b : Bool) → AllPlain (let s : Run Item = elim b [ true ↦ bind (right (plain v)) truth | false ↦ one (plain (boolean false)) ] in s)
      go true = bind-all (right (plain v)) truth (λ w. (tt, tt))
      go false = (tt, tt)

  either-plain : (right : Item → Run Item) (v : Value) (left : Item) → AllPlain (on_disjunct right (plain v) left)
  unfolding on_disjunct truth
  either-plain right v left = go (is_true (value_in left))
    where
      go : (b : Bool) → AllPlain (let s : Run Item = elim b [ true ↦ one (plain (boolean true)) | false ↦ bind (right (plain v)) truth ] in s)
      go true = (tt, tt)
      go false = bind-all (right (plain v)) truth (λ w. (tt, tt))

  test-plain : (holds fails : Item → Run Item) (x test : Item) → AllPlain (holds x) → AllPlain (fails x) → AllPlain (on_test holds fails x test)
  unfolding on_test
  test-plain holds fails x test h i = go (is_true (value_in test))
    where
      go : (b : Bool) → AllPlain (let s : Run Item = elim b [ true ↦ holds x | false ↦ fails x ] in s)
      go true = h
      go false = i

  mutual
    unfolding on_target on_key on_end on_start on_left on_right negated on_error in_bindings on_state on_entry on_entry_key on_own_key

    tree_plain : (t : Tree) (e : Env) (k : ℕ) (v : Value) → AllPlain (meaning_with deeper t e k (plain v))
    tree_plain tree.identity e k v = (tt, tt)
    tree_plain tree.empty e k v = tt
    tree_plain (tree.literal l) e k v = (tt, tt)
    tree_plain (tree.text format ps) e k v = bind-all (pieces_with deeper ps format e k (plain v)) text_item (λ s. (tt, tt))
    tree_plain (tree.format n) e k v = bind-all (put_between [] [] (format_of n v)) text_item (λ s. (tt, tt))
    tree_plain (tree.variable n) e k v = (tt, tt)
    tree_plain (tree.field t key guarded) e k v = bind-plain (meaning_with deeper t e k (plain v)) (on_target guarded (string key)) (tree_plain t e k v) (λ w. step-plain guarded w (string key))
    tree_plain (tree.index t key guarded) e k v =
        bind-all (meaning_with deeper key e k (plain v)) (on_key guarded (meaning_with deeper t e k (plain v)))
        (λ i. bind-plain (meaning_with deeper t e k (plain v)) (on_target guarded (value_in i)) (tree_plain t e k v) (λ w. step-plain guarded w (value_in i)))
    tree_plain (tree.slice t from to guarded) e k v =
        bind-all (meaning_with deeper from e k (plain v)) (on_start guarded (meaning_with deeper to e k (plain v)) (meaning_with deeper t e k (plain v)))
        (λ a. bind-all (meaning_with deeper to e k (plain v)) (on_end guarded (meaning_with deeper t e k (plain v)) (value_in a))
        (λ b. bind-plain (meaning_with deeper t e k (plain v)) (on_target guarded (slice_key (value_in a) (value_in b))) (tree_plain t e k v) (λ w. step-plain guarded w (slice_key (value_in a) (value_in b)))))
    tree_plain (tree.iterate t guarded) e k v = bind-plain (meaning_with deeper t e k (plain v)) (each_part guarded) (tree_plain t e k v) (λ w. parts-plain guarded w (parts_of w))
    tree_plain (tree.pipe f g) e k v = bind-plain (meaning_with deeper f e k (plain v)) (meaning_with deeper g e k) (tree_plain f e k v) (λ w. tree_plain g e k w)
    tree_plain (tree.comma f g) e k v = then-plain (meaning_with deeper f e k (plain v)) (meaning_with deeper g e k (plain v)) (tree_plain f e k v) (tree_plain g e k v)
    tree_plain (tree.binary op f g) e k v =
        bind-all (meaning_with deeper g e k (plain v)) (on_right op (meaning_with deeper f e k (plain v)))
        (λ b. bind-all (meaning_with deeper f e k (plain v)) (on_left op (value_in b)) (λ a. answered-plain plain (operator_of op (value_in a) (value_in b)) (λ w. tt)))
    tree_plain (tree.conjunction f g) e k v = bind-all (meaning_with deeper f e k (plain v)) (on_conjunct (meaning_with deeper g e k) (plain v)) (truth-plain (meaning_with deeper g e k) v)
    tree_plain (tree.disjunction f g) e k v = bind-all (meaning_with deeper f e k (plain v)) (on_disjunct (meaning_with deeper g e k) (plain v)) (either-plain (meaning_with deeper g e k) v)
    tree_plain (tree.alternative f g) e k v = alternative-plain (meaning_with deeper f e k (plain v)) (meaning_with deeper g e k) (plain v) (tree_plain f e k v) (tree_plain g e k v)
    tree_plain (tree.negation f) e k v = bind-all (meaning_with deeper f e k (plain v)) negated (λ w. answered-plain plain (neg_of (value_in w)) (λ u. tt))
    tree_plain (tree.array f) e k v = let r = meaning_with deeper f e k (plain v) in go_on-plain r.ending (one (plain (array_of_items r.items))) (tt, tt)
    tree_plain (tree.object es) e k v = entries_plain es e k v no_members
    tree_plain (tree.choice c f g) e k v =
        bind-all (meaning_with deeper c e k (plain v)) (on_test (meaning_with deeper f e k) (meaning_with deeper g e k) (plain v))
        (λ b. test-plain (meaning_with deeper f e k) (meaning_with deeper g e k) (plain v) b (tree_plain f e k v) (tree_plain g e k v))
    tree_plain (tree.try_catch f g) e k v =
        let r = meaning_with deeper f e k (plain v) in catch-plain r.items r.ending (on_error (meaning_with deeper g e k) (plain v)) (tree_plain f e k v) (λ w. tree_plain g e k w)
    tree_plain (tree.label n f) e k v = tree_plain f (bound (label_of n k) e) (suc k) v
    tree_plain (tree.break n) e k v = broken-plain (find_level n e)
    tree_plain (tree.bind_as t p f) e k v =
        bind-all (bind (meaning_with deeper t e k (plain v)) (on_source (bindings_with deeper p k) e)) (in_bindings (meaning_with deeper f) k (plain v)) (λ d. tree_plain f d k v)
    tree_plain (tree.reduce t p start update) e k v =
        let sources : Run Env = bind (meaning_with deeper t e k (plain v)) (on_source (bindings_with deeper p k) e) in
        let u = on_state (meaning_with deeper update) k in
        bind-plain (meaning_with deeper start e k (plain v)) (reduced u sources.items sources.ending) (tree_plain start e k v)
        (λ w. reduced-plain u sources.items sources.ending (plain w) tt (λ d y. tree_plain update d k y))
    tree_plain (tree.foreach t p start update extract) e k v =
        let sources : Run Env = bind (meaning_with deeper t e k (plain v)) (on_source (bindings_with deeper p k) e) in
        let u = on_state (meaning_with deeper update) k in
        let x = on_state (meaning_with deeper extract) k in
        bind-plain (meaning_with deeper start e k (plain v)) (each_of u x sources.items sources.ending) (tree_plain start e k v)
        (λ w. each-plain u x sources.items sources.ending (plain w) tt (λ d y. tree_plain update d k y) (λ d y. tree_plain extract d k y))
    tree_plain (tree.define n parameters body rest) e k v = tree_plain rest (bound (function n parameters body) e) k v
    tree_plain (tree.call n ts) e k v =
        let o = builtin_run (builtin_named n (trees_count ts)) (arguments_with deeper ts e k) (find_inputs e) (plain v) in
        called-plain (find_callee n (trees_count ts) e) ts e k v o (builtin-plain (builtin_named n (trees_count ts)) (arguments_with deeper ts e k) (find_inputs e) v)
    tree_plain (tree.prelude_call n ts) e k v = called-plain (find_in_prelude n (trees_count ts) e) ts e k v none tt

    entries_plain : (es : Entries) (e : Env) (k : ℕ) (v : Value) (made : Members) → AllPlain (entries_with deeper es e k v made)
    entries_plain tree.no_entries e k v made = (tt, tt)
    entries_plain (tree.more_entries (tree.named key f) es) e k v made =
        bind-all (meaning_with deeper f e k (plain v)) (on_entry (entries_with deeper es e k v) made key) (λ w. entries_plain es e k v (put key (value_in w) made))
    entries_plain (tree.more_entries (tree.computed key f) es) e k v made =
        bind-all (meaning_with deeper key e k (plain v)) (on_entry_key (meaning_with deeper f e k (plain v)) (entries_with deeper es e k v) made)
        (λ name. with_key-plain (meaning_with deeper f e k (plain v)) (entries_with deeper es e k v) made (value_in name) (λ ms. entries_plain es e k v ms))
    entries_plain (tree.more_entries (tree.own key) es) e k v made =
        bind-all (meaning_with deeper key e k (plain v)) (on_own_key v (entries_with deeper es e k v) made)
        (λ name. with_key-plain (part_at v (value_in name)) (entries_with deeper es e k v) made (value_in name) (λ ms. entries_plain es e k v ms))

below_plain : (depth : ℕ) → GivesPlain (below depth)
below_plain zero = λ t e k v. tt
below_plain (suc depth) = λ t e k v. tree_plain (below depth) (below_plain depth) t e k v

pub meaning_plain : (depth : ℕ) → GivesPlain (meaning depth)
meaning_plain depth t e k v = tree_plain (below depth) (below_plain depth) t e k v
