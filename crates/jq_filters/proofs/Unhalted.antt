-- Operators on runs that do not halt.
use Rattle.std.proofs.Common.{◌≡◌, ℕ, ℤ, List, [], ◌∷◌, ◌++◌, Bool, true, false, pos, refl}
use Rattle.std.specs.Prelude.{⊤, Option, Some, None, Result, Ok, Err, if◌then◌else◌, nat_eq, map, codes}
use Rattle.std.specs.List.{range_with_len}
use Rattle.std.specs.Ordering.{int_eq}
use Rattle.jv_data.specs.Value.{Value, null, boolean, number, string, array, object, Members}
use Rattle.jv_data.specs.Members.{put}
use Rattle.jv_text.specs.Formats.{Text}
use Rattle.jv_value.specs.Index.{index_of}
use Rattle.jq_natives.specs.Answers.{Answer, is_true}
use Rattle.jq_natives.specs.Natives.{answer_of_native}
use Rattle.jq_natives.specs.declared.native.Native.{Native}
use Rattle.jq_natives.specs.declared.native.Native.TheVariants.{GetPath}
use Rattle.jq_meaning.specs.Runs.{Item, plain, located, value_in, Run, Ending, Done, Raised, Broken, Stopped, one, fail, go_on, then_run, bind_items, bind, answered, no_item, without_path, path_error, gathered, array_of_items, catch, kept, silenced, alternative, stopped, labelled, paths_in}
use Rattle.jq_meaning.specs.Builtins.{Builtin, no_outputs, paths, range, all_inputs, halts, native, unknown, builtin_run, plain_items, first_run, each_choice, range_of, numbers_between, plain_native, path_native, native_run, at_path, steps_between, step_from}
use Rattle.jq_meaning.specs.Continuations.{put_between, broken, with_key, on_conjunct, on_disjunct, on_test, on_entry, truth}
use Rattle.jq_meaning.specs.Folds.{last_or, next_state, reduced, each_of}
use Rattle.jq_meaning.specs.Steps.{step, step_answer, guarded_fail, all_parts}
use Rattle.jq_filters.specs.Outcomes.{halt_status}

-- the run does not halt
abbrev pub Unhalted : {A : Type 0} → Run A → Type 0
Unhalted r = halt_status r.ending ≡ None

abbrev pub Each : {A : Type 0} → (A → Type 0) → List A → Type 0
Each P [] = ⊤
Each P (x ∷ xs) = P x × Each P xs

pub each_trivial : {A : Type 0} (xs : List A) → Each (λ x. ⊤) xs
each_trivial [] = tt
each_trivial (x ∷ xs) = (tt, each_trivial xs)

pub each_append : {A : Type 0} (P : A → Type 0) (xs ys : List A) → Each P xs → Each P ys → Each P (xs ++ ys)
each_append P [] ys h i = i
each_append P (x ∷ xs) ys h i = (h.0, each_append P xs ys h.1 i)

pub each_go_on : {A : Type 0} (P : A → Type 0) (e : Ending) (r : Run A) → Each P r.items → Each P (go_on e r).items
each_go_on P Done r h = h
each_go_on P (Raised v) r h = tt
each_go_on P (Broken level) r h = tt
each_go_on P (Stopped stop) r h = tt

pub each_bind : {A B : Type 0} (P : A → Type 0) (Q : B → Type 0) (xs : List A) (e : Ending) (g : A → Run B) → Each P xs → ((x : A) → P x → Each Q (g x).items) → Each Q (bind_items xs e g).items
each_bind P Q [] e g h i = tt
each_bind P Q (x ∷ xs) e g h i =
    each_append Q (g x).items (go_on (g x).ending (bind_items xs e g)).items (i x h.0)
    (each_go_on Q (g x).ending (bind_items xs e g) (each_bind P Q xs e g h.1 i))

-- ---- sequences

pub go_on-unhalted : {A : Type 0} (e : Ending) (r : Run A) → halt_status e ≡ None → Unhalted r → Unhalted (go_on e r)
go_on-unhalted Done r h i = i
go_on-unhalted (Raised v) r h i = refl
go_on-unhalted (Broken level) r h i = refl
go_on-unhalted (Stopped stop) r h i = h

pub then_run-unhalted : {A : Type 0} (r s : Run A) → Unhalted r → Unhalted s → Unhalted (then_run r s)
then_run-unhalted r s h i = go_on-unhalted r.ending s h i

bind_items-unhalted : {A B : Type 0} (P : A → Type 0) (xs : List A) (e : Ending) (g : A → Run B) → halt_status e ≡ None → Each P xs → ((x : A) → P x → Unhalted (g x)) → Unhalted (bind_items xs e g)
bind_items-unhalted P [] e g h all i = h
bind_items-unhalted P (x ∷ xs) e g h all i = then_run-unhalted (g x) (bind_items xs e g) (i x all.0) (bind_items-unhalted P xs e g h all.1 i)

pub bind_each-unhalted : {A B : Type 0} (P : A → Type 0) (r : Run A) (g : A → Run B) → Unhalted r → Each P r.items → ((x : A) → P x → Unhalted (g x)) → Unhalted (bind r g)
bind_each-unhalted P r g h all i = bind_items-unhalted P r.items r.ending g h all i

pub bind-unhalted : {A B : Type 0} (r : Run A) (g : A → Run B) → Unhalted r → ((x : A) → Unhalted (g x)) → Unhalted (bind r g)
bind-unhalted r g h i = bind_items-unhalted (λ x. ⊤) r.items r.ending g h (each_trivial r.items) (λ x j. i x)

pub answered-unhalted : {A : Type 0} (f : Value → A) (a : Answer) → Unhalted (answered f a)
answered-unhalted f (Ok v) = refl
answered-unhalted f (Err e) = refl

no_item-unhalted : (xs : List Item) (e : Ending) → halt_status e ≡ None → Unhalted (no_item (record { items = xs; ending = e }))
no_item-unhalted [] e h = h
no_item-unhalted (x ∷ xs) e h = refl

pub without_path-unhalted : (x : Item) (r : Run Item) → Unhalted r → Unhalted (without_path x r)
without_path-unhalted (plain v) r h = h
without_path-unhalted (located v p) r h = no_item-unhalted r.items r.ending h

pub gathered-unhalted : (r : Run Item) → Unhalted r → Unhalted (gathered r)
gathered-unhalted r h = go_on-unhalted r.ending (one (plain (array_of_items r.items))) h refl

-- ---- what catches errors and breaks

catch_of : (xs : List Item) (e : Ending) (handler : Value → Run Item) → halt_status e ≡ None → ((v : Value) → Unhalted (handler v)) → Unhalted (catch (record { items = xs; ending = e }) handler)
catch_of xs Done handler h i = refl
catch_of xs (Raised v) handler h i = i v
catch_of xs (Broken level) handler h i = refl
catch_of xs (Stopped stop) handler h i = h

pub catch-unhalted : (r : Run Item) (handler : Value → Run Item) → Unhalted r → ((v : Value) → Unhalted (handler v)) → Unhalted (catch r handler)
catch-unhalted r handler h i = catch_of r.items r.ending handler h i

silenced-unhalted : (e : Ending) → halt_status e ≡ None → halt_status (silenced e) ≡ None
silenced-unhalted Done h = refl
silenced-unhalted (Raised v) h = refl
silenced-unhalted (Broken level) h = refl
silenced-unhalted (Stopped stop) h = h

pub alternative-unhalted : (r : Run Item) (g : Item → Run Item) (x : Item) → Unhalted r → Unhalted (g x) → Unhalted (alternative r g x)
alternative-unhalted r g x h i = go (kept r.items)
  where
    go : (ys : List Item) → Unhalted (let s : Run Item = elim ys [ [] ↦ go_on (silenced r.ending) (g x) | y ∷ zs ↦ record { items = y ∷ zs; ending = silenced r.ending } ] in s)
    go [] = go_on-unhalted (silenced r.ending) (g x) (silenced-unhalted r.ending h) i
    go (y ∷ zs) = silenced-unhalted r.ending h

pub either-unhalted : {A : Type 0} (r s : Run A) → Unhalted r → Unhalted s → (b : Bool) → Unhalted (if b then r else s)
either-unhalted r s h i true = h
either-unhalted r s h i false = i

stopped_break : (k level : ℕ) (b : Bool) → halt_status (if b then Done else Broken level) ≡ None
stopped_break k level true = refl
stopped_break k level false = refl

stopped-unhalted : (k : ℕ) (e : Ending) → halt_status e ≡ None → halt_status (stopped k e) ≡ None
stopped-unhalted k Done h = refl
stopped-unhalted k (Raised v) h = refl
stopped-unhalted k (Broken level) h = stopped_break k level (nat_eq level k)
stopped-unhalted k (Stopped stop) h = h

pub labelled-unhalted : (k : ℕ) (r : Run Item) → Unhalted r → Unhalted (labelled k r)
labelled-unhalted k r h = stopped-unhalted k r.ending h

pub broken-unhalted : (o : Option ℕ) → Unhalted (broken o)
broken-unhalted None = refl
broken-unhalted (Some level) = refl

-- ---- folds

next_located : (xs : List Item) (go : Item → Run Item) → ((y : Item) → Unhalted (go y)) → Unhalted (let s : Run Item = elim xs [ [] ↦ path_error | y ∷ ys ↦ go (last_or y ys) ] in s)
next_located [] go i = refl
next_located (y ∷ ys) go i = i (last_or y ys)

next_state-unhalted : (state : Item) (update : Run Item) (go : Item → Run Item) → Unhalted update → ((y : Item) → Unhalted (go y)) → Unhalted (next_state state update go)
next_state-unhalted (plain v) update go h i = go_on-unhalted update.ending (go (last_or (plain null) update.items)) h (i (last_or (plain null) update.items))
next_state-unhalted (located v p) update go h i = go_on-unhalted update.ending (elim update.items [ [] ↦ path_error | y ∷ ys ↦ go (last_or y ys) ]) h (next_located update.items go i)

pub reduced-unhalted : {S : Type 0} (P : S → Type 0) (update : S → Item → Run Item) (ss : List S) (e : Ending) (state : Item) → halt_status e ≡ None → Each P ss → ((s : S) → P s → (y : Item) → Unhalted (update s y)) → Unhalted (reduced update ss e state)
reduced-unhalted P update [] e state h all i = go_on-unhalted e (one state) h refl
reduced-unhalted P update (s ∷ ss) e state h all i =
    next_state-unhalted state (update s state) (reduced update ss e) (i s all.0 state) (λ y. reduced-unhalted P update ss e y h all.1 i)

pub each_of-unhalted : {S : Type 0} (P : S → Type 0) (update extract : S → Item → Run Item) (ss : List S) (e : Ending) (state : Item) → halt_status e ≡ None → Each P ss → ((s : S) → P s → (y : Item) → Unhalted (update s y)) → ((s : S) → P s → (y : Item) → Unhalted (extract s y)) → Unhalted (each_of update extract ss e state)
each_of-unhalted P update extract [] e state h all i j = h
each_of-unhalted P update extract (s ∷ ss) e state h all i j =
    then_run-unhalted (bind (update s state) (extract s)) (next_state state (update s state) (each_of update extract ss e))
    (bind-unhalted (update s state) (extract s) (i s all.0 state) (j s all.0))
    (next_state-unhalted state (update s state) (each_of update extract ss e) (i s all.0 state) (λ y. each_of-unhalted P update extract ss e y h all.1 i j))

-- ---- steps, and values

guarded_fail-unhalted : (guarded : Bool) (v : Value) → Unhalted (guarded_fail guarded v)
guarded_fail-unhalted true v = refl
guarded_fail-unhalted false v = refl

step_answer-unhalted : (guarded : Bool) (x : Item) (key : Value) (a : Answer) → Unhalted (step_answer guarded x key a)
step_answer-unhalted guarded x key (Ok w) = refl
step_answer-unhalted guarded x key (Err e) = guarded_fail-unhalted guarded e

pub step-unhalted : (guarded : Bool) (x : Item) (key : Value) → Unhalted (step guarded x key)
step-unhalted guarded x key = step_answer-unhalted guarded x key (index_of (value_in x) key)

pub all_parts-unhalted : (guarded : Bool) (x : Item) (a : Result (List Value) Value) → Unhalted (all_parts guarded x a)
all_parts-unhalted guarded x (Ok vs) = refl
all_parts-unhalted guarded x (Err e) = guarded_fail-unhalted guarded e

pub put_between-unhalted : (front back : List ℕ) (t : Text) → Unhalted (put_between front back t)
put_between-unhalted front back (Ok s) = refl
put_between-unhalted front back (Err e) = refl

pub on_conjunct-unhalted : (right : Item → Run Item) (x left : Item) → Unhalted (right x) → Unhalted (on_conjunct right x left)
unfolding on_conjunct truth
on_conjunct-unhalted right x left h = go (is_true (value_in left))
  where
    go : (b : Bool) → Unhalted (let s : Run Item = elim b [ true ↦ bind (right x) truth | false ↦ one (plain (boolean false)) ] in s)
    go true = bind-unhalted (right x) truth h (λ v. refl)
    go false = refl

pub on_disjunct-unhalted : (right : Item → Run Item) (x left : Item) → Unhalted (right x) → Unhalted (on_disjunct right x left)
unfolding on_disjunct truth
on_disjunct-unhalted right x left h = go (is_true (value_in left))
  where
    go : (b : Bool) → Unhalted (let s : Run Item = elim b [ true ↦ one (plain (boolean true)) | false ↦ bind (right x) truth ] in s)
    go true = refl
    go false = bind-unhalted (right x) truth h (λ v. refl)

pub on_test-unhalted : (holds fails : Item → Run Item) (x test : Item) → Unhalted (holds x) → Unhalted (fails x) → Unhalted (on_test holds fails x test)
unfolding on_test
on_test-unhalted holds fails x test h i = go (is_true (value_in test))
  where
    go : (b : Bool) → Unhalted (let s : Run Item = elim b [ true ↦ holds x | false ↦ fails x ] in s)
    go true = h
    go false = i

pub with_key-unhalted : (values : Run Item) (later : Members → Run Item) (made : Members) (key : Value) → Unhalted values → ((ms : Members) → Unhalted (later ms)) → Unhalted (with_key values later made key)
unfolding on_entry
with_key-unhalted values later made null h i = refl
with_key-unhalted values later made (boolean b) h i = refl
with_key-unhalted values later made (number n) h i = refl
with_key-unhalted values later made (string s) h i = bind-unhalted values (on_entry later made s) h (λ v. i (put s (value_in v) made))
with_key-unhalted values later made (array vs) h i = refl
with_key-unhalted values later made (object ms) h i = refl

-- ---- calls of names of the language

pub each_choice-unhalted : {A : Type 0} (rs : List (Run Item)) (g : List Value → Run A) → Each Unhalted rs → ((vs : List Value) → Unhalted (g vs)) → Unhalted (each_choice rs g)
each_choice-unhalted [] g h i = i []
each_choice-unhalted (r ∷ rs) g h i =
    bind-unhalted r (λ v. each_choice rs (λ vs. g (value_in v ∷ vs))) h.0 (λ v. each_choice-unhalted rs (λ vs. g (value_in v ∷ vs)) h.1 (λ vs. i (value_in v ∷ vs)))

first_run-unhalted : (rs : List (Run Item)) → Each Unhalted rs → Unhalted (first_run rs)
first_run-unhalted [] h = refl
first_run-unhalted (r ∷ rs) h = h.0

numbers-unhalted : (start end step : ℤ) → Unhalted (numbers_between start end step)
numbers-unhalted start end step =
    either-unhalted (fail (string (codes "Range step is 0"))) (record { items = map (step_from start step) (range_with_len 0 (steps_between start end step)); ending = Done }) refl refl (int_eq step (pos 0))

range-unhalted : (vs : List Value) → Unhalted (range_of vs)
range-unhalted (number start ∷ number end ∷ []) = numbers-unhalted start end (pos 1)
range-unhalted (number start ∷ number end ∷ number step ∷ []) = numbers-unhalted start end step
range-unhalted vs = refl

native_run-unhalted : (f : Native) (rs : List (Run Item)) (x : Item) → Each Unhalted rs → Unhalted (native_run f rs x)
native_run-unhalted GetPath rs x h = each_choice-unhalted rs (path_native GetPath x) h (λ vs. answered-unhalted (at_path x vs) (answer_of_native GetPath (value_in x) vs))
native_run-unhalted f rs x h =
    without_path-unhalted x (each_choice rs (plain_native f (value_in x))) (each_choice-unhalted rs (plain_native f (value_in x)) h (λ vs. answered-unhalted plain (answer_of_native f (value_in x) vs)))

-- The call of every name of the language but those that halt.
abbrev pub IsHalt : Builtin → Type 0
IsHalt halts = ⊤
IsHalt b = ⊥

pub builtin_run-unhalted : (b : Builtin) (arguments : Item → List (Run Item)) (inputs : Run Value) (x : Item) → (IsHalt b → ⊥) → ((y : Item) → Each Unhalted (arguments y)) → Unhalted inputs → Unhalted (builtin_run b arguments inputs x)
builtin_run-unhalted no_outputs arguments inputs x n h i = refl
builtin_run-unhalted paths arguments inputs x n h i =
    without_path-unhalted x (paths_in (first_run (arguments (located (value_in x) [])))) (first_run-unhalted (arguments (located (value_in x) [])) (h (located (value_in x) [])))
builtin_run-unhalted range arguments inputs x n h i =
    without_path-unhalted x (each_choice (arguments (plain (value_in x))) range_of) (each_choice-unhalted (arguments (plain (value_in x))) range_of (h (plain (value_in x))) range-unhalted)
builtin_run-unhalted all_inputs arguments inputs x n h i = without_path-unhalted x (plain_items inputs) i
builtin_run-unhalted halts arguments inputs x n h i = absurd (n tt)
builtin_run-unhalted (native f) arguments inputs x n h i = native_run-unhalted f (arguments (plain (value_in x))) x (h (plain (value_in x)))
builtin_run-unhalted unknown arguments inputs x n h i = refl
