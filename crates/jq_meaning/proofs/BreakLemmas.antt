-- Why a break never leaves the whole filter: a label's level is smaller than the levels of the labels inside it.
use Rattle.std.proofs.Common.{◌≡◌, ℕ, suc, ◌<◌, List, [], ◌∷◌, Bool, true, false, nat_eq, refl, arith}
use Rattle.std.specs.Prelude.{⊤, Option, Some, None, Ok, Err, if◌then◌else◌, bytes_eq, length}
use Rattle.jv_data.specs.Value.{Value, null}
use Rattle.jq_natives.specs.Answers.{Answer}
use Rattle.jq_tree.specs.Tree.{Name, Trees, no_trees, more_trees}
use Rattle.jq_meaning.specs.Runs.{Item, plain, located, Run, Ending, Done, Raised, Broken, Stopped, one, go_on, then_run, bind_items, bind, answered, no_item, without_path, path_error, gathered, array_of_items, catch, kept, silenced, alternative, stopped, labelled}
use Rattle.jq_meaning.specs.Env.{Env, outermost, bound, value_of, function, closure, label_of, Callee, found_function, found_closure, no_callee, find_level, is_named, find_callee, callee_or, find_in_prelude, find_inputs, with_arguments, with_variables}
use Rattle.jq_meaning.specs.Folds.{last_or, next_state, reduced, each_of}

-- a break at the end has a level below k
abbrev pub EndingBelow : ℕ → Ending → Type 0
EndingBelow k Done = ⊤
EndingBelow k (Raised v) = ⊤
EndingBelow k (Broken level) = level < k
EndingBelow k (Stopped stop) = ⊤

abbrev pub EndsBelow : {A : Type 0} → ℕ → Run A → Type 0
EndsBelow k r = EndingBelow k r.ending

abbrev pub Each : {A : Type 0} → (A → Type 0) → List A → Type 0
Each P [] = ⊤
Each P (x ∷ xs) = P x × Each P xs

-- the labels in a list of bindings, and in the lists of its closures, have levels below k
abbrev pub LabelsBelow : ℕ → Env → Type 0
LabelsBelow k (outermost inputs) = EndsBelow k inputs
LabelsBelow k (bound (value_of n v) e) = LabelsBelow k e
LabelsBelow k (bound (function n ps body) e) = LabelsBelow k e
LabelsBelow k (bound (closure n body own) e) = LabelsBelow k own × LabelsBelow k e
LabelsBelow k (bound (label_of n level) e) = (level < k) × LabelsBelow k e

-- ---- a higher level

ending_higher : (k : ℕ) (e : Ending) → EndingBelow k e → EndingBelow (suc k) e
ending_higher k Done h = tt
ending_higher k (Raised v) h = tt
ending_higher k (Broken level) h = omega arith
ending_higher k (Stopped stop) h = tt

pub labels_higher : (k : ℕ) (e : Env) → LabelsBelow k e → LabelsBelow (suc k) e
labels_higher k (outermost inputs) h = ending_higher k inputs.ending h
labels_higher k (bound (value_of n v) e) h = labels_higher k e h
labels_higher k (bound (function n ps body) e) h = labels_higher k e h
labels_higher k (bound (closure n body own) e) h = (labels_higher k own h.0, labels_higher k e h.1)
labels_higher k (bound (label_of n level) e) h = (omega arith, labels_higher k e h.1)

-- ---- runs

pub go_on-below : {A : Type 0} (k : ℕ) (e : Ending) (r : Run A) → EndingBelow k e → EndsBelow k r → EndsBelow k (go_on e r)
go_on-below k Done r h i = i
go_on-below k (Raised v) r h i = tt
go_on-below k (Broken level) r h i = h
go_on-below k (Stopped stop) r h i = tt

pub then_run-below : {A : Type 0} (k : ℕ) (r s : Run A) → EndsBelow k r → EndsBelow k s → EndsBelow k (then_run r s)
then_run-below k r s h i = go_on-below k r.ending s h i

bind_items-below : {A B : Type 0} (k : ℕ) (P : A → Type 0) (xs : List A) (e : Ending) (g : A → Run B) → EndingBelow k e → Each P xs → ((x : A) → P x → EndsBelow k (g x)) → EndsBelow k (bind_items xs e g)
bind_items-below k P [] e g h all i = h
bind_items-below k P (x ∷ xs) e g h all i =
    then_run-below k (g x) (bind_items xs e g) (i x all.0) (bind_items-below k P xs e g h all.1 i)

pub bind_each-below : {A B : Type 0} (k : ℕ) (P : A → Type 0) (r : Run A) (g : A → Run B) → EndsBelow k r → Each P r.items → ((x : A) → P x → EndsBelow k (g x)) → EndsBelow k (bind r g)
bind_each-below k P r g h all i = bind_items-below k P r.items r.ending g h all i

pub each_trivial : {A : Type 0} (xs : List A) → Each (λ x. ⊤) xs
each_trivial [] = tt
each_trivial (x ∷ xs) = (tt, each_trivial xs)

pub bind-below : {A B : Type 0} (k : ℕ) (r : Run A) (g : A → Run B) → EndsBelow k r → ((x : A) → EndsBelow k (g x)) → EndsBelow k (bind r g)
bind-below k r g h i = bind_items-below k (λ x. ⊤) r.items r.ending g h (each_trivial r.items) (λ x j. i x)

pub answered-below : {A : Type 0} (k : ℕ) (f : Value → A) (a : Answer) → EndsBelow k (answered f a)
answered-below k f (Ok v) = tt
answered-below k f (Err e) = tt

no_item-below : (k : ℕ) (xs : List Item) (e : Ending) → EndingBelow k e → EndsBelow k (no_item (record { items = xs; ending = e }))
no_item-below k [] e h = h
no_item-below k (x ∷ xs) e h = tt

pub without_path-below : (k : ℕ) (x : Item) (r : Run Item) → EndsBelow k r → EndsBelow k (without_path x r)
without_path-below k (plain v) r h = h
without_path-below k (located v p) r h = no_item-below k r.items r.ending h

pub gathered-below : (k : ℕ) (r : Run Item) → EndsBelow k r → EndsBelow k (gathered r)
gathered-below k r h = go_on-below k r.ending (one (plain (array_of_items r.items))) h tt

catch_of : (k : ℕ) (xs : List Item) (e : Ending) (handler : Value → Run Item) → EndingBelow k e → ((v : Value) → EndsBelow k (handler v)) → EndsBelow k (catch (record { items = xs; ending = e }) handler)
catch_of k xs Done handler h i = tt
catch_of k xs (Raised v) handler h i = i v
catch_of k xs (Broken level) handler h i = h
catch_of k xs (Stopped stop) handler h i = tt

pub catch-below : (k : ℕ) (r : Run Item) (handler : Value → Run Item) → EndsBelow k r → ((v : Value) → EndsBelow k (handler v)) → EndsBelow k (catch r handler)
catch-below k r handler h i = catch_of k r.items r.ending handler h i

silenced-below : (k : ℕ) (e : Ending) → EndingBelow k e → EndingBelow k (silenced e)
silenced-below k Done h = tt
silenced-below k (Raised v) h = tt
silenced-below k (Broken level) h = h
silenced-below k (Stopped stop) h = tt

pub alternative-below : (k : ℕ) (r : Run Item) (g : Item → Run Item) (x : Item) → EndsBelow k r → EndsBelow k (g x) → EndsBelow k (alternative r g x)
alternative-below k r g x h i = go (kept r.items)
  where
    go : (ys : List Item) → EndsBelow k (let s : Run Item = elim ys [ [] ↦ go_on (silenced r.ending) (g x) | y ∷ zs ↦ record { items = y ∷ zs; ending = silenced r.ending } ] in s)
    go [] = go_on-below k (silenced r.ending) (g x) (silenced-below k r.ending h) i
    go (y ∷ zs) = silenced-below k r.ending h

unequal : (j k : ℕ) → nat_eq j k ≡ false → j < suc k → j < k
unequal j k e h = grind (arith, e)

stopped_of : (k j : ℕ) → j < suc k → (b : Bool) → nat_eq j k ≡ b → EndingBelow k (if b then Done else Broken j)
stopped_of k j h true e = tt
stopped_of k j h false e = unequal j k e h

stopped-below : (k : ℕ) (e : Ending) → EndingBelow (suc k) e → EndingBelow k (stopped k e)
stopped-below k Done h = tt
stopped-below k (Raised v) h = tt
stopped-below k (Broken j) h = stopped_of k j h (nat_eq j k) refl
stopped-below k (Stopped stop) h = tt

pub labelled-below : (k : ℕ) (r : Run Item) → EndsBelow (suc k) r → EndsBelow k (labelled k r)
labelled-below k r h = stopped-below k r.ending h

-- ---- folds

next_located : (k : ℕ) (xs : List Item) (go : Item → Run Item) → ((y : Item) → EndsBelow k (go y)) → EndsBelow k (let s : Run Item = elim xs [ [] ↦ path_error | y ∷ ys ↦ go (last_or y ys) ] in s)
next_located k [] go i = tt
next_located k (y ∷ ys) go i = i (last_or y ys)

pub next_state-below : (k : ℕ) (state : Item) (update : Run Item) (go : Item → Run Item) → EndsBelow k update → ((y : Item) → EndsBelow k (go y)) → EndsBelow k (next_state state update go)
next_state-below k (plain v) update go h i = go_on-below k update.ending (go (last_or (plain null) update.items)) h (i (last_or (plain null) update.items))
next_state-below k (located v p) update go h i = go_on-below k update.ending (elim update.items [ [] ↦ path_error | y ∷ ys ↦ go (last_or y ys) ]) h (next_located k update.items go i)

pub reduced-below : {S : Type 0} (k : ℕ) (P : S → Type 0) (update : S → Item → Run Item) (ss : List S) (e : Ending) (state : Item) → EndingBelow k e → Each P ss → ((s : S) → P s → (y : Item) → EndsBelow k (update s y)) → EndsBelow k (reduced update ss e state)
reduced-below k P update [] e state h all i = go_on-below k e (one state) h tt
reduced-below k P update (s ∷ ss) e state h all i =
    next_state-below k state (update s state) (reduced update ss e) (i s all.0 state) (λ y. reduced-below k P update ss e y h all.1 i)

pub each_of-below : {S : Type 0} (k : ℕ) (P : S → Type 0) (update extract : S → Item → Run Item) (ss : List S) (e : Ending) (state : Item) → EndingBelow k e → Each P ss → ((s : S) → P s → (y : Item) → EndsBelow k (update s y)) → ((s : S) → P s → (y : Item) → EndsBelow k (extract s y)) → EndsBelow k (each_of update extract ss e state)
each_of-below k P update extract [] e state h all i j = h
each_of-below k P update extract (s ∷ ss) e state h all i j =
    then_run-below k (bind (update s state) (extract s)) (next_state state (update s state) (each_of update extract ss e))
    (bind-below k (update s state) (extract s) (i s all.0 state) (j s all.0))
    (next_state-below k state (update s state) (each_of update extract ss e) (i s all.0 state) (λ y. each_of-below k P update extract ss e y h all.1 i j))

-- ---- what a search in the bindings finds

pub find_inputs-below : (k : ℕ) (e : Env) → LabelsBelow k e → EndsBelow k (find_inputs e)
find_inputs-below k (outermost inputs) h = h
find_inputs-below k (bound (value_of n v) e) h = find_inputs-below k e h
find_inputs-below k (bound (function n ps body) e) h = find_inputs-below k e h
find_inputs-below k (bound (closure n body own) e) h = find_inputs-below k e h.1
find_inputs-below k (bound (label_of n level) e) h = find_inputs-below k e h.1

abbrev pub LevelBelow : ℕ → Option ℕ → Type 0
LevelBelow k None = ⊤
LevelBelow k (Some level) = level < k

level_of : (k level : ℕ) (o : Option ℕ) → level < k → LevelBelow k o → (b : Bool) → LevelBelow k (if b then Some level else o)
level_of k level o h i true = h
level_of k level o h i false = i

pub find_level-below : (k : ℕ) (n : Name) (e : Env) → LabelsBelow k e → LevelBelow k (find_level n e)
find_level-below k n (outermost inputs) h = tt
find_level-below k n (bound (value_of m v) e) h = find_level-below k n e h
find_level-below k n (bound (function m ps body) e) h = find_level-below k n e h
find_level-below k n (bound (closure m body own) e) h = find_level-below k n e h.1
find_level-below k n (bound (label_of m level) e) h = level_of k level (find_level n e) h.0 (find_level-below k n e h.1) (bytes_eq n m)

abbrev pub CalleeBelow : ℕ → Callee → Type 0
CalleeBelow k (found_function ps body own) = LabelsBelow k own
CalleeBelow k (found_closure body own) = LabelsBelow k own
CalleeBelow k no_callee = ⊤

either : (k : ℕ) (c d : Callee) → CalleeBelow k c → CalleeBelow k d → (b : Bool) → CalleeBelow k (if b then c else d)
either k c d h i true = h
either k c d h i false = i

pub find_callee-below : (k : ℕ) (n : Name) (count : ℕ) (e : Env) → LabelsBelow k e → CalleeBelow k (find_callee n count e)
find_callee-below k n count (outermost inputs) h = tt
find_callee-below k n count (bound (value_of m v) e) h = find_callee-below k n count e h
find_callee-below k n count (bound (function m ps body) e) h =
    either k (found_function ps body (bound (function m ps body) e)) (find_callee n count e) h (find_callee-below k n count e h) (is_named n count m (length ps))
find_callee-below k n count (bound (closure m body own) e) h =
    either k (found_closure body own) (find_callee n count e) h.0 (find_callee-below k n count e h.1) (is_named n count m 0)
find_callee-below k n count (bound (label_of m level) e) h = find_callee-below k n count e h.1

callee_or-below : (k : ℕ) (c d : Callee) → CalleeBelow k c → CalleeBelow k d → CalleeBelow k (callee_or c d)
callee_or-below k (found_function ps body own) d h i = h
callee_or-below k (found_closure body own) d h i = h
callee_or-below k no_callee d h i = i

pub find_in_prelude-below : (k : ℕ) (n : Name) (count : ℕ) (e : Env) → LabelsBelow k e → CalleeBelow k (find_in_prelude n count e)
find_in_prelude-below k n count (outermost inputs) h = tt
find_in_prelude-below k n count (bound (value_of m v) e) h = find_in_prelude-below k n count e h
find_in_prelude-below k n count (bound (function m ps body) e) h =
    callee_or-below k (find_in_prelude n count e) (if is_named n count m (length ps) then found_function ps body (bound (function m ps body) e) else no_callee)
    (find_in_prelude-below k n count e h)
    (either k (found_function ps body (bound (function m ps body) e)) no_callee h tt (is_named n count m (length ps)))
find_in_prelude-below k n count (bound (closure m body own) e) h = find_in_prelude-below k n count e h.1
find_in_prelude-below k n count (bound (label_of m level) e) h = find_in_prelude-below k n count e h.1

pub with_arguments-below : (k : ℕ) (ps : List Name) (ts : Trees) (caller own : Env) → LabelsBelow k caller → LabelsBelow k own → LabelsBelow k (with_arguments ps ts caller own)
with_arguments-below k [] ts caller own h i = i
with_arguments-below k (p ∷ ps) no_trees caller own h i = i
with_arguments-below k (p ∷ ps) (more_trees t ts) caller own h i = with_arguments-below k ps ts caller (bound (closure p t caller) own) h (h, i)

pub with_variables-below : (k : ℕ) (ps : List (Name × Value)) (e : Env) → LabelsBelow k e → LabelsBelow k (with_variables ps e)
with_variables-below k [] e h = h
with_variables-below k (p ∷ ps) e h = with_variables-below k ps e h
