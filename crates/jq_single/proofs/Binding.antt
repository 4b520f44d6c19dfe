-- What is claimed of a run that goes on with another filter, of outputs that are added to a list, and of the steps of a fold.
use Rattle.std.proofs.Common.{◌≡◌, ◌∙◌, ℕ, List, Result, Ok, Err, refl, sym, ap, subst, [], ◌∷◌, ◌++◌, map, reverse, length, Option, Some, option_to_list, arith, None, IfSome}
use Rattle.std.specs.Result.{IsErrAnd}
use Rattle.jv_data.specs.Value.{Value, array, items_of, values_of, null}
use Rattle.jv_data.specs.declared.values.Val.{Val}
use Rattle.jq_meaning.specs.Continuations.{on_source, in_bindings, on_state}
use Rattle.jq_tree.specs.Tree.{Name, Tree}
use Rattle.jq_meaning.specs.Env.{Env, bound, value_of}
use Rattle.jq_meaning.specs.Meaning.{Means, below, bindings_with, meaning}
use Rattle.jq_meaning.specs.Runs.{Item, plain, Run, one, fail, bind, value_in, Ending, Done, Raised, Broken, Stopped, none, before, then_run, bind_items, gathered, located, path_error, go_on}
use Rattle.jq_meaning.proofs.shared.machine.RunLaws.{bind-one, bind-bind, bind-one_right, bind-then_run, then_run-assoc, then_run-none}
use Rattle.jq_single.specs.Single.{Ends, Comes, Keeps, Leaves}
use Rattle.jq_single.specs.private.Gathering.{GoesOn, Gathers, GathersAll, given_of, made, rest_run, fold_run, folded, last_or, state_in, turn}
use Rattle.jq_single.specs.private.Parts.{run}
use Rattle.jq_single.specs.declared.stops.Stop.{Stop}
use Rattle.std.proofs.lemmas.List.{append-nil, map-append, reverse-append}
use Rattle.jv_data.proofs.shared.Items.{values_of-items_of}
use Rattle.jv_data.specs.View.{view}
use Rattle.jq_meaning.specs.Builtins.{values_in_array}
use Rattle.jq_state.specs.Items.{item_of}
use Rattle.jq_state.proofs.shared.Items.{absent, value_of_item}
use Rattle.jv_data.proofs.shared.Levels.{view-Bool, view-List}
use Rattle.jq_single.specs.declared.contexts.Context.{Context}
use Rattle.jq_single.specs.declared.rests.Rest.{Rest}
use Rattle.jq_meaning.specs.Folds.{next_state, reduced}
use Rattle.jq_single.specs.private.Scopes.{scope_env}
use Rattle.jq_tree.specs.Tree as tree
use Rattle.jq_single.specs.declared.stops.Stop.TheVariants as stop
use Rattle.jq_state.specs.declared.items.Item as items
use Rattle.jq_single.specs.declared.rests.Rest.TheVariants as rest
use Rattle.jq_meaning.specs.Folds as folds

-- after a run without output nothing follows
pub ends-bind : {A B : Type 0} (s : Stop) (r : Run A) (g : A → Run B) → Ends s r → Ends s (bind r g)
ends-bind stop.Nothing r g e = ap (λ q. bind q g) e
ends-bind (stop.Raised v) r g e = ap (λ q. bind q g) e
ends-bind stop.NoMemory r g e = tt
ends-bind stop.Unknown r g e = tt

-- with one output the run is that of the filter on this output
pub bind-known : {A B : Type 0} (r : Run A) (x : A) (g : A → Run B) → r ≡ one x → bind r g ≡ g x
bind-known r x g e = ap (λ q. bind q g) e ∙ bind-one x g

pub comes-bind : {V A B : Type 0} (to : V → Run B) (a : Result V Stop) (r : Run A) (x : A) (g : A → Run B) → r ≡ one x → Comes to a (g x) → Comes to a (bind r g)
comes-bind to (Ok v) r x g e h = bind-known r x g e ∙ h
comes-bind to (Err s) r x g e h = subst (Ends s) (sym (bind-known r x g e)) h

-- a value that is not changed is kept
pub leaves_same : (s : Stop) (v : Value) → Leaves s v v
leaves_same stop.Nothing v = tt
leaves_same (stop.Raised e) v = tt
leaves_same stop.NoMemory v = tt
leaves_same stop.Unknown v = refl

-- an error of a part, after `?`
pub stops : {V B : Type 0} (to : V → Run B) (a : Result V Stop) (s : Stop) (r : Run B) → IsErrAnd a (λ e. e ≡ s) → Ends s r → Comes to a r
stops to (Ok v) s r h k = absurd h
stops to (Err e) s r h k = subst (λ z. Ends z r) (sym h) k

pub part_stops : {V A B : Type 0} (to : V → Run B) (a : Result V Stop) (s : Stop) (r : Run A) (g : A → Run B) → IsErrAnd a (λ e. e ≡ s) → Ends s r → Comes to a (bind r g)
part_stops to a s r g h k = stops to a s (bind r g) h (ends-bind s r g k)

pub keeps_stops : {A : Type 0} (a : Result A Stop) (s : Stop) (v : Value) → IsErrAnd a (λ e. e ≡ s) → Keeps a v v
keeps_stops (Ok d) s v h = absurd h
keeps_stops (Err e) s v h = leaves_same e v

pub keeps_part : {A : Type 0} (a : Result A Stop) (s : Stop) (v w : Value) → IsErrAnd a (λ e. e ≡ s) → Leaves s v w → Keeps a v w
keeps_part (Ok d) s v w h k = absurd h
keeps_part (Err e) s v w h k = subst (λ z. Leaves z v w) (sym h) k

-- what each function may use
pub ruleset known_runs = (part_stops, keeps_stops, keeps_part, bind-one, bind-bind, value_of_item, absent, view-Bool, view-List)

-- ---- variables

pub with_variable : (deeper : Means) (r : Run Item) (n : Name) (w : Value) (e : Env) (k : ℕ) (body : Env → ℕ → Item → Run Item) (x : Item) → r ≡ one (plain w)
    → bind (bind r (on_source (bindings_with deeper (tree.whole n) k) e)) (in_bindings body k x) ≡ body (bound (value_of n w) e) k x
unfolding on_source in_bindings
with_variable deeper r n w e k body x h =
    ap (λ q. bind (bind q (on_source (bindings_with deeper (tree.whole n) k) e)) (in_bindings body k x)) h
    ∙ bind-one (bound (value_of n w) e) (in_bindings body k x)

-- a part that stopped, after `?`
pub gathers_stops : {A : Type 0} (make : List Val → Run Item → Run Item) (a : Result A Stop) (s : Stop) (xs ys : List Val) (r : Run Item) → IsErrAnd a (λ e. e ≡ s) → ((q : Run Item) → Ends s (make xs (then_run r q))) → Gathers make a xs ys r
gathers_stops make (Ok d) s xs ys r h k = absurd h
gathers_stops make (Err e) s xs ys r h k = subst (λ z. (q : Run Item) → Ends z (make xs (then_run r q))) (sym h) k

-- one run after the other
pub gathers-then : {A B : Type 0} (make : List Val → Run Item → Run Item) (d : A) (a : Result B Stop) (xs ys zs : List Val) (r q : Run Item) → Gathers make (Ok d) xs ys r → Gathers make a ys zs q → Gathers make a xs zs (then_run r q)
gathers-then make d (Ok c) xs ys zs r q f g = λ p. ap (make xs) (then_run-assoc r q p) ∙ f (then_run q p) ∙ g p
gathers-then make d (Err s) xs ys zs r q f g = λ p. subst (Ends s) (sym (ap (make xs) (then_run-assoc r q p) ∙ f (then_run q p))) (g p)

-- a run that stopped is still stopped after more runs
pub stops-then : (make : List Val → Run Item → Run Item) (s : Stop) (xs : List Val) (r q : Run Item) → ((p : Run Item) → Ends s (make xs (then_run r p))) → (p : Run Item) → Ends s (make xs (then_run (then_run r q) p))
stops-then make s xs r q h p = subst (λ t. Ends s (make xs t)) (sym (then_run-assoc r q p)) (h (then_run q p))

-- an error, whatever the values before it are
pub made-fail : (inputs : Run Value) (level : ℕ) (later : Rest) (xs : List Val) (v : Value) → made inputs level later xs (fail v) ≡ fail v
made-fail inputs level (rest.End most) xs v = refl
made-fail inputs level (rest.Then' t s d q later) xs v = made-fail inputs level later xs v
made-fail inputs level (rest.Bind' n t s d w q later) xs v = made-fail inputs level later xs v
made-fail inputs level (rest.Step' s q later) xs v = made-fail inputs level later xs v
made-fail inputs level (rest.Fold n t p) xs v = refl

pub gathers_fail : (inputs : Run Value) (level : ℕ) (later : Rest) (xs : List Val) (v : Value) (r : Run Item) → r ≡ fail v → (q : Run Item) → made inputs level later xs (then_run r q) ≡ fail v
gathers_fail inputs level later xs v r e q = ap (λ p. made inputs level later xs (then_run p q)) e ∙ made-fail inputs level later xs v

whole : (r : Run Item) → then_run (bind r one) none ≡ r
whole r = then_run-none (bind r one) ∙ bind-one_right r

-- an array of the outputs
all_made : (inputs : Run Value) (level most : ℕ) (xs : List Val) (r : Run Item) → xs ≡ [] → made inputs level (rest.End most) xs (then_run (bind r one) none) ≡ gathered r
all_made inputs level most xs r e = ap (λ zs. made inputs level (rest.End most) zs (then_run (bind r one) none)) e ∙ ap (made inputs level (rest.End most) []) (whole r)

pub gathered_list : {A : Type 0} (inputs : Run Value) (level most : ℕ) (d : A) (xs ys : List Val) (r : Run Item) → xs ≡ [] → Gathers (made inputs level (rest.End most)) (Ok d) xs ys (bind r one) → gathered r ≡ one (plain (array (items_of (map view ys))))
gathered_list inputs level most d xs ys r e g = sym (all_made inputs level most xs r e) ∙ g none ∙ ap (λ vs. one (plain (array (items_of vs)))) (append-nil (map view ys))

ends_gathered : (inputs : Run Value) (level most : ℕ) (s : Stop) (xs : List Val) (r : Run Item) → xs ≡ [] → ((q : Run Item) → Ends s (made inputs level (rest.End most) xs (then_run (bind r one) q))) → Ends s (gathered r)
ends_gathered inputs level most s xs r e h = subst (Ends s) (all_made inputs level most xs r e) (h none)

-- the values and the ending of a run whose outputs are those of an array
pub gathered_same : (xs : List Item) (f : Ending) (vs : List Value) → gathered (record { items = xs; ending = f }) ≡ one (plain (array (items_of vs))) → (map value_in xs ≡ vs) × (f ≡ Done)
gathered_same xs Done vs h =
    let same : values_of (items_of (map value_in xs)) ∷ [] ≡ values_of (items_of vs) ∷ [] = ap (λ (q : Run Item). map (λ y. values_in_array (value_in y)) q.items) h in
    (sym (values_of-items_of (map value_in xs)) ∙ (cc same) ∙ values_of-items_of vs, refl)
gathered_same xs (Raised e) vs h = let c = ap (λ (q : Run Item). length q.items) h in absurd (omega (arith, c))
gathered_same xs (Broken l) vs h = let c = ap (λ (q : Run Item). length q.items) h in absurd (omega (arith, c))
gathered_same xs (Stopped s) vs h = let c = ap (λ (q : Run Item). length q.items) h in absurd (omega (arith, c))

-- all outputs of a tree on a value
pub gathers_all : (p : Context) (t : Tree) (v : Value) (most : ℕ) (a : Result (Unit {0}) Stop) (xs ys : List Val) (x : Item) → x ≡ plain v → xs ≡ []
    → ((inputs : Run Value) (level : ℕ) → Gathers (made inputs level (rest.End most)) a xs ys (bind (run p inputs level t x) (rest_run inputs level (rest.End most))))
    → GathersAll p t v a ys
gathers_all p t v most (Ok d) xs ys x h e g = λ inputs level.
    gathered_list inputs level most d xs ys (run p inputs level t (plain v)) e (subst (λ (z : Item). Gathers (made inputs level (rest.End most)) (Ok d) xs ys (bind (run p inputs level t z) one)) h (g inputs level))
gathers_all p t v most (Err s) xs ys x h e g = λ inputs level.
    ends_gathered inputs level most s xs (run p inputs level t (plain v)) e (subst (λ (z : Item). (q : Run Item) → Ends s (made inputs level (rest.End most) xs (then_run (bind (run p inputs level t z) one) q))) h (g inputs level))

-- ---- items, the last one first

given-last : (xs : List items.Item) (x : items.Item) → then_run (one (item_of x)) (given_of xs) ≡ given_of (xs ++ x ∷ [])
given-last xs x =
    ap (λ is. record { items = is; ending = Done })
    (sym (ap reverse (map-append item_of xs (x ∷ [])) ∙ reverse-append (map item_of xs) (item_of x ∷ [])))

-- the value of an added item
pub added : (xs ys : List Val) (x : items.Item) → ys ≡ xs ++ x.value ∷ [] → map view ys ≡ map view xs ++ value_in (item_of x) ∷ []
added xs ys x e = ap (map view) e ∙ map-append view xs (x.value ∷ []) ∙ ap (λ (w : Value). map view xs ++ w ∷ []) (sym (value_of_item x))

-- taking the last element of the vector takes the first item
pub last_given : (r : Option items.Item) (xs ys : List items.Item) (x : items.Item) → xs ≡ ys ++ option_to_list r → r ≡ Some x → given_of xs ≡ before (item_of x ∷ []) (given_of ys)
last_given r xs ys x e is = ap given_of (e ∙ ap (λ o. ys ++ option_to_list o) is) ∙ sym (given-last ys x)

-- ---- the first item, and then the others

pub gives_first : (make : List Val → Run Item → Run Item) (d : Unit {0}) (a : Result (Unit {0}) Stop) (us vs ys : List Val) (r q : Run Item) (x : Item) (g : Item → Run Item) → r ≡ before (x ∷ []) q
    → Gathers make (Ok d) us vs (bind (one x) g) → Gathers make a vs ys (bind q g) → Gathers make a us ys (bind r g)
gives_first make d a us vs ys r q x g e h k =
    subst (λ p. Gathers make a us ys (bind p g)) (sym e)
    (subst (Gathers make a us ys) (sym (bind-then_run (one x) q g)) (gathers-then make d a us vs ys (bind (one x) g) (bind q g) h k))

pub stops_first : (make : List Val → Run Item → Run Item) (s : Stop) (us : List Val) (r q : Run Item) (x : Item) (g : Item → Run Item) → r ≡ before (x ∷ []) q
    → ((p : Run Item) → Ends s (make us (then_run (bind (one x) g) p))) → (p : Run Item) → Ends s (make us (then_run (bind r g) p))
stops_first make s us r q x g e h p =
    subst (λ t. Ends s (make us (then_run (bind t g) p))) (sym e)
    (subst (λ t. Ends s (make us (then_run t p))) (sym (bind-then_run (one x) q g)) (stops-then make s us (bind (one x) g) (bind q g) h p))

-- ---- variables

pub items-same : {A B : Type 0} (xs : List A) (e : Ending) (f g : A → Run B) → ((x : A) → f x ≡ g x) → bind_items xs e f ≡ bind_items xs e g
items-same [] e f g h = refl
items-same (x ∷ xs) e f g h = ap (λ q. then_run q (bind_items xs e f)) (h x) ∙ ap (then_run (g x)) (items-same xs e f g h)

pub bound_rest : (deeper : Means) (r : Run Item) (n : Name) (e : Env) (k : ℕ) (body : Env → ℕ → Item → Run Item) (x : Item) (g : Item → Run Item)
    → bind (bind (bind r (on_source (bindings_with deeper (tree.whole n) k) e)) (in_bindings body k x)) g ≡ bind r (λ y. bind (body (bound (value_of n (value_in y)) e) k x) g)
unfolding on_source in_bindings
bound_rest deeper r n e k body x g =
    let source : Item → Run Env = on_source (bindings_with deeper (tree.whole n) k) e in
    let goes : Env → Run Item = in_bindings body k x in
    ap (λ q. bind q g) (bind-bind r source goes) ∙ bind-bind r (λ y. bind (source y) goes) g
    ∙ items-same r.items r.ending (λ y. bind (bind (source y) goes) g) (λ y. bind (body (bound (value_of n (value_in y)) e) k x) g)
    (λ y. ap (λ q. bind q g) (bind-one (bound (value_of n (value_in y)) e) goes))

-- the state is the last value
pub last_or_end : (v : Value) (xs : List Val) (x : Val) → last_or v (xs ++ x ∷ []) ≡ view x
last_or_end v [] x = refl
last_or_end v (y ∷ ys) x = last_or_end (view y) ys x

pub taken : (r : Option Val) (xs ys : List Val) → xs ≡ ys ++ option_to_list r → IfSome r (λ v. state_in xs ≡ plain (view v))
taken None xs ys e = tt
taken (Some v) xs ys e = ap state_in e ∙ ap plain (last_or_end null ys v)

-- one step, whatever follows
pub turned : {A : Type 0} (a : Result A Stop) (step : Item → Item → Run Item) (x : Item) (xs ys : List Val) → ((go : Item → Run Item) → GoesOn a (go (state_in ys)) (next_state (state_in xs) (step x (state_in xs)) go))
    → Gathers (λ us r. reduced step r.items r.ending (state_in us)) a xs ys (one x)
turned (Ok d) step x xs ys h = λ q. h (reduced step q.items q.ending)
turned (Err s) step x xs ys h = λ q. h (reduced step q.items q.ending)

-- the result depends only on what is done with the next state
after-same : (ys : List Item) (f g : Item → Run Item) → ((y : Item) → f y ≡ g y) → ◌≡◌ {A = Run Item} (elim ys [ [] ↦ path_error | z ∷ zs ↦ f (folds.last_or z zs) ]) (elim ys [ [] ↦ path_error | z ∷ zs ↦ g (folds.last_or z zs) ])
after-same [] f g h = refl
after-same (z ∷ zs) f g h = h (folds.last_or z zs)

next-same : (x : Item) (r : Run Item) (f g : Item → Run Item) → ((y : Item) → f y ≡ g y) → next_state x r f ≡ next_state x r g
next-same (plain v) r f g h = ap (go_on r.ending) (h (folds.last_or (plain null) r.items))
next-same (located v p) r f g h = ap (go_on r.ending) (after-same r.items f g h)

-- a fold over the values of a variable
reduced-bound : (deeper : Means) (k : ℕ) (n : Name) (e : Env) (update : Env → ℕ → Item → Run Item) (xs : List Item) (f : Ending) (state : Item)
    → reduced (on_state update k) (bind_items xs f (on_source (bindings_with deeper (tree.whole n) k) e)).items (bind_items xs f (on_source (bindings_with deeper (tree.whole n) k) e)).ending state
    ≡ reduced (λ x. update (bound (value_of n (value_in x)) e) k) xs f state
unfolding on_source on_state
reduced-bound deeper k n e update [] f state = refl
reduced-bound deeper k n e update (x ∷ xs) f state =
    next-same state (update (bound (value_of n (value_in x)) e) k state)
    (reduced (on_state update k) (bind_items xs f (on_source (bindings_with deeper (tree.whole n) k) e)).items (bind_items xs f (on_source (bindings_with deeper (tree.whole n) k) e)).ending)
    (reduced (λ y. update (bound (value_of n (value_in y)) e) k) xs f) (λ y. reduced-bound deeper k n e update xs f y)

-- a fold over all outputs of its source, from a state that is the last value of a list
pub fold_all : (p : Context) (inputs : Run Value) (level : ℕ) (t : Tree) (n : Name) (u : Tree) (xs : List Val) (state v : Value) (x : Item) → state_in xs ≡ plain state → x ≡ plain v
    → fold_run p inputs level t n u state v ≡ folded p inputs level n u xs (then_run (bind (run p inputs level t x) one) none)
fold_all p inputs level t n u xs state v x h is =
    let source = run p inputs level t (plain v) in
    reduced-bound (below p.depth) level n (scope_env inputs p.scope.now) (meaning p.depth u) source.items source.ending (plain state)
    ∙ ap (reduced (turn p inputs level n u) source.items source.ending) (sym h)
    ∙ ap (folded p inputs level n u xs) (sym (whole source)) ∙ ap (λ y. folded p inputs level n u xs (then_run (bind (run p inputs level t y) one) none)) (sym is)

-- ---- a fold of one step

one_step : (step : Value → Item → Run Item) (xs : List Item) (s : Value) (state : Item) → map value_in xs ≡ s ∷ [] → reduced (λ x. step (value_in x)) xs Done state ≡ next_state state (step s state) one
one_step step [] s state h = let c = ap length h in absurd (omega (arith, c))
one_step step (y ∷ []) s state h =
    let first : value_in y ≡ s = cc h in
    next-same state (step (value_in y) state) (reduced (λ x. step (value_in x)) [] Done) one (λ z. refl) ∙ ap (λ w. next_state state (step w state) one) first
one_step step (y ∷ z ∷ zs) s state h = let c = ap length h in absurd (omega (arith, c))

pub single_fold : (deeper : Means) (k : ℕ) (n : Name) (e : Env) (update : Env → ℕ → Item → Run Item) (xs : List Item) (f : Ending) (s : Value) (state : Item)
    → gathered (record { items = xs; ending = f }) ≡ one (plain (array (items_of (s ∷ []))))
    → reduced (on_state update k) (bind_items xs f (on_source (bindings_with deeper (tree.whole n) k) e)).items (bind_items xs f (on_source (bindings_with deeper (tree.whole n) k) e)).ending state
    ≡ next_state state (update (bound (value_of n s) e) k state) one
single_fold deeper k n e update xs f s state g =
    let is = gathered_same xs f (s ∷ []) g in
    let step : Value → Item → Run Item = λ w. update (bound (value_of n w) e) k in
    reduced-bound deeper k n e update xs f state ∙ ap (λ h. reduced (λ x. step (value_in x)) xs h state) is.1 ∙ one_step step xs s state is.0

-- ---- a step of a fold sees the value of an item alone

module _ (p : Context) (inputs : Run Value) (level : ℕ) (n : Name) (t : Tree) where
  step-same : (xs : List Val) (x : Item) (v : Value) → value_in x ≡ v → (q : Run Item) → folded p inputs level n t xs (then_run (one x) q) ≡ folded p inputs level n t xs (then_run (one (plain v)) q)
  step-same xs x v h q =
      ap (λ w. next_state (state_in xs) (meaning p.depth t (bound (value_of n w) (scope_env inputs p.scope.now)) level (state_in xs)) (reduced (turn p inputs level n t) q.items q.ending)) h

  pub fold_value : {A : Type 0} (a : Result A Stop) (xs ys : List Val) (x : Item) (v : Value) → value_in x ≡ v → Gathers (folded p inputs level n t) a xs ys (one (plain v)) → Gathers (folded p inputs level n t) a xs ys (one x)
  fold_value (Ok d) xs ys x v h g = λ q. step-same xs x v h q ∙ g q
  fold_value (Err s) xs ys x v h g = λ q. subst (Ends s) (sym (step-same xs x v h q)) (g q)
