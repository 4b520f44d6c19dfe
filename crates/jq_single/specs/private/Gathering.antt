-- What the outputs of a filter add to a list.
use Rattle.std.specs.Prelude.{◌≡◌, ℕ, pos, List, [], ◌∷◌, ◌++◌, map, reverse, Some, None, Result, Ok, Err}
use Rattle.jv_data.specs.Value.{Value, null, array, items_of}
use Rattle.jv_data.specs.Text.{text_of}
use Rattle.jv_data.specs.View.{view}
use Rattle.jv_data.specs.declared.values.Val.{Val}
use Rattle.jq_ast.specs.Named.{named}
use Rattle.jq_tree.specs.Tree.{Name, Tree, Trees, reduce, whole}
use Rattle.jq_meaning.specs.machine.Operations.{path_item}
use Rattle.jq_meaning.specs.Builtins.{Builtin, numbers_up_to}
use Rattle.jq_meaning.specs.Continuations.{on_source, on_state, on_target}
use Rattle.jq_meaning.specs.Env.{bound, value_of}
use Rattle.jq_meaning.specs.Folds.{next_state, reduced}
use Rattle.jq_meaning.specs.Meaning.{below, bindings_with, meaning}
use Rattle.jq_meaning.specs.Runs.{Item, plain, located, paths_in, value_in, Done, Run, none, one, go_on, then_run, bind, gathered}
use Rattle.jq_meaning.specs.Steps.{each_part}
use Rattle.jq_state.specs.Items.{item_of}
use Rattle.jq_state.specs.declared.items.Item as items
use Rattle.jq_single.specs.Single.{Comes, Ends}
use Rattle.jq_single.specs.private.Parts.{ChangesTo, builtin_in, run}
use Rattle.jq_single.specs.private.Scopes.{scope_env}
use Rattle.jq_single.specs.declared.contexts.Context.{Context}
use Rattle.jq_single.specs.declared.gathering.Numbers.{Numbers}
use Rattle.jq_single.specs.declared.gathering.Led.{Led}
use Rattle.jq_single.specs.declared.gathering.Led.TheVariants as lead
use Rattle.jq_single.specs.declared.gathering.Supply.{Supply}
use Rattle.jq_single.specs.declared.gathering.Supply.TheVariants as supply
use Rattle.jq_single.specs.declared.rests.Rest.{Rest}
use Rattle.jq_single.specs.declared.rests.Rest.TheVariants as rest
use Rattle.jq_single.specs.declared.rests.Step.{Step}
use Rattle.jq_single.specs.declared.rests.Step.TheVariants as step
use Rattle.jq_single.specs.declared.scopes.Scope.{Scope}
use Rattle.jq_single.specs.declared.stops.Stop.{Stop}

-- Where a step leads to.
abbrev pub step_run : Step → Item → Run Item
step_run (step.At key guarded) x = on_target guarded (view key.now) x
step_run (step.Parts guarded) x = each_part guarded x
step_run step.Path x = path_item x

-- The rest of the filter, applied to an output.
abbrev pub rest_run : Run Value → (level : ℕ) → Rest → Item → Run Item
rest_run inputs level (rest.End most) x = one x
rest_run inputs level (rest.Then' t s d q later) x = bind (meaning d (named t.now) (scope_env inputs s.now) level x) (rest_run inputs level later)
rest_run inputs level (rest.Bind' n t s d y q later) x =
    bind (meaning d (named t.now) (bound (value_of (text_of n.now) (value_in x)) (scope_env inputs s.now)) level (item_of y.now)) (rest_run inputs level later)
rest_run inputs level (rest.Step' s q later) x = bind (step_run s.now x) (rest_run inputs level later)
rest_run inputs level (rest.Fold n t p) x = one x

-- The last of some values, or v if there is none; a fold keeps its state there.
abbrev pub last_or : Value → List Val → Value
last_or v [] = v
last_or v (x ∷ xs) = last_or (view x) xs

abbrev pub state_in : List Val → Item
state_in xs = plain (last_or null xs)

-- A step of a fold whose variable is bound to the value of an item.
abbrev pub turn : Context → Run Value → (level : ℕ) → Name → Tree → Item → Item → Run Item
turn p inputs level n t x state = meaning p.depth t (bound (value_of n (value_in x)) (scope_env inputs p.scope.now)) level state

-- The result of a fold over a run, if the last value of the list is the state.
abbrev pub folded : Context → Run Value → (level : ℕ) → Name → Tree → List Val → Run Item → Run Item
folded p inputs level n t xs r = reduced (turn p inputs level n t) r.items r.ending (state_in xs)

-- The result for the values of a list followed by those of a run: an array of them all, or the last state of a fold.
abbrev pub made : Run Value → (level : ℕ) → Rest → List Val → Run Item → Run Item
made inputs level (rest.End most) xs r = go_on r.ending (one (plain (array (items_of (map view xs ++ map value_in r.items)))))
made inputs level (rest.Then' t s d q later) xs r = made inputs level later xs r
made inputs level (rest.Bind' n t s d y q later) xs r = made inputs level later xs r
made inputs level (rest.Step' s q later) xs r = made inputs level later xs r
made inputs level (rest.Fold n t p) xs r = folded p.now inputs level (text_of n.now) (named t.now) xs r

-- If a run was gathered to its end, a list became another: the first list with this run and any run q after it has the same
-- result as the later list with q. If a run stopped, so does the result, whatever comes after it.
abbrev pub Gathers : {A : Type 0} → (List Val → Run Item → Run Item) → Result A Stop → (before later : List Val) → Run Item → Type 0
Gathers make (Ok done) xs ys r = (q : Run Item) → make xs (then_run r q) ≡ make ys q
Gathers make (Err s) xs ys r = (q : Run Item) → Ends s (make xs (then_run r q))

-- The rest of the filter on the outputs of a known run.
abbrev pub GathersRun : {A : Type 0} → Run Item → Rest → Result A Stop → (before later : List Val) → Type 0
GathersRun r later result xs ys = (inputs : Run Value) (level : ℕ) → Gathers (made inputs level later) result xs ys (bind r (rest_run inputs level later))

-- The same for the outputs of a body on an item, with a variable that is bound to a value in a scope.
abbrev pub GathersBound : {A : Type 0} → Scope → (depth : ℕ) → Name → Tree → Value → Item → Rest → Result A Stop → (before later : List Val) → Type 0
GathersBound outer depth n t v x later result xs ys =
    (inputs : Run Value) (level : ℕ)
    → Gathers (made inputs level later) result xs ys (bind (meaning depth t (bound (value_of n v) (scope_env inputs outer)) level x) (rest_run inputs level later))

-- The same for the outputs of a tree on an item.
abbrev pub GathersOf : {A : Type 0} → Context → Tree → Item → Rest → Result A Stop → (before later : List Val) → Type 0
GathersOf p t x later result xs ys =
    (inputs : Run Value) (level : ℕ) → Gathers (made inputs level later) result xs ys (bind (run p inputs level t x) (rest_run inputs level later))

-- The same for where a step leads to from these outputs.
abbrev pub GathersStep : {A : Type 0} → Context → Tree → Item → Step → Rest → Result A Stop → (before later : List Val) → Type 0
GathersStep p t x s later result xs ys =
    (inputs : Run Value) (level : ℕ) → Gathers (made inputs level later) result xs ys (bind (run p inputs level t x) (λ y. bind (step_run s y) (rest_run inputs level later)))

-- The same for the paths of a tree into a value.
abbrev pub GathersPaths : {A : Type 0} → Context → Tree → Value → Rest → Result A Stop → (before later : List Val) → Type 0
GathersPaths p t v later result xs ys =
    (inputs : Run Value) (level : ℕ) → Gathers (made inputs level later) result xs ys (bind (paths_in (run p inputs level t (located v []))) (rest_run inputs level later))

-- The same for a name of the language.
abbrev pub GathersBuiltin : {A : Type 0} → Context → Builtin → Trees → Item → Rest → Result A Stop → (before later : List Val) → Type 0
GathersBuiltin p b ts x later result xs ys =
    (inputs : Run Value) (level : ℕ) → Gathers (made inputs level later) result xs ys (bind (builtin_in p inputs level b ts x) (rest_run inputs level later))

-- items, the last one first
abbrev pub given_of : List items.Item → Run Item
given_of xs = record { items = reverse (map item_of xs); ending = Done }

-- the whole numbers from a first one on, if there is one
abbrev pub numbers_from : Numbers → Run Item
numbers_from ns = elim ns.next [ None ↦ none | Some n ↦ numbers_up_to n ns.end (pos 1) ]

-- the items of a supply
abbrev pub supplied : Supply → Run Item
supplied (supply.Items xs) = given_of xs.items
supplied (supply.Numbers ns) = numbers_from ns

-- the outputs that a step leads to
abbrev pub led : Led → Run Item
led (lead.One x) = one (item_of x)
led (lead.Several s) = supplied s

-- ---- folds

-- All outputs of a tree on a value.
abbrev pub GathersAll : {A : Type 0} → Context → Tree → Value → Result A Stop → (values : List Val) → Type 0
GathersAll p t v a xs = (inputs : Run Value) (level : ℕ) → Comes (λ done. one (plain (array (items_of (map view xs))))) a (gathered (run p inputs level t (plain v)))

-- A fold goes on with the next state, or the update stopped.
abbrev pub GoesOn : {A : Type 0} → Result A Stop → (later : Run Item) → Run Item → Type 0
GoesOn a q r = Comes (λ done. q) a r

-- The next state of an update, whose variable is bound to a value, takes the place of the state, whatever is done with it.
abbrev pub Turns : {A : Type 0} → Context → Name → Tree → (single : Value) → (before later : Value) → Result A Stop → Type 0
Turns p n t s v w result =
    (inputs : Run Value) (level : ℕ) (go : Item → Run Item) → GoesOn result (go (plain w)) (next_state (plain v) (turn p inputs level n t (plain s) (plain v)) go)

-- The same where the state is the last value of a list.
abbrev pub GathersTurn : {A : Type 0} → Context → Name → Tree → Value → Result A Stop → (before later : List Val) → Type 0
GathersTurn p n t v result xs ys = (inputs : Run Value) (level : ℕ) → Gathers (folded p inputs level n t) result xs ys (one (plain v))

-- The fold of an update over the outputs of a source, from a known state.
abbrev pub fold_run : Context → Run Value → (level : ℕ) → (source : Tree) → Name → (update : Tree) → (state v : Value) → Run Item
fold_run p inputs level t n u state v =
    let sources = bind (run p inputs level t (plain v)) (on_source (bindings_with (below p.depth) (whole n) level) (scope_env inputs p.scope.now)) in
    reduced (on_state (meaning p.depth u) level) sources.items sources.ending (plain state)

-- The result of a fold from a start takes the place of the input.
abbrev pub FoldsAs : {A : Type 0} → Context → (source : Tree) → Name → (start update : Tree) → (before later : Value) → Result A Stop → Type 0
FoldsAs p t n start u v w result = ChangesTo p (reduce t (whole n) start u) v w result
