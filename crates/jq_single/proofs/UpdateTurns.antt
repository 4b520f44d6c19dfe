-- What is claimed of updates, and of the first output of a run.
use Rattle.std.proofs.Common.{◌≡◌, ◌∙◌, List, [], ◌∷◌, Result, Ok, Err, ap, ℕ, suc, ◌++◌, map, sym, subst}
use Rattle.jv_data.specs.Value.{Value, array, items_of}
use Rattle.jq_meaning.specs.Runs.{Item, Ending, Done, Run, plain, located, none, one, fail, bind, paths_in}
use Rattle.jq_single.specs.Single.{Changed}
use Rattle.jq_single.specs.private.Parts.{ChangesTo, run}
use Rattle.jq_single.specs.private.Updates.{first_alone}
use Rattle.jq_single.specs.declared.stops.Stop.{Stop}
use Rattle.jv_arith.specs.Arith.{add_of}
use Rattle.jv_data.proofs.shared.Levels.{view-List}
use Rattle.jv_data.specs.Shared.{items_in}
use Rattle.jv_data.specs.View.{view}
use Rattle.jv_data.specs.declared.containers.arrays.Array.{Array}
use Rattle.jv_data.specs.declared.values.Val.{Val}
use Rattle.jv_data.proofs.shared.Items.{values_of-items_of}
use Rattle.jv_value.specs.GetPath.{getpath_of}
use Rattle.jq_ast.specs.Named.{named}
use Rattle.jq_tree.specs.Tree.{Name, Tree, Trees, no_trees, more_trees, trees_of}
use Rattle.jq_tree.specs.WrittenOut.{modify}
use Rattle.std.proofs.Math.Logic.{∥∥₁_elim}
use Rattle.jq_natives.specs.PathNatives.{getpath_native_of}
use Rattle.jq_meaning.specs.Env.{Env, bound, closure, function, value_of, with_arguments}
use Rattle.jv_data.specs.Text.{text_of}
use Rattle.jq_single.specs.private.Scopes.{outside_in, scope_env}
use Rattle.jq_single.specs.declared.contexts.Context.{Context}
use Rattle.jq_single.specs.declared.scopes.Scope.{Scope}
use Rattle.jq_single.specs.declared.scopes.Scope.TheVariants as scope
use Rattle.jq_meaning.specs.Meaning.{meaning}
use Rattle.jq_meaning.specs.updates.Known.{HasModify}
use Rattle.jq_meaning.specs.laws.Updates.{ModifyStays, UpdatesAreTurns}
use Rattle.jq_meaning.specs.laws.Updating.{turns, updated, update_run}
use Rattle.jq_single.specs.private.Gathering.{Gathers, made}
use Rattle.jq_single.proofs.shared.RunSets.{run_set}
use Rattle.jq_single.proofs.Binding.{gathered_list, gathered_same}
use Rattle.jq_single.specs.declared.rests.Rest.TheVariants as rest
use Rattle.jq_single.specs.declared.stops.Stop.TheVariants as stop
use Rattle.jv_data.specs.declared.values.Val as val

-- the only output is the first one
pub changed-first : {A : Type 0} (a : Result A Stop) (w : Value) (r : Run Item) → Changed a w r → Changed a w (first_alone r)
changed-first (Ok d) w r h = ap first_alone h
changed-first (Err stop.Nothing) w r h = ap first_alone h
changed-first (Err (stop.Raised e)) w r h = ap first_alone h
changed-first (Err stop.NoMemory) w r h = tt
changed-first (Err stop.Unknown) w r h = tt

-- ---- the call of `_modify`

two_calls_deep : (depth d : ℕ) (f g : Tree) (e : Env) (k : ℕ) (v : Value) → depth ≡ suc (suc d)
    → update_run depth f g e k (plain v) ≡ updated k (paths_in (meaning d f e k (located v []))) (λ w. meaning d g e (suc k) (plain w)) (plain v)
two_calls_deep depth d f g e k v h = ap (λ n. update_run n f g e k (plain v)) h

-- the arguments of a call leave `_modify` alone
modify_in_call : ModifyStays → (ps : List Name) (ts : Trees) (caller own : Env) → HasModify own → HasModify (with_arguments ps ts caller own)
modify_in_call stays [] ts caller own h = h
modify_in_call stays (p ∷ ps) no_trees caller own h = h
modify_in_call stays (p ∷ ps) (more_trees t ts) caller own h = modify_in_call stays ps ts caller (bound (closure p t caller) own) (stays (closure p t caller) own h)

-- so does every scope
pub modify_outside : ModifyStays → (inputs : Run Value) (s : Scope) → HasModify (scope_env inputs (scope.Run (outside_in s))) → HasModify (scope_env inputs s)
modify_outside stays inputs (scope.Run o) h = h
modify_outside stays inputs (scope.Value' p outer name v) h = stays (value_of (text_of name.now) (view v.now)) (scope_env inputs outer) (modify_outside stays inputs outer h)
modify_outside stays inputs (scope.Function' p outer f) h =
    stays (function (text_of f.now.name) (map text_of f.now.parameters.items) (named f.now.body)) (scope_env inputs outer) (modify_outside stays inputs outer h)
modify_outside stays inputs (scope.Call' p own ps ts q caller) h =
    modify_in_call stays (map text_of ps.now) (trees_of (map named ts.now)) (scope_env inputs caller) (scope_env inputs own) (modify_outside stays inputs own h)

-- ---- the paths

-- a path that is an array of keys
pub getpath_keys : (v : Value) (path : Val) (a : Array Val) (ks : List Val) → path ≡ val.List a → ks ≡ items_in a → getpath_native_of v (view path) ≡ getpath_of v (map view ks)
getpath_keys v path a ks e f = ap (getpath_native_of v) (ap view e ∙ view-List a) ∙ ap (getpath_of v) (values_of-items_of (map view (items_in a)) ∙ ap (map view) (sym f))

-- ---- the list of the paths to delete

-- a path is added to the list
pub listed_more : (ds es : List Value) (p : Value) → es ≡ ds ++ p ∷ [] → add_of (array (items_of ds)) (array (items_of (p ∷ []))) ≡ Ok (array (items_of es))
listed_more ds es p h = ap (λ vs. Ok (array (items_of (vs ++ p ∷ [])))) (values_of-items_of ds) ∙ ap (λ vs. Ok (array (items_of vs))) (sym h)

pub changed-prop : {A : Type 0} (a : Result A Stop) (w : Value) (r : Run Item) → IsProp (Changed a w r)
changed-prop (Ok d) w r = run_set r (one (plain w))
changed-prop (Err stop.Nothing) w r = run_set r none
changed-prop (Err (stop.Raised e)) w r = run_set r (fail (view e))
changed-prop (Err stop.NoMemory) w r = hlevel
changed-prop (Err stop.Unknown) w r = hlevel

-- an update is the turns at the paths that were listed, two calls deep
pub takes_turns : {A B : Type 0} → UpdatesAreTurns → (p : Context) (d : ℕ) (t f g : Tree) (v : Value) (most : ℕ) (done : B) (xs ys : List Val) → t ≡ modify f g → p.depth ≡ suc (suc d) → xs ≡ []
    → ((inputs : Run Value) → ∥ HasModify (scope_env inputs p.scope.now) ∥₁)
    → ((inputs : Run Value) (level : ℕ) → Gathers (made inputs level (rest.End most)) (Ok done) xs ys (bind (paths_in (meaning d f (scope_env inputs p.scope.now) level (located v []))) one))
    → (a : Result A Stop) (w : Value)
    → ((inputs : Run Value) (level : ℕ) → Changed a w (turns level (λ part. meaning d g (scope_env inputs p.scope.now) (suc level) (plain part)) (map view ys) Done v (array (items_of []))))
    → ChangesTo p t v w a
takes_turns law p d t f g v most done xs ys e h empty has listed a w k = λ inputs level.
    let env = scope_env inputs p.scope.now in
    let goes : List Value → Ending → Run Item = λ vs f. turns level (λ part. meaning d g env (suc level) (plain part)) vs f v (array (items_of [])) in
    let r = paths_in (meaning d f env level (located v [])) in
    let found = gathered_same r.items r.ending (map view ys) (gathered_list inputs level most done xs ys r empty (listed inputs level)) in
    ∥∥₁_elim (has inputs) (changed-prop a w _)
    (λ m. subst (Changed a w)
    (sym (ap (λ u. run p inputs level u (plain v)) e ∙ law p.depth f g env level (plain v) m ∙ two_calls_deep p.depth d f g env level v h ∙ ap (λ vs. goes vs r.ending) found.0 ∙ ap (goes (map view ys)) found.1)) (k inputs level))
