-- The law of updates.
use Rattle.std.proofs.Common.{◌≡◌, ◌∙◌, ℕ, zero, suc, List, [], ◌∷◌, map, codes, refl, ap}
use Rattle.jv_data.specs.Value.{Value, null, array, items_of}
use Rattle.jq_natives.specs.PathNatives.{delpaths_native_of}
use Rattle.jq_tree.specs.Tree.{Name, Tree, variable, trees_of, no_trees, more_trees, whole, call}
use Rattle.jq_meaning.specs.Builtins.{builtin_named, builtin_run}
use Rattle.jq_meaning.specs.Continuations.{on_source, on_state}
use Rattle.jq_meaning.specs.Env.{Env, no_callee, bound, value_of, closure, find_callee, find_in_prelude, find_inputs}
use Rattle.jq_meaning.specs.Folds.{next_state, reduced, last_or}
use Rattle.jq_meaning.specs.Meaning.{Means, meaning_with, below, arguments_with, bindings_with}
use Rattle.jq_meaning.specs.Runs.{Item, plain, located, value_in, Ending, Run, none, one, go_on, bind_items, bind, answered, paths_in, path_error}
use Rattle.jq_meaning.proofs.shared.machine.RunLaws.{bind-one, then_run-none}
use Rattle.jq_tree.specs.ModifyBody.{source, turn, remove_paths, removal, finish, modify_body, modify_parameters}
use Rattle.jq_meaning.specs.laws.Updating.{turns, updated, update_run}
use Rattle.jq_meaning.specs.laws.Updates.{UpdatesAreTurns}
use Rattle.jq_meaning.proofs.updating.Forms.{state, Reads, pipe-one, pair-bound, called-none, called-function, go_on-bind}
use Rattle.jq_meaning.proofs.updating.Turns.{Around, turn-run}

-- ---- folds over the values of a variable

after-same : (ys : List Item) (f g : Item → Run Item) → ((y : Item) → f y ≡ g y) → ◌≡◌ {A = Run Item} (elim ys [ [] ↦ path_error | z ∷ zs ↦ f (last_or z zs) ]) (elim ys [ [] ↦ path_error | z ∷ zs ↦ g (last_or z zs) ])
after-same [] f g h = refl
after-same (z ∷ zs) f g h = h (last_or z zs)

next-same : (x : Item) (r : Run Item) (f g : Item → Run Item) → ((y : Item) → f y ≡ g y) → next_state x r f ≡ next_state x r g
next-same (plain v) r f g h = ap (go_on r.ending) (h (last_or (plain null) r.items))
next-same (located v p) r f g h = ap (go_on r.ending) (after-same r.items f g h)

reduced-bound : (deeper : Means) (k : ℕ) (n : Name) (e : Env) (update : Env → ℕ → Item → Run Item) (xs : List Item) (f : Ending) (s : Item)
    → reduced (on_state update k) (bind_items xs f (on_source (bindings_with deeper (whole n) k) e)).items (bind_items xs f (on_source (bindings_with deeper (whole n) k) e)).ending s
    ≡ reduced (λ x. update (bound (value_of n (value_in x)) e) k) xs f s
unfolding on_source on_state
reduced-bound deeper k n e update [] f s = refl
reduced-bound deeper k n e update (x ∷ xs) f s =
    next-same s (update (bound (value_of n (value_in x)) e) k s)
    (reduced (on_state update k) (bind_items xs f (on_source (bindings_with deeper (whole n) k) e)).items (bind_items xs f (on_source (bindings_with deeper (whole n) k) e)).ending)
    (reduced (λ y. update (bound (value_of n (value_in y)) e) k) xs f) (λ y. reduced-bound deeper k n e update xs f y)

-- ---- in the bindings of the body

module _ (deeper : Means) (f g : Tree) (caller own : Env) (k : ℕ)
    (paths : find_callee (codes "path") 1 own ≡ no_callee) (gets : find_callee (codes "getpath") 1 own ≡ no_callee) (sets : find_callee (codes "setpath") 2 own ≡ no_callee) (removes : find_callee (codes "delpaths") 1 own ≡ no_callee) where
  abbrev env : Env
  env = bound (closure (codes "u") g caller) (bound (closure (codes "ps") f caller) own)

  abbrev filtered : Value → Run Item
  filtered part = deeper g caller (suc k) (plain part)

  -- path(ps)
  source-run : (v : Value) → meaning_with deeper source env k (plain v) ≡ paths_in (deeper f caller k (located v []))
  source-run v =
      called-none deeper (find_callee (codes "path") 1 env) (trees_of (call (codes "ps") (trees_of []) ∷ [])) env k (plain v)
      (builtin_run (builtin_named (codes "path") 1) (arguments_with deeper (trees_of (call (codes "ps") (trees_of []) ∷ [])) env k) (find_inputs env) (plain v)) paths

  -- delpaths($d)
  remove-run : (x ds : Value) → meaning_with deeper remove_paths (bound (value_of (codes "d") ds) (bound (value_of (codes "x") x) env)) k (plain x) ≡ answered plain (delpaths_native_of x ds)
  remove-run x ds =
      let e' = bound (value_of (codes "d") ds) (bound (value_of (codes "x") x) env) in
      called-none deeper (find_callee (codes "delpaths") 1 e') (trees_of (variable (codes "d") ∷ [])) e' k (plain x)
      (builtin_run (builtin_named (codes "delpaths") 1) (arguments_with deeper (trees_of (variable (codes "d") ∷ [])) e' k) (find_inputs e') (plain x)) removes
      ∙ then_run-none (answered plain (delpaths_native_of x ds))

  -- . as [$x, $d] | $x | delpaths($d)
  finish-run : (s x ds : Value) → Reads s x ds → meaning_with deeper finish env k (plain s) ≡ answered plain (delpaths_native_of x ds)
  finish-run s x ds reads =
      let e' = bound (value_of (codes "d") ds) (bound (value_of (codes "x") x) env) in
      let r = answered plain (delpaths_native_of x ds) in
      pair-bound deeper removal (codes "x") (codes "d") env k s x ds r reads
      (pipe-one deeper (variable (codes "x")) remove_paths e' k (plain s) (plain x) r refl (remove-run x ds))

  around : (p : Value) → Around (bound (value_of (codes "p") p) env) p g caller
  around p = record { gets = gets; sets = sets; path = refl; passed = refl }

  abbrev step : Item → Item → Run Item
  step q = meaning_with deeper turn (bound (value_of (codes "p") (value_in q)) env) k

  abbrev closing : Item → Run Item
  closing = meaning_with deeper finish env k

  -- the turns and the end, from a state
  turns-run : (ps : List Item) (e : Ending) (s x ds : Value) → Reads s x ds → bind (reduced step ps e (plain s)) closing ≡ turns k filtered (map value_in ps) e x ds
  turns-run [] e s x ds reads =
      go_on-bind e (one (plain s)) closing ∙ ap (go_on e) (bind-one (plain s) closing ∙ finish-run s x ds reads)
  turns-run (p ∷ ps) e s x ds reads =
      let r = step p (plain s) in
      go_on-bind r.ending (reduced step ps e (last_or (plain null) r.items)) closing
      ∙ turn-run deeper (bound (value_of (codes "p") (value_in p)) env) k s x ds (value_in p) g caller (around (value_in p)) reads
      (λ y. bind (reduced step ps e y) closing) (turns k filtered (map value_in ps) e)
      (λ y d. turns-run ps e (state y d) y d (record { first = refl; second = refl }))
      (turns-run ps e null null null (record { first = refl; second = refl }))

  pub body-run : (x : Item) → meaning_with deeper modify_body env k x ≡ updated k (paths_in (deeper f caller k (located (value_in x) []))) filtered x
  body-run (plain v) =
      let r = meaning_with deeper source env k (plain v) in
      let st : Value = state v (array (items_of [])) in
      let sources = bind r (on_source (bindings_with deeper (whole (codes "p")) k) env) in
      let goes : Item → Run Item = reduced (on_state (meaning_with deeper turn) k) sources.items sources.ending in
      ap (λ q. bind q closing) (bind-one (plain st) goes ∙ reduced-bound deeper k (codes "p") env (meaning_with deeper turn) r.items r.ending (plain st))
      ∙ ap (λ (q : Run Item). bind (reduced step q.items q.ending (plain st)) closing) (source-run v)
      ∙ turns-run (paths_in (deeper f caller k (located v []))).items (paths_in (deeper f caller k (located v []))).ending st v (array (items_of [])) (record { first = refl; second = refl })
  body-run (located v p) = refl

pub updates-are-turns : UpdatesAreTurns
updates-are-turns depth f g e k x m =
    called-function (below depth) (find_in_prelude (codes "_modify") 2 e) modify_parameters modify_body m.own (more_trees f (more_trees g no_trees)) e k x none m.is.found
    ∙ go depth
  where
    go : (d : ℕ) → below d modify_body (bound (closure (codes "u") g e) (bound (closure (codes "ps") f e) m.own)) k x ≡ update_run d f g e k x
    go zero = refl
    go (suc d) = body-run (below d) f g e m.own k m.is.paths m.is.gets m.is.sets m.is.removes x
