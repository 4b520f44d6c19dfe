-- The run of a filter that folds its inputs is its pieces, one after the other.
use Rattle.std.proofs.Common.{◌≡◌, ℕ, List, [], ◌∷◌, true, Option, Some, None, refl, sym, ap, ◌∙◌}
use Rattle.std.specs.Prelude.{map}
use Rattle.jv_data.specs.Value.{Value}
use Rattle.jq_tree.specs.Tree.{Tree, no_trees, Pattern}
use Rattle.jq_tree.specs.Tree as tree
use Rattle.jq_tree.specs.Inputs.{inputs, at_most_one}
use Rattle.jq_meaning.specs.Runs.{Item, plain, Ending, Done, Raised, Broken, Stopped, Run, ended, then_run, bind, bind_items}
use Rattle.jq_meaning.specs.Env.{Env, Callee, no_callee, find_callee, find_inputs}
use Rattle.jq_meaning.specs.Folds.{reduced, each_of}
use Rattle.jq_meaning.specs.Builtins.{builtin_named, builtin_run, plain_items}
use Rattle.jq_meaning.specs.Continuations.{on_source, on_state}
use Rattle.jq_meaning.specs.Meaning.{below, meaning, called, arguments_with, bindings_with}
use Rattle.jq_folds.specs.Pieces.{going, begun, Steps, pieces_from}
use Rattle.jq_folds.specs.laws.Statements.{joined}
use Rattle.jq_folds.specs.Folding.{Fold, a_reduce, a_foreach, closing_tree, bindings_of, states_of, steps_of, pieces_of}
use Rattle.jq_folds.proofs.Parts.{HasParts, reduce_alone, reduce_piped, foreach_alone, foreach_piped, after_definition}
use Rattle.jq_meaning.proofs.shared.machine.RunLaws.{then_run-none, bind-one, bind-one_right, bind-then_run, bind-bind}
use Rattle.jq_folds.proofs.Threading.{OneOrEnd, gives, ends, reduced-one, reduced-then, each-then, bind-done, each-done, step-joined}
use Rattle.jq_folds.proofs.Singles.{single}

joined-one : (r : Run Item) → joined (r ∷ []) ≡ r
joined-one r = go r.ending
  where
    go : (e : Ending) → joined (record { items = r.items; ending = e } ∷ []) ≡ record { items = r.items; ending = e }
    go Done = then_run-none (record { items = r.items; ending = Done })
    go (Raised v) = then_run-none (record { items = r.items; ending = Raised v })
    go (Broken k) = then_run-none (record { items = r.items; ending = Broken k })
    go (Stopped stop) = then_run-none (record { items = r.items; ending = Stopped stop })

-- an ending in front of a run with that ending
ended-first : (e : Ending) → then_run (ended {A = Item} e) (ended e) ≡ ended e
ended-first Done = refl
ended-first (Raised v) = refl
ended-first (Broken k) = refl
ended-first (Stopped stop) = refl

started : (states : Run Item) (g : Item → Run Item) → OneOrEnd states → then_run (ended states.ending) (bind states g) ≡ bind states g
started states g (gives s p) =
    ap (λ (r : Run Item). then_run (ended r.ending) (bind r g)) p ∙ ap (λ (r : Run Item). bind r g) (sym p)
started states g (ends e n p) =
    ap (λ (r : Run Item). then_run (ended r.ending) (bind r g)) p ∙ ended-first e ∙ ap (λ (r : Run Item). bind r g) (sym p)

begun-joined : (f : Steps) (states : Run Item) (vs : List Value) → OneOrEnd states
    → bind states (λ s. joined (pieces_from f (going s) vs)) ≡ joined ((begun states).run ∷ pieces_from f (begun states).next vs)
begun-joined f states vs h = sym (started states (λ s. joined (pieces_from f (going s) vs)) h) ∙ step-joined f (ended states.ending) states vs h (λ e. e)

-- ---- over all inputs

-- the bindings of all inputs
abbrev bindings_from : ℕ → ℕ → Env → Pattern → List Value → Run Env
bindings_from d k e p vs = bind_items (map plain vs) Done (on_source (bindings_with (below d) p k) e)

module _ (d k : ℕ) (e : Env) (p : Pattern) (start update : Tree) where
  reduce-joined : (o : Option Tree) (vs : List Value) (s : Item)
      → bind (reduced (on_state (meaning d update) k) (bindings_from d k e p vs).items (bindings_from d k e p vs).ending s) (meaning d (closing_tree o) e k)
      ≡ joined (pieces_from (steps_of d e k (a_reduce p start update o)) (going s) vs)
  unfolding on_source
  reduce-joined o [] s = bind-one s (meaning d (closing_tree o) e k) ∙ sym (joined-one (meaning d (closing_tree o) e k s))
  reduce-joined o (v ∷ vs) s =
      let u = on_state (meaning d update) k in
      let f = a_reduce p start update o in
      let bs : Run Env = bindings_of d e k f v in
      let later : Run Env = bindings_from d k e p vs in
      let states : Run Item = states_of d e k f s v in
      ap (λ (r : Run Item). bind r (meaning d (closing_tree o) e k)) (reduced-then u bs.items bs.ending later s)
      ∙ bind-bind states (reduced u later.items later.ending) (meaning d (closing_tree o) e k)
      ∙ ap (bind states) (λ i y. reduce-joined o vs y i)
      ∙ begun-joined (steps_of d e k f) states vs (reduced-one u bs.items bs.ending s)

  foreach-joined : (extract : Tree) (o : Option Tree) (vs : List Value) (s : Item)
      → bind (each_of (on_state (meaning d update) k) (on_state (meaning d extract) k) (bindings_from d k e p vs).items (bindings_from d k e p vs).ending s) (meaning d (closing_tree o) e k)
      ≡ joined (pieces_from (steps_of d e k (a_foreach p start update extract o)) (going s) vs)
  unfolding on_source
  foreach-joined extract o [] s = refl
  foreach-joined extract o (v ∷ vs) s =
      let u = on_state (meaning d update) k in
      let x = on_state (meaning d extract) k in
      let f = a_foreach p start update extract o in
      let bs : Run Env = bindings_of d e k f v in
      let later : Run Env = bindings_from d k e p vs in
      let states : Run Item = states_of d e k f s v in
      let each : Run Item = each_of u x bs.items bs.ending s in
      ap (λ (r : Run Item). bind r (meaning d (closing_tree o) e k)) (each-then u x bs.items bs.ending later s)
      ∙ bind-then_run each (bind states (each_of u x later.items later.ending)) (meaning d (closing_tree o) e k)
      ∙ ap (then_run (bind each (meaning d (closing_tree o) e k)))
      (bind-bind states (each_of u x later.items later.ending) (meaning d (closing_tree o) e k) ∙ ap (bind states) (λ i y. foreach-joined extract o vs y i))
      ∙ step-joined (steps_of d e k f) (bind each (meaning d (closing_tree o) e k)) states vs (reduced-one u bs.items bs.ending s)
      (λ h. each-done u x bs.items bs.ending s (bind-done each (meaning d (closing_tree o) e k) h))

-- ---- the source

-- `inputs` gives all inputs
source-run : (d k : ℕ) (e : Env) (v : Value) (vs : List Value) → find_callee inputs 0 e ≡ no_callee → find_inputs e ≡ record { items = vs; ending = Done }
    → meaning d (tree.call inputs no_trees) e k (plain v) ≡ record { items = map plain vs; ending = Done }
source-run d k e v vs c i =
    ap (λ (f : Callee). called (below d) f no_trees e k (plain v) (builtin_run (builtin_named inputs 0) (arguments_with (below d) no_trees e k) (find_inputs e) (plain v))) c
    ∙ ap plain_items i

-- ---- the whole filter

module _ (d k : ℕ) (v : Value) (vs : List Value) where
  pub whole : {t : Tree} {e own : Env} {f : Fold} → HasParts t e f own → find_callee inputs 0 own ≡ no_callee → find_inputs own ≡ record { items = vs; ending = Done }
      → at_most_one f.start ≡ true → meaning d t e k (plain v) ≡ joined (pieces_of d own k f (plain v) vs)
  whole (reduce_alone {e = e} {p = p} {start = start} {update = update}) c i h =
      let sources : Run Env → Run Item = λ bs. bind (meaning d start e k (plain v)) (reduced (on_state (meaning d update) k) bs.items bs.ending) in
      let later : Run Env = bindings_from d k e p vs in
      ap (λ (r : Run Item). sources (bind r (on_source (bindings_with (below d) p k) e))) (source-run d k e v vs c i)
      ∙ sym (bind-one_right (sources later))
      ∙ bind-bind (meaning d start e k (plain v)) (reduced (on_state (meaning d update) k) later.items later.ending) (meaning d tree.identity e k)
      ∙ ap (bind (meaning d start e k (plain v))) (λ j y. reduce-joined d k e p start update None vs y j)
      ∙ begun-joined (steps_of d e k (a_reduce p start update None)) (meaning d start e k (plain v)) vs (single (below d) e k start v h)
  whole (reduce_piped {e = e} {p = p} {start = start} {update = update} {g = g}) c i h =
      let sources : Run Env → Run Item = λ bs. bind (meaning d start e k (plain v)) (reduced (on_state (meaning d update) k) bs.items bs.ending) in
      let later : Run Env = bindings_from d k e p vs in
      ap (λ (r : Run Item). bind (sources (bind r (on_source (bindings_with (below d) p k) e))) (meaning d g e k)) (source-run d k e v vs c i)
      ∙ bind-bind (meaning d start e k (plain v)) (reduced (on_state (meaning d update) k) later.items later.ending) (meaning d g e k)
      ∙ ap (bind (meaning d start e k (plain v))) (λ j y. reduce-joined d k e p start update (Some g) vs y j)
      ∙ begun-joined (steps_of d e k (a_reduce p start update (Some g))) (meaning d start e k (plain v)) vs (single (below d) e k start v h)
  whole (foreach_alone {e = e} {p = p} {start = start} {update = update} {extract = extract}) c i h =
      let sources : Run Env → Run Item = λ bs. bind (meaning d start e k (plain v)) (each_of (on_state (meaning d update) k) (on_state (meaning d extract) k) bs.items bs.ending) in
      let later : Run Env = bindings_from d k e p vs in
      ap (λ (r : Run Item). sources (bind r (on_source (bindings_with (below d) p k) e))) (source-run d k e v vs c i)
      ∙ sym (bind-one_right (sources later))
      ∙ bind-bind (meaning d start e k (plain v)) (each_of (on_state (meaning d update) k) (on_state (meaning d extract) k) later.items later.ending) (meaning d tree.identity e k)
      ∙ ap (bind (meaning d start e k (plain v))) (λ j y. foreach-joined d k e p start update extract None vs y j)
      ∙ begun-joined (steps_of d e k (a_foreach p start update extract None)) (meaning d start e k (plain v)) vs (single (below d) e k start v h)
  whole (foreach_piped {e = e} {p = p} {start = start} {update = update} {extract = extract} {g = g}) c i h =
      let sources : Run Env → Run Item = λ bs. bind (meaning d start e k (plain v)) (each_of (on_state (meaning d update) k) (on_state (meaning d extract) k) bs.items bs.ending) in
      let later : Run Env = bindings_from d k e p vs in
      ap (λ (r : Run Item). bind (sources (bind r (on_source (bindings_with (below d) p k) e))) (meaning d g e k)) (source-run d k e v vs c i)
      ∙ bind-bind (meaning d start e k (plain v)) (each_of (on_state (meaning d update) k) (on_state (meaning d extract) k) later.items later.ending) (meaning d g e k)
      ∙ ap (bind (meaning d start e k (plain v))) (λ j y. foreach-joined d k e p start update extract (Some g) vs y j)
      ∙ begun-joined (steps_of d e k (a_foreach p start update extract (Some g))) (meaning d start e k (plain v)) vs (single (below d) e k start v h)
  whole (after_definition q) c i h = whole q c i h
