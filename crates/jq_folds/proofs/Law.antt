-- The laws of folds, put together.
use Rattle.std.proofs.Common.{◌≡◌, ℕ, ◌≤◌, List, [], ◌∷◌, inl, inr, refl, sym, ap, ◌∙◌, arith}
use Rattle.jv_data.specs.Value.{Value}
use Rattle.jq_tree.specs.Tree.{Tree}
use Rattle.jq_tree.specs.Inputs.{inputs, count, FoldShape, InputsInPlace}
use Rattle.jq_meaning.specs.Runs.{Item, plain, located, Ending, Done, Raised, Broken, Stopped, Run, none, ended}
use Rattle.jq_meaning.specs.Env.{Env, outermost, bound, value_of, function, closure, label_of, find_inputs}
use Rattle.jq_meaning.specs.Continuations.{on_state}
use Rattle.jq_meaning.specs.Meaning.{meaning}
use Rattle.jq_folds.specs.Pieces.{FoldState, going, stopped, state_of, if_done, stepped, begun, step_from}
use Rattle.jq_folds.specs.Folding.{Fold, fold_at, bindings_of, states_of, outputs_of, steps_of}
use Rattle.jq_folds.specs.laws.Reading.{with_inputs}
use Rattle.jq_folds.specs.laws.States.{states_from, IsValue}
use Rattle.jq_folds.specs.laws.Statements.{joined, IsFolded, FoldsAreFolded, StatesAreValues, NextIsValue}
use Rattle.jq_folds.proofs.Hiding.{callee_with, find_callee-same}
use Rattle.jq_folds.proofs.Moved.{Each}
use Rattle.jq_folds.proofs.Parts.{Placed, parts-found}
use Rattle.jq_folds.proofs.Plain.{IsPlain, AllPlain, reduced-plain, meaning_plain}
use Rattle.jq_folds.proofs.Shape.{takes_apart, at_least}
use Rattle.jq_folds.proofs.Silenced.{pieces_same, parts_same}
use Rattle.jq_folds.proofs.Whole.{whole}

-- ---- the inputs

find_inputs-with : (r : Run Value) (e : Env) → find_inputs (with_inputs r e) ≡ r
find_inputs-with r (outermost i) = refl
find_inputs-with r (bound (value_of n v) e) = find_inputs-with r e
find_inputs-with r (bound (function n ps body) e) = find_inputs-with r e
find_inputs-with r (bound (closure n body own) e) = find_inputs-with r e
find_inputs-with r (bound (label_of n k) e) = find_inputs-with r e

counted-once : (t : Tree) → FoldShape [] t → InputsInPlace t → count [] t ≡ 1
counted-once t s p = go (at_least s) p
  where
    go : 1 ≤ count [] t → InputsInPlace t → count [] t ≡ 1
    go low (inl z) = absurd (omega (arith, low, z))
    go low (inr z) = z.0

-- the fold's bindings with these inputs, and its pieces in bindings without inputs
placed-folded : {t : Tree} {e : Env} → Placed t e → IsFolded t e
placed-folded p =
    record {
      found = fold_at p.fold (with_inputs none p.own);
      parts = parts-found (parts_same none p.parts);
      single = p.single;
      run = λ d k v vs.
          let r : Run Value = record { items = vs; ending = Done } in
          whole d k v vs (parts_same r p.parts)
          (sym (find_callee-same r inputs 0 p.own) ∙ ap (callee_with r) p.outer)
          (find_inputs-with r p.own) p.single
          ∙ ap joined (sym (pieces_same r d k p.scope p.own p.fold p.none_reads (plain v) vs) ∙ pieces_same none d k p.scope p.own p.fold p.none_reads (plain v) vs);
    }

pub folded : FoldsAreFolded
folded t e s i l = placed-folded (takes_apart s e (λ h. l.names) (λ h. absurd (cc)) l.calls (counted-once t s i))

-- ---- states are values

going-plain : (xs : List Item) (e : Ending) → Each IsPlain xs → IsValue (state_of xs e)
going-plain [] e h = tt
going-plain (plain v ∷ []) Done h = tt
going-plain (located v p ∷ []) Done h = h.0
going-plain (x ∷ []) (Raised v) h = tt
going-plain (x ∷ []) (Broken k) h = tt
going-plain (x ∷ []) (Stopped stop) h = tt
going-plain (x ∷ y ∷ xs) e h = tt

if_done-value : (e : Ending) (s : FoldState) → IsValue s → IsValue (if_done e s)
if_done-value Done s h = h
if_done-value (Raised v) s h = tt
if_done-value (Broken k) s h = tt
if_done-value (Stopped stop) s h = tt

stepped-value : (outputs states : Run Item) → AllPlain states → IsValue (stepped outputs states).next
stepped-value outputs states h = if_done-value outputs.ending (state_of states.items states.ending) (going-plain states.items states.ending h)

step-value : (f : Fold) (e : Env) (d k : ℕ) (s : FoldState) (v : Value) → IsValue s → IsValue (step_from (steps_of d e k f) s v).next
unfolding on_state
step-value f e d k (going (plain w)) v h =
    stepped-value (outputs_of d e k f f.extract (plain w) v) (states_of d e k f (plain w) v)
    (reduced-plain (on_state (meaning d f.update) k) (bindings_of d e k f v).items (bindings_of d e k f v).ending (plain w) tt (λ b y. meaning_plain d f.update b k y))
step-value f e d k (going (located w p)) v h = absurd h
step-value f e d k stopped v h = tt

states-values : (f : Fold) (e : Env) (d k : ℕ) (s : FoldState) (vs : List Value) → IsValue s → IsValue (states_from (steps_of d e k f) s vs)
states-values f e d k s [] h = h
states-values f e d k s (v ∷ vs) h = states-values f e d k (step_from (steps_of d e k f) s v).next vs (step-value f e d k s v h)

pub state-values : StatesAreValues
state-values f e d k v vs =
    let r = meaning d f.start e k (plain v) in
    states-values f e d k (begun r).next vs (stepped-value (ended r.ending) r (meaning_plain d f.start e k v))

pub next-value : NextIsValue
next-value f e d k v input = step-value f e d k (going (plain v)) input tt
