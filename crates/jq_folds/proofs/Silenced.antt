-- The pieces of a fold do not depend on the inputs that its bindings have.
use Rattle.std.proofs.Common.{◌≡◌, ℕ, List, Option, Some, None, refl, ap}
use Rattle.jv_data.specs.Value.{Value}
use Rattle.jq_tree.specs.Tree.{Tree}
use Rattle.jq_tree.specs.Names.{Scope}
use Rattle.jq_meaning.specs.Runs.{Item, Run, ended, bind}
use Rattle.jq_meaning.specs.Env.{Env}
use Rattle.jq_meaning.specs.Continuations.{on_state}
use Rattle.jq_meaning.specs.Meaning.{below, meaning}
use Rattle.jq_folds.specs.Pieces.{stepped, pieces}
use Rattle.jq_folds.specs.Folding.{Fold, closing_tree, bindings_of, states_of, outputs_of, closed_by, steps_of, pieces_of}
use Rattle.jq_folds.specs.laws.Reading.{with_inputs}
use Rattle.jq_folds.proofs.Parts.{HasParts, reduce_alone, reduce_piped, foreach_alone, foreach_piped, after_definition, count_option, NoPartReads}
use Rattle.jq_folds.proofs.Moved.{same-reduced, same-each, Kept, MovedEnvs}
use Rattle.jq_folds.proofs.Same.{below_same, bindings_same, meaning_same}

module _ (r : Run Value) (d k : ℕ) (s : Scope) (e : Env) (f : Fold) (q : NoPartReads s f e) where
  moved : (v : Value) → MovedEnvs r s (bindings_of d e k f v) (bindings_of d (with_inputs r e) k f v)
  moved v = bindings_same r (below d) (below_same r d) f.pattern s e k v q.pattern q.hides q.silent

  pub states_same : (y : Item) (v : Value) → states_of d e k f y v ≡ states_of d (with_inputs r e) k f y v
  unfolding on_state
  states_same y v =
      same-reduced (with_inputs r) (Kept s) (bindings_of d e k f v) (bindings_of d (with_inputs r e) k f v) (on_state (meaning d f.update) k) (on_state (meaning d f.update) k) (moved v)
      (λ b m z. meaning_same r d f.update s b k z q.update m.0 m.1) y

  closing_same : (o : Option Tree) → count_option s o ≡ 0 → (y : Item) → meaning d (closing_tree o) e k y ≡ meaning d (closing_tree o) (with_inputs r e) k y
  closing_same None c y = refl
  closing_same (Some g) c y = meaning_same r d g s e k y c q.hides q.silent

  pub outputs_same : (o : Option Tree) → count_option s o ≡ 0 → (y : Item) (v : Value) → outputs_of d e k f o y v ≡ outputs_of d (with_inputs r e) k f o y v
  unfolding on_state
  outputs_same None c y v = ap (λ (t : Run Item). ended t.ending) (states_same y v)
  outputs_same (Some extract) c y v =
      λ i. bind
      (same-each (with_inputs r) (Kept s) (bindings_of d e k f v) (bindings_of d (with_inputs r e) k f v) (on_state (meaning d f.update) k) (on_state (meaning d extract) k) (on_state (meaning d f.update) k) (on_state (meaning d extract) k) (moved v)
      (λ b m z. meaning_same r d f.update s b k z q.update m.0 m.1) (λ b m z. meaning_same r d extract s b k z c m.0 m.1) y i)
      (λ z. closing_same f.closing q.closing z i)

  closed_same : (o : Option Tree) (y : Item) → closed_by d e k f o y ≡ closed_by d (with_inputs r e) k f o y
  closed_same None y = closing_same f.closing q.closing y
  closed_same (Some extract) y = refl

  pub steps_same : steps_of d e k f ≡ steps_of d (with_inputs r e) k f
  steps_same = λ i. record { step = λ y v. stepped (outputs_same f.extract q.extract y v i) (states_same y v i); close = λ y. closed_same f.extract y i }

  pub pieces_same : (x : Item) (vs : List Value) → pieces_of d e k f x vs ≡ pieces_of d (with_inputs r e) k f x vs
  pieces_same x vs = λ i. pieces (steps_same i) (meaning_same r d f.start s e k x q.start q.hides q.silent i) vs

-- The same filter has the same parts in bindings with other inputs.
pub parts_same : {t : Tree} {e own : Env} {f : Fold} (r : Run Value) → HasParts t e f own → HasParts t (with_inputs r e) f (with_inputs r own)
parts_same r reduce_alone = reduce_alone
parts_same r reduce_piped = reduce_piped
parts_same r foreach_alone = foreach_alone
parts_same r foreach_piped = foreach_piped
parts_same r (after_definition q) = after_definition (parts_same r q)
