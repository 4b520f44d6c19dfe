-- How the pieces of a fold end.
use Rattle.std.proofs.Common.{◌≡◌, ℕ, List, [], ◌∷◌, Option, Some, None, refl, sym, ap, ◌∙◌, subst}
use Rattle.jv_data.specs.Value.{Value}
use Rattle.jq_tree.specs.Tree.{Tree}
use Rattle.jq_meaning.specs.Runs.{Item, plain, Ending, Done, Raised, Broken, Stopped, Run, ended}
use Rattle.jq_meaning.specs.Env.{Env}
use Rattle.jq_meaning.specs.Continuations.{on_state}
use Rattle.jq_meaning.specs.Meaning.{below, meaning}
use Rattle.jq_folds.specs.Pieces.{FoldState, going, stopped, if_done, state_of, stepped, begun, Steps, pieces_from, pieces}
use Rattle.jq_folds.specs.Folding.{Fold, closing_tree, bindings_of, outputs_of, states_of, steps_of}
use Rattle.jq_folds.specs.laws.States.{LeadsTo, AllNone, EndsOnce}
use Rattle.jq_folds.specs.laws.Statements.{BeginLeads, StepLeads, PiecesEndOnce}
use Rattle.jq_folds.proofs.Singles.{single}
use Rattle.jq_folds.proofs.Threading.{OneOrEnd, gives, ends, not_done, reduced-one, each-done, bind-done, Kind, done, other, kind_of, NotDone}

-- ---- a piece and the state after it

leads-not : (e : Ending) (s : FoldState) → NotDone e → LeadsTo e (if_done e s)
leads-not Done s n = absurd n
leads-not (Raised v) s n = tt
leads-not (Broken k) s n = tt
leads-not (Stopped stop) s n = tt

leads-done : (e : Ending) (s : Item) → e ≡ Done → LeadsTo e (if_done e (going s))
leads-done Done s p = tt
leads-done (Raised v) s p = absurd (cc)
leads-done (Broken k) s p = absurd (cc)
leads-done (Stopped stop) s p = absurd (cc)

stepped-leads : (outputs states : Run Item) → OneOrEnd states → (outputs.ending ≡ Done → states.ending ≡ Done) → LeadsTo outputs.ending (stepped outputs states).next
stepped-leads outputs states (gives s p) i =
    subst (λ (r : Run Item). LeadsTo outputs.ending (if_done outputs.ending (state_of r.items r.ending))) (sym p) (go (kind_of outputs.ending))
  where
    go : Kind outputs.ending → LeadsTo outputs.ending (if_done outputs.ending (going s))
    go (done d) = leads-done outputs.ending s d
    go (other n) = leads-not outputs.ending (going s) n
stepped-leads outputs states (ends e n p) i = go (kind_of outputs.ending)
  where
    go : Kind outputs.ending → LeadsTo outputs.ending (stepped outputs states).next
    go (done d) = absurd (not_done e n (sym (ap (λ (r : Run Item). r.ending) p) ∙ i d))
    go (other m) = leads-not outputs.ending (state_of states.items states.ending) m

pub begin-leads : BeginLeads
begin-leads f e d k v h = let r = meaning d f.start e k (plain v) in stepped-leads (ended r.ending) r (single (below d) e k f.start v h) (λ p. p)

ends-with : (f : Fold) (e : Env) (d k : ℕ) (o : Option Tree) (s : Item) (v : Value) → (outputs_of d e k f o s v).ending ≡ Done → (states_of d e k f s v).ending ≡ Done
ends-with f e d k None s v h = h
ends-with f e d k (Some extract) s v h =
    let u = on_state (meaning d f.update) k in
    let x = on_state (meaning d extract) k in
    let bs = bindings_of d e k f v in
    each-done u x bs.items bs.ending s (bind-done _ (meaning d (closing_tree f.closing) e k) h)

pub step-leads : StepLeads
step-leads f e d k s v =
    let bs = bindings_of d e k f v in
    stepped-leads (outputs_of d e k f f.extract s v) (states_of d e k f s v) (reduced-one (on_state (meaning d f.update) k) bs.items bs.ending s) (ends-with f e d k f.extract s v)

-- ---- all pieces

stopped-all : (f : Steps) (vs : List Value) → AllNone (pieces_from f stopped vs)
stopped-all f [] = (refl, tt)
stopped-all f (v ∷ vs) = (refl, stopped-all f vs)

none-once : (rs : List (Run Item)) → AllNone rs → EndsOnce rs
none-once [] h = tt
none-once (r ∷ rs) h = (λ n. h.1, none-once rs h.1)

-- a piece that does not end with Done stops the fold
Stops : Steps → Type 0
Stops f = (s : Item) (v : Value) (e : Ending) → (f.step s v).run.ending ≡ e → (f.step s v).next ≡ if_done e (f.step s v).next

after : (f : Steps) (e : Ending) (t : FoldState) (vs : List Value) → ¬ (e ≡ Done) → t ≡ if_done e t → AllNone (pieces_from f t vs)
after f Done t vs n p = absurd (n refl)
after f (Raised v) t vs n p = subst (λ u. AllNone (pieces_from f u vs)) (sym p) (stopped-all f vs)
after f (Broken k) t vs n p = subst (λ u. AllNone (pieces_from f u vs)) (sym p) (stopped-all f vs)
after f (Stopped stop) t vs n p = subst (λ u. AllNone (pieces_from f u vs)) (sym p) (stopped-all f vs)

once-from : (f : Steps) → Stops f → (t : FoldState) (vs : List Value) → EndsOnce (pieces_from f t vs)
unfolding Stops
once-from f h (going s) [] = (λ n. tt, tt)
once-from f h stopped vs = none-once (pieces_from f stopped vs) (stopped-all f vs)
once-from f h (going s) (v ∷ vs) =
    let r = f.step s v in
    (λ n. after f r.run.ending r.next vs n (h s v r.run.ending refl), once-from f h r.next vs)

twice : (e : Ending) (t : FoldState) → if_done e t ≡ if_done e (if_done e t)
twice Done t = refl
twice (Raised v) t = refl
twice (Broken k) t = refl
twice (Stopped stop) t = refl

steps-stop : (d : ℕ) (e : Env) (k : ℕ) (f : Fold) → Stops (steps_of d e k f)
unfolding Stops
steps-stop d e k f s v b p =
    let a = (outputs_of d e k f f.extract s v).ending in
    let t = state_of (states_of d e k f s v).items (states_of d e k f s v).ending in
    twice a t ∙ ap (λ c. if_done c (if_done a t)) p

once-all : (f : Steps) → Stops f → (r : Run Item) (vs : List Value) → EndsOnce (pieces f r vs)
once-all f h r vs =
    (λ n. after f r.ending (begun r).next vs n (twice r.ending (state_of r.items r.ending)), once-from f h (begun r).next vs)

pub pieces-once : PiecesEndOnce
pieces-once f e d k x vs = once-all (steps_of d e k f) (steps-stop d e k f) (meaning d f.start e k x) vs
