-- The runs of forms from the runs of their parts.
use Rattle.std.proofs.Common.{◌≡◌, ◌∙◌, ℕ, pos, List, [], ◌∷◌, Ok, refl, ap, true, nat_eq, arith}
use Rattle.jv_data.specs.Value.{Value, number, array, items_of}
use Rattle.jv_value.specs.Index.{index_of}
use Rattle.jq_tree.specs.Tree.{Name, Tree, Trees, pipe, comma, identity, whole, items, patterns_of, bind_as}
use Rattle.jq_tree.specs.Tree as tree
use Rattle.jq_meaning.specs.Runs.{Item, plain, value_in, Run, Ending, Done, Raised, Broken, Stopped, ended, one, fail, go_on, then_run, bind_items, bind, labelled, gathered}
use Rattle.jq_meaning.specs.Env.{Env, Callee, found_function, no_callee, bound, value_of, with_arguments}
use Rattle.jq_meaning.specs.Continuations.{on_source, on_part, in_bindings}
use Rattle.jq_meaning.specs.Meaning.{Means, meaning_with, bindings_with, called}
use Rattle.jq_meaning.proofs.shared.machine.RunLaws.{bind-one}

-- an array of two
abbrev pub state : (x ds : Value) → Value
state x ds = array (items_of (x ∷ ds ∷ []))

-- the first two parts of a value
pub record Reads (s x ds : Value) : Type 0 where
  pub first : index_of s (number (pos 0)) ≡ Ok x
  pub second : index_of s (number (pos 1)) ≡ Ok ds

-- ---- pipes and bindings

pub pipe-one : (deeper : Means) (f g : Tree) (e : Env) (k : ℕ) (x y : Item) (r : Run Item) → meaning_with deeper f e k x ≡ one y → meaning_with deeper g e k y ≡ r → meaning_with deeper (pipe f g) e k x ≡ r
pipe-one deeper f g e k x y r h i = ap (λ q. bind q (meaning_with deeper g e k)) h ∙ bind-one y (meaning_with deeper g e k) ∙ i

pub as-ended : (deeper : Means) (t f : Tree) (n : Name) (e : Env) (k : ℕ) (v : Value) (s : Ending) → meaning_with deeper t e k (plain v) ≡ ended s → meaning_with deeper (bind_as t (whole n) f) e k (plain v) ≡ ended s
as-ended deeper t f n e k v s h =
    ap (λ q. bind (bind q (on_source (bindings_with deeper (whole n) k) e)) (in_bindings (meaning_with deeper f) k (plain v))) h

-- a body that ends the run for the first output
pub as-first : (deeper : Means) (t f : Tree) (n : Name) (e : Env) (k : ℕ) (v : Value) (w : Item) (ws : List Item) (s : Ending) (r : Run Item)
    → meaning_with deeper t e k (plain v) ≡ record { items = w ∷ ws; ending = s } → meaning_with deeper f (bound (value_of n (value_in w)) e) k (plain v) ≡ r
    → ((q : Run Item) → then_run r q ≡ r) → meaning_with deeper (bind_as t (whole n) f) e k (plain v) ≡ r
unfolding on_source in_bindings
as-first deeper t f n e k v w ws s r h i stops =
    let source : Item → Run Env = on_source (bindings_with deeper (whole n) k) e in
    let goes : Env → Run Item = in_bindings (meaning_with deeper f) k (plain v) in
    let rest : Run Env = bind_items ws s source in
    ap (λ q. bind (bind q source) goes) h
    ∙ ap (λ q. then_run q (bind_items rest.items rest.ending goes)) i
    ∙ stops (bind_items rest.items rest.ending goes)

pub pair-bound : (deeper : Means) (f : Tree) (m n : Name) (e : Env) (k : ℕ) (s x ds : Value) (r : Run Item) → Reads s x ds
    → meaning_with deeper f (bound (value_of n ds) (bound (value_of m x) e)) k (plain s) ≡ r
    → meaning_with deeper (bind_as identity (items (patterns_of (whole m ∷ whole n ∷ []))) f) e k (plain s) ≡ r
unfolding on_source on_part in_bindings
pair-bound deeper f m n e k s x ds r reads h =
    rw (reads.first, reads.second) (bind-one (bound (value_of n ds) (bound (value_of m x) e)) (in_bindings (meaning_with deeper f) k (plain s)) ∙ h)

-- ---- calls

pub called-none : (deeper : Means) (c : Callee) (ts : Trees) (e : Env) (k : ℕ) (x : Item) (r : Run Item) → c ≡ no_callee → called deeper c ts e k x r ≡ r
called-none deeper c ts e k x r h = ap (λ d. called deeper d ts e k x r) h

pub called-function : (deeper : Means) (c : Callee) (ps : List Name) (body : Tree) (own : Env) (ts : Trees) (e : Env) (k : ℕ) (x : Item) (r : Run Item) → c ≡ found_function ps body own
    → called deeper c ts e k x r ≡ deeper body (with_arguments ps ts e own) k x
called-function deeper c ps body own ts e k x r h = ap (λ d. called deeper d ts e k x r) h

-- ---- endings

pub go_on-bind : {A B : Type 0} (e : Ending) (s : Run A) (g : A → Run B) → bind (go_on e s) g ≡ go_on e (bind s g)
go_on-bind Done s g = refl
go_on-bind (Raised v) s g = refl
go_on-bind (Broken k) s g = refl
go_on-bind (Stopped stop) s g = refl

equal_levels : (k : ℕ) → nat_eq k k ≡ true
equal_levels k = grind arith

pub labelled-broken : (k : ℕ) (y : Item) (after : Run Item) → labelled k (then_run (record { items = y ∷ []; ending = Broken k }) after) ≡ one y
labelled-broken k y after = rw (equal_levels k) refl

-- ---- arrays of two

pub pair-one : (deeper : Means) (f g : Tree) (e : Env) (k : ℕ) (v a b : Value) → meaning_with deeper f e k (plain v) ≡ one (plain a) → meaning_with deeper g e k (plain v) ≡ one (plain b) → meaning_with deeper (tree.array (comma f g)) e k (plain v) ≡ one (plain (state a b))
pair-one deeper f g e k v a b h i =
    ap (λ (q : Run Item). gathered (then_run q (meaning_with deeper g e k (plain v)))) h
    ∙ ap (λ (q : Run Item). gathered (then_run (one (plain a)) q)) i

pub pair-fails : (deeper : Means) (f g : Tree) (e : Env) (k : ℕ) (v a : Value) → meaning_with deeper f e k (plain v) ≡ fail a → meaning_with deeper (tree.array (comma f g)) e k (plain v) ≡ fail a
pair-fails deeper f g e k v a h = ap (λ (q : Run Item). gathered (then_run q (meaning_with deeper g e k (plain v)))) h

pub pair-fails_after : (deeper : Means) (f g : Tree) (e : Env) (k : ℕ) (v a b : Value) → meaning_with deeper f e k (plain v) ≡ one (plain a) → meaning_with deeper g e k (plain v) ≡ fail b → meaning_with deeper (tree.array (comma f g)) e k (plain v) ≡ fail b
pair-fails_after deeper f g e k v a b h i =
    ap (λ (q : Run Item). gathered (then_run q (meaning_with deeper g e k (plain v)))) h
    ∙ ap (λ (q : Run Item). gathered (then_run (one (plain a)) q)) i
