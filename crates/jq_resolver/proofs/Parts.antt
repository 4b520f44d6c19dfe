-- From the parts of a tree to the whole.
use Rattle.std.proofs.Common.{◌≡◌, ◌∙◌, ℕ, Bool, length, Global, Box, ap, sym, refl, subst}
use Rattle.jq_tree.specs.Tree as tree
use Rattle.jq_tree.specs.BoundTree as form
use Rattle.jq_tree.specs.Binders.{bound_in}
use Rattle.jq_tree.specs.Names.{Scope}
use Rattle.jq_ast.specs.Leaves.{key_of, operator_of}
use Rattle.jq_ast.specs.Named.{named}
use Rattle.jq_ast.specs.Bound.{bound}
use Rattle.jq_ast.specs.declared.leaves.Key.{Key}
use Rattle.jq_ast.specs.declared.operators.Operator.{Operator}
use Rattle.jq_ast.specs.declared.tree.Tree.{Tree}
use Rattle.jq_ast.specs.declared.tree.Tree.TheVariants as code
use Rattle.jq_ast.proofs.shared.Forms as ast
use Rattle.jq_resolver.proofs.Levels as level
use Rattle.jq_resolver.specs.private.Resolved.{IsResolved}

-- ---- forms with trees in one scope

pub one : (N : tree.Tree → tree.Tree) (F : form.BoundTree → form.BoundTree) → ((s : Scope) (x : tree.Tree) → bound_in s (N x) ≡ F (bound_in s x))
    → (s t : Scope) (old new f g : Tree) → named old ≡ N (named f) → named new ≡ N (named g) → ((n : ℕ) → bound new n ≡ F (bound g n)) → IsResolved s t f g → IsResolved s t old new
one N F law s t old new f g a b d r = record {
  same = r.same;
  names = b ∙ ap N r.names ∙ sym a;
  binders = d (length s) ∙ ap F r.binders ∙ sym (law s (named f)) ∙ ap (bound_in s) (sym a);
}

pub two : (N : tree.Tree → tree.Tree → tree.Tree) (F : form.BoundTree → form.BoundTree → form.BoundTree) → ((s : Scope) (x y : tree.Tree) → bound_in s (N x y) ≡ F (bound_in s x) (bound_in s y))
    → (s t : Scope) (old new f f' g g' : Tree) → named old ≡ N (named f) (named g) → named new ≡ N (named f') (named g') → ((n : ℕ) → bound new n ≡ F (bound f' n) (bound g' n))
    → IsResolved s t f f' → IsResolved s t g g' → IsResolved s t old new
two N F law s t old new f f' g g' a b d r q = record {
  same = r.same;
  names = b ∙ ap (λ x. N x (named g')) r.names ∙ ap (λ x. N (named f) x) q.names ∙ sym a;
  binders = d (length s) ∙ ap (λ x. F x (bound g' (length s))) r.binders ∙ ap (λ x. F (bound_in s (named f)) x) q.binders ∙ sym (law s (named f) (named g)) ∙ ap (bound_in s) (sym a);
}

pub three : (N : tree.Tree → tree.Tree → tree.Tree → tree.Tree) (F : form.BoundTree → form.BoundTree → form.BoundTree → form.BoundTree)
    → ((s : Scope) (x y z : tree.Tree) → bound_in s (N x y z) ≡ F (bound_in s x) (bound_in s y) (bound_in s z))
    → (s t : Scope) (old new f f' g g' h h' : Tree) → named old ≡ N (named f) (named g) (named h) → named new ≡ N (named f') (named g') (named h')
    → ((n : ℕ) → bound new n ≡ F (bound f' n) (bound g' n) (bound h' n))
    → IsResolved s t f f' → IsResolved s t g g' → IsResolved s t h h' → IsResolved s t old new
three N F law s t old new f f' g g' h h' a b d r q p = record {
  same = r.same;
  names = b ∙ ap (λ x. N x (named g') (named h')) r.names ∙ ap (λ x. N (named f) x (named h')) q.names ∙ ap (λ x. N (named f) (named g) x) p.names ∙ sym a;
  binders = d (length s) ∙ ap (λ x. F x (bound g' (length s)) (bound h' (length s))) r.binders ∙ ap (λ x. F (bound_in s (named f)) x (bound h' (length s))) q.binders
      ∙ ap (λ x. F (bound_in s (named f)) (bound_in s (named g)) x) p.binders ∙ sym (law s (named f) (named g) (named h)) ∙ ap (bound_in s) (sym a);
}

-- trees that are resolved one after the other are resolved in one scope

pub two_resolved : (s t u : Scope) (x x' y y' : Tree) → IsResolved s t x x' → IsResolved t u y y' → IsResolved s u x x' × IsResolved s u y y'
two_resolved s t u x x' y y' r q = (subst (λ v. IsResolved s v x x') (sym q.same) r, subst (λ v. IsResolved v u y y') r.same q)

pub three_resolved : (s t u v : Scope) (x x' y y' z z' : Tree) → IsResolved s t x x' → IsResolved t u y y' → IsResolved u v z z'
    → IsResolved s v x x' × IsResolved s v y y' × IsResolved s v z z'
three_resolved s t u v x x' y y' z z' r q p =
    let later = two_resolved t u v y y' z z' q p in
    (subst (λ w. IsResolved s w x x') (sym later.0.same) r, subst (λ w. IsResolved w v y y') r.same later.0, subst (λ w. IsResolved w v z z') r.same later.1)

pub in_Field : (s t : Scope) (f g : Box Tree Global) (key : Key) (mark : Bool) → IsResolved s t f.value g.value → IsResolved s t (code.Field f key mark) (code.Field g key mark)
in_Field s t f g key mark r = one (λ x. tree.field x (key_of key) mark) (λ x. form.field x (key_of key) mark) (λ s x. refl) s t (code.Field f key mark) (code.Field g key mark) f.value g.value (ast.named-Field f key mark) (ast.named-Field g key mark) (λ n. level.bound-Field g key mark n) r

pub in_Iterate : (s t : Scope) (f g : Box Tree Global) (mark : Bool) → IsResolved s t f.value g.value → IsResolved s t (code.Iterate f mark) (code.Iterate g mark)
in_Iterate s t f g mark r = one (λ x. tree.iterate x mark) (λ x. form.iterate x mark) (λ s x. refl) s t (code.Iterate f mark) (code.Iterate g mark) f.value g.value (ast.named-Iterate f mark) (ast.named-Iterate g mark) (λ n. level.bound-Iterate g mark n) r

pub in_Negation : (s t : Scope) (f g : Box Tree Global) → IsResolved s t f.value g.value → IsResolved s t (code.Negation f) (code.Negation g)
in_Negation s t f g r = one (λ x. tree.negation x) (λ x. form.negation x) (λ s x. refl) s t (code.Negation f) (code.Negation g) f.value g.value (ast.named-Negation f) (ast.named-Negation g) (λ n. level.bound-Negation g n) r

pub in_Array : (s t : Scope) (f g : Box Tree Global) → IsResolved s t f.value g.value → IsResolved s t (code.Array f) (code.Array g)
in_Array s t f g r = one (λ x. tree.array x) (λ x. form.array x) (λ s x. refl) s t (code.Array f) (code.Array g) f.value g.value (ast.named-Array f) (ast.named-Array g) (λ n. level.bound-Array g n) r

pub in_Index : (s t : Scope) (f f' g g' : Box Tree Global) (mark : Bool) → IsResolved s t f.value f'.value → IsResolved s t g.value g'.value → IsResolved s t (code.Index f g mark) (code.Index f' g' mark)
in_Index s t f f' g g' mark r q = two (λ x y. tree.index x y mark) (λ x y. form.index x y mark) (λ s x y. refl) s t (code.Index f g mark) (code.Index f' g' mark) f.value f'.value g.value g'.value (ast.named-Index f g mark) (ast.named-Index f' g' mark) (λ n. level.bound-Index f' g' mark n) r q

pub in_Pipe : (s t : Scope) (f f' g g' : Box Tree Global) → IsResolved s t f.value f'.value → IsResolved s t g.value g'.value → IsResolved s t (code.Pipe f g) (code.Pipe f' g')
in_Pipe s t f f' g g' r q = two (λ x y. tree.pipe x y) (λ x y. form.pipe x y) (λ s x y. refl) s t (code.Pipe f g) (code.Pipe f' g') f.value f'.value g.value g'.value (ast.named-Pipe f g) (ast.named-Pipe f' g') (λ n. level.bound-Pipe f' g' n) r q

pub in_Comma : (s t : Scope) (f f' g g' : Box Tree Global) → IsResolved s t f.value f'.value → IsResolved s t g.value g'.value → IsResolved s t (code.Comma f g) (code.Comma f' g')
in_Comma s t f f' g g' r q = two (λ x y. tree.comma x y) (λ x y. form.comma x y) (λ s x y. refl) s t (code.Comma f g) (code.Comma f' g') f.value f'.value g.value g'.value (ast.named-Comma f g) (ast.named-Comma f' g') (λ n. level.bound-Comma f' g' n) r q

pub in_Binary : (s t : Scope) (f f' g g' : Box Tree Global) (op : Operator) → IsResolved s t f.value f'.value → IsResolved s t g.value g'.value → IsResolved s t (code.Binary op f g) (code.Binary op f' g')
in_Binary s t f f' g g' op r q = two (λ x y. tree.binary (operator_of op) x y) (λ x y. form.binary (operator_of op) x y) (λ s x y. refl) s t (code.Binary op f g) (code.Binary op f' g') f.value f'.value g.value g'.value (ast.named-Binary op f g) (ast.named-Binary op f' g') (λ n. level.bound-Binary op f' g' n) r q

pub in_And : (s t : Scope) (f f' g g' : Box Tree Global) → IsResolved s t f.value f'.value → IsResolved s t g.value g'.value → IsResolved s t (code.And f g) (code.And f' g')
in_And s t f f' g g' r q = two (λ x y. tree.conjunction x y) (λ x y. form.conjunction x y) (λ s x y. refl) s t (code.And f g) (code.And f' g') f.value f'.value g.value g'.value (ast.named-And f g) (ast.named-And f' g') (λ n. level.bound-And f' g' n) r q

pub in_Or : (s t : Scope) (f f' g g' : Box Tree Global) → IsResolved s t f.value f'.value → IsResolved s t g.value g'.value → IsResolved s t (code.Or f g) (code.Or f' g')
in_Or s t f f' g g' r q = two (λ x y. tree.disjunction x y) (λ x y. form.disjunction x y) (λ s x y. refl) s t (code.Or f g) (code.Or f' g') f.value f'.value g.value g'.value (ast.named-Or f g) (ast.named-Or f' g') (λ n. level.bound-Or f' g' n) r q

pub in_Alternative : (s t : Scope) (f f' g g' : Box Tree Global) → IsResolved s t f.value f'.value → IsResolved s t g.value g'.value → IsResolved s t (code.Alternative f g) (code.Alternative f' g')
in_Alternative s t f f' g g' r q = two (λ x y. tree.alternative x y) (λ x y. form.alternative x y) (λ s x y. refl) s t (code.Alternative f g) (code.Alternative f' g') f.value f'.value g.value g'.value (ast.named-Alternative f g) (ast.named-Alternative f' g') (λ n. level.bound-Alternative f' g' n) r q

pub in_TryCatch : (s t : Scope) (f f' g g' : Box Tree Global) → IsResolved s t f.value f'.value → IsResolved s t g.value g'.value → IsResolved s t (code.TryCatch f g) (code.TryCatch f' g')
in_TryCatch s t f f' g g' r q = two (λ x y. tree.try_catch x y) (λ x y. form.try_catch x y) (λ s x y. refl) s t (code.TryCatch f g) (code.TryCatch f' g') f.value f'.value g.value g'.value (ast.named-TryCatch f g) (ast.named-TryCatch f' g') (λ n. level.bound-TryCatch f' g' n) r q

pub in_Slice : (s t : Scope) (f f' g g' h h' : Box Tree Global) (mark : Bool) → IsResolved s t f.value f'.value → IsResolved s t g.value g'.value → IsResolved s t h.value h'.value → IsResolved s t (code.Slice f g h mark) (code.Slice f' g' h' mark)
in_Slice s t f f' g g' h h' mark r q p = three (λ x y z. tree.slice x y z mark) (λ x y z. form.slice x y z mark) (λ s x y z. refl) s t (code.Slice f g h mark) (code.Slice f' g' h' mark) f.value f'.value g.value g'.value h.value h'.value (ast.named-Slice f g h mark) (ast.named-Slice f' g' h' mark) (λ n. level.bound-Slice f' g' h' mark n) r q p

pub in_Choice : (s t : Scope) (f f' g g' h h' : Box Tree Global) → IsResolved s t f.value f'.value → IsResolved s t g.value g'.value → IsResolved s t h.value h'.value → IsResolved s t (code.Choice f g h) (code.Choice f' g' h')
in_Choice s t f f' g g' h h' r q p = three (λ x y z. tree.choice x y z) (λ x y z. form.choice x y z) (λ s x y z. refl) s t (code.Choice f g h) (code.Choice f' g' h') f.value f'.value g.value g'.value h.value h'.value (ast.named-Choice f g h) (ast.named-Choice f' g' h') (λ n. level.bound-Choice f' g' h' n) r q p
