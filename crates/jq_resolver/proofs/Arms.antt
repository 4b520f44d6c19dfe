-- The same as in the code, where a box is opened before its tree is resolved.
use Rattle.std.proofs.Common.{◌≡◌, ◌-◌, ◌∷◌, length, drop, OnOk, Result, Ok, Err, String, Global, Box, Bool, sym, subst}
use Rattle.jv_data.specs.Text.{text_of}
use Rattle.jq_tree.specs.Names.{Scope, to_label}
use Rattle.jq_ast.specs.declared.leaves.Key.{Key}
use Rattle.jq_ast.specs.declared.tree.Entry.{Entry}
use Rattle.jq_ast.specs.declared.tree.Entry.TheVariants as entry
use Rattle.jq_ast.specs.declared.tree.Function.{Function}
use Rattle.jq_ast.specs.declared.tree.Pattern.{Pattern}
use Rattle.jq_ast.specs.declared.tree.Tree.{Tree}
use Rattle.jq_ast.specs.declared.tree.Tree.TheVariants as code
use Rattle.jq_ast.specs.declared.tree.Member.TheVariants as member
use Rattle.jq_resolver.proofs.Parts.{in_Field, in_Iterate, in_Negation, in_Array}
use Rattle.jq_resolver.proofs.Forms.{in_Label, in_BindAs, in_Reduce, in_Foreach, in_Define, in_Keyed, entry_Named, entry_Computed, entry_Own}
use Rattle.jq_resolver.specs.private.Resolved.{IsEntryResolved, IsResolved, IsPatternResolved, IsDefinitionResolved, IsPartResolved}

-- the tree in a box, and the tree that is put there
at : (s t : Scope) (x y : Tree) (f g : Box Tree Global) → IsResolved s t x y → x ≡ f.value → y ≡ g.value → IsResolved s t f.value g.value
at s t x y f g r e d = subst (λ z. IsResolved s t f.value z) d (subst (λ z. IsResolved s t z y) e r)

pattern_at : (s t : Scope) (x y : Pattern) (f g : Box Pattern Global) → IsPatternResolved s t x y → x ≡ f.value → y ≡ g.value → IsPatternResolved s t f.value g.value
pattern_at s t x y f g r e d = subst (λ z. IsPatternResolved s t f.value z) d (subst (λ z. IsPatternResolved s t z y) e r)

pub of_part : (s t : Scope) (x z y : Tree) → IsResolved s t x y → x ≡ z → IsResolved s t z y
of_part s t x z y r e = subst (λ w. IsResolved s t w y) e r

pub arm_Field : (s t : Scope) (x y : Tree) (f g : Box Tree Global) (key : Key) (mark : Bool) → IsResolved s t x y → x ≡ f.value → y ≡ g.value → IsResolved s t (code.Field f key mark) (code.Field g key mark)
arm_Field s t x y f g key mark r e d = in_Field s t f g key mark (at s t x y f g r e d)

pub arm_Iterate : (s t : Scope) (x y : Tree) (f g : Box Tree Global) (mark : Bool) → IsResolved s t x y → x ≡ f.value → y ≡ g.value → IsResolved s t (code.Iterate f mark) (code.Iterate g mark)
arm_Iterate s t x y f g mark r e d = in_Iterate s t f g mark (at s t x y f g r e d)

pub arm_Negation : (s t : Scope) (x y : Tree) (f g : Box Tree Global) → IsResolved s t x y → x ≡ f.value → y ≡ g.value → IsResolved s t (code.Negation f) (code.Negation g)
arm_Negation s t x y f g r e d = in_Negation s t f g (at s t x y f g r e d)

pub arm_Array : (s t : Scope) (x y : Tree) (f g : Box Tree Global) → IsResolved s t x y → x ≡ f.value → y ≡ g.value → IsResolved s t (code.Array f) (code.Array g)
arm_Array s t x y f g r e d = in_Array s t f g (at s t x y f g r e d)

-- a clause that follows from three others
pub on_ok_three : {A E : Type 0} (r : Result A E) {P Q S R : Type 0} → OnOk r P → OnOk r Q → OnOk r S → (P → Q → S → R) → OnOk r R
on_ok_three (Ok a) p q s f = f p q s
on_ok_three (Err e) p q s f = tt

pub of_entry : (s t : Scope) (old new z : Entry Tree) → old ≡ z → IsEntryResolved s t z new → IsEntryResolved s t old new
of_entry s t old new z e r = subst (λ o. IsEntryResolved s t o new) (sym e) r

pub arm_Label : (s s' t u : Scope) (n m : String Global) (x x' : Tree) (f g : Box Tree Global) → IsResolved s' t x x' → x ≡ f.value → x' ≡ g.value → s' ≡ to_label (text_of n) ∷ s → u ≡ drop (length t - length s) t
    → m ≡ n → IsResolved s u (code.Label n f) (code.Label m g)
arm_Label s s' t u n m x x' f g r e d o l q = subst (λ z. IsResolved s u (code.Label n f) (code.Label z g)) (sym q) (in_Label s s' t u n f g o (at s' t x x' f g r e d) l)

pub entry_value : (s t : Scope) (k k' : Key) (x v w : Tree) → IsResolved s t x w → x ≡ v → k' ≡ k → IsEntryResolved s t (entry.Named k v) (entry.Named k' w)
entry_value s t k k' x v w r e q = subst (λ z. IsEntryResolved s t (entry.Named k v) (entry.Named z w)) (sym q) (entry_Named s t k v w (subst (λ z. IsResolved s t z w) e r))

pub entry_both : (s t u : Scope) (x y v v' w w' : Tree) → IsResolved s t x v' → IsResolved t u y w' → x ≡ v → y ≡ w → IsEntryResolved s u (entry.Computed v w) (entry.Computed v' w')
entry_both s t u x y v v' w w' r q e d = entry_Computed s t u v v' w w' (subst (λ z. IsResolved s t z v') e r) (subst (λ z. IsResolved t u z w') d q)

pub entry_own : (s t : Scope) (x v w : Tree) → IsResolved s t x w → x ≡ v → IsEntryResolved s t (entry.Own v) (entry.Own w)
entry_own s t x v w r e = entry_Own s t v w (subst (λ z. IsResolved s t z w) e r)

pub arm_BindAs : (s t1 t2 t3 u : Scope) (x x' : Tree) (a a' : Pattern) (y y' : Tree) (f f' : Box Tree Global) (p p' : Box Pattern Global) (g g' : Box Tree Global)
    → IsResolved s t1 x x' → IsPatternResolved t1 t2 a a' → IsResolved t2 t3 y y' → x ≡ f.value → a ≡ p.value → y ≡ g.value → x' ≡ f'.value → a' ≡ p'.value → y' ≡ g'.value → u ≡ drop (length t3 - length t1) t3
    → IsResolved s u (code.BindAs f p g) (code.BindAs f' p' g')
arm_BindAs s t1 t2 t3 u x x' a a' y y' f f' p p' g g' r1 r2 r3 e1 e2 e3 d1 d2 d3 l =
    in_BindAs s t1 t2 t3 u f f' p p' g g' (at s t1 x x' f f' r1 e1 d1) (pattern_at t1 t2 a a' p p' r2 e2 d2) (at t2 t3 y y' g g' r3 e3 d3) l

pub arm_Reduce : (s t v w u : Scope) (x x' : Tree) (a a' : Pattern) (y y' z z' : Tree) (f f' : Box Tree Global) (p p' : Box Pattern Global) (g g' h h' : Box Tree Global)
    → IsResolved s t x x' → IsResolved s t y y' → IsPatternResolved t v a a' → IsResolved v w z z' → x ≡ f.value → y ≡ g.value → a ≡ p.value → z ≡ h.value → x' ≡ f'.value → y' ≡ g'.value → a' ≡ p'.value
    → z' ≡ h'.value → u ≡ drop (length w - length t) w → IsResolved s u (code.Reduce f p g h) (code.Reduce f' p' g' h')
arm_Reduce s t v w u x x' a a' y y' z z' f f' p p' g g' h h' r1 r2 r3 r4 e1 e2 e3 e4 d1 d2 d3 d4 l =
    in_Reduce s t v w u f f' p p' g g' h h' (at s t x x' f f' r1 e1 d1) (at s t y y' g g' r2 e2 d2) (pattern_at t v a a' p p' r3 e3 d3) (at v w z z' h h' r4 e4 d4) l

pub arm_Foreach : (s t v w u : Scope) (x x' : Tree) (a a' : Pattern) (y y' z z' k k' : Tree) (f f' : Box Tree Global) (p p' : Box Pattern Global) (g g' h h' i i' : Box Tree Global)
    → IsResolved s t x x' → IsResolved s t y y' → IsPatternResolved t v a a' → IsResolved v w z z' → IsResolved v w k k' → x ≡ f.value → y ≡ g.value → a ≡ p.value → z ≡ h.value → k ≡ i.value
    → x' ≡ f'.value → y' ≡ g'.value → a' ≡ p'.value → z' ≡ h'.value → k' ≡ i'.value → u ≡ drop (length w - length t) w → IsResolved s u (code.Foreach f p g h i) (code.Foreach f' p' g' h' i')
arm_Foreach s t v w u x x' a a' y y' z z' k k' f f' p p' g g' h h' i i' r1 r2 r3 r4 r5 e1 e2 e3 e4 e5 d1 d2 d3 d4 d5 l =
    in_Foreach s t v w u f f' p p' g g' h h' i i' (at s t x x' f f' r1 e1 d1) (at s t y y' g g' r2 e2 d2) (pattern_at t v a a' p p' r3 e3 d3) (at v w z z' h h' r4 e4 d4) (at v w k k' i i' r5 e5 d5) l

pub arm_Define : (s t1 t2 u : Scope) (k k' : Function Tree) (x x' : Tree) (f f' : Box (Function Tree) Global) (g g' : Box Tree Global) → IsDefinitionResolved s t1 k k' → IsResolved t1 t2 x x'
    → k ≡ f.value → x ≡ g.value → k' ≡ f'.value → x' ≡ g'.value → u ≡ drop (length t2 - length s) t2 → IsResolved s u (code.Define f g) (code.Define f' g')
arm_Define s t1 t2 u k k' x x' f f' g g' r1 r2 e1 e2 d1 d2 l =
    in_Define s t1 t2 u f f' g g' (subst (λ z. IsDefinitionResolved s t1 f.value z) d1 (subst (λ z. IsDefinitionResolved s t1 z k') e1 r1)) (at t1 t2 x x' g g' r2 e2 d2) l

pub arm_Keyed : (s t u : Scope) (x x' : Tree) (f f' : Box Tree Global) (a p p' : Pattern) → IsResolved s t x x' → IsPatternResolved t u a p' → x ≡ f.value → x' ≡ f'.value → a ≡ p
    → IsPartResolved s u (member.Keyed f p) (member.Keyed f' p')
arm_Keyed s t u x x' f f' a p p' r q e d o = in_Keyed s t u f f' p p' (at s t x x' f f' r e d) (subst (λ z. IsPatternResolved t u z p') o q)
