-- The places of the prelude's own functions.
use Rattle.std.proofs.Common.{◌≡◌, ℕ, suc, ◌+◌, ◌<◌, List, [], ◌∷◌, ◌++◌, true, false, length, refl, sym, ap, ◌∙◌, subst, inl, inr, arith}
use Rattle.std.specs.Prelude.{codes}
use Rattle.std.proofs.lemmas.Bool.{cases_Bool, or_from, or_parts}
use Rattle.jq_tree.specs.Tree.{Name, Tree}
use Rattle.jq_tree.specs.Tree as tree
use Rattle.jq_tree.specs.Names.{Reference, to_function, Scope, same_reference, is_bound, variables_of}
use Rattle.jq_tree.specs.BoundTree.{bound_at}
use Rattle.jq_tree.specs.Binders.{prelude_binder}
use Rattle.jq_tree.proofs.shared.Binding.{bound_left, bound_right, only_left}
use Rattle.jq_syntax.specs.laws.Computed.{prelude}
use Rattle.jq_syntax.proofs.shared.Computing.{computing_prelude}
use Rattle.jq_syntax.specs.laws.OfThePrelude.{after_definitions, after_prelude, IsThePreludes, RecurseIsThePreludes, AssignIsThePreludes, ModifyIsThePreludes}

no_variable : (n : Name) (arity : ℕ) (variables : List Name) → is_bound (to_function n arity) (variables_of variables) ≡ false
no_variable n arity [] = refl
no_variable n arity (v ∷ vs) = no_variable n arity vs

-- ---- what is bound

unbound_in_both : (r : Reference) (s outer : Scope) → is_bound r s ≡ false → is_bound r outer ≡ false → is_bound r (s ++ outer) ≡ false
unbound_in_both r [] outer e n = n
unbound_in_both r (b ∷ bs) outer e n =
    let h = or_parts (same_reference r b) (is_bound r bs) e in or_from (same_reference r b) (is_bound r (bs ++ outer)) h.0 (unbound_in_both r bs outer h.1 n)

-- ---- its binder

inside : (r b : Reference) (bs : Scope) (place : ℕ) → is_bound r bs ≡ true → prelude_binder bs r ≡ bound_at place → prelude_binder (b ∷ bs) r ≡ bound_at (suc place)
inside r b bs place e f = rw (e, f) refl

at_first : (r b : Reference) (bs : Scope) → is_bound r bs ≡ false → same_reference r b ≡ true → prelude_binder (b ∷ bs) r ≡ bound_at 0
at_first r b bs e f = rw (e, f) refl

found : (r : Reference) (s outer : Scope) → is_bound r outer ≡ false → is_bound r s ≡ true → (place : ℕ) × (place < length s) × (prelude_binder (s ++ outer) r ≡ bound_at place)
found r [] outer n e = absurd (cc e)
found r (b ∷ bs) outer n e = elim (cases_Bool (is_bound r bs)) [
  | inl f ↦ let h = found r bs outer n f in (suc h.0, omega (arith, h.1), inside r b (bs ++ outer) h.0 (bound_left r bs outer f) h.2)
  | inr f ↦ (0, omega arith, at_first r b (bs ++ outer) (unbound_in_both r bs outer f n) (only_left (same_reference r b) (is_bound r bs) f e))
]

from_inner : (r : Reference) (inner s : Scope) (place : ℕ) → is_bound r s ≡ true → prelude_binder s r ≡ bound_at place → prelude_binder (inner ++ s) r ≡ bound_at (length inner + place)
from_inner r [] s place e f = f ∙ ap bound_at (omega arith)
from_inner r (b ∷ bs) s place e f = inside r b (bs ++ s) (length bs + place) (bound_right r bs s e) (from_inner r bs s place e f) ∙ ap bound_at (omega arith)

around : (s outer : Scope) (p : Tree) → after_definitions (s ++ outer) p ≡ after_definitions s p ++ outer
around s outer (tree.define n ps f g) = around (to_function n (length ps) ∷ s) outer g
around s outer p = refl

split_scope : (variables : List Name) → after_prelude variables ≡ after_prelude [] ++ variables_of variables
split_scope variables = around [] (variables_of variables) prelude

placed : (n : Name) (arity : ℕ) → is_bound (to_function n arity) (after_prelude []) ≡ true → IsThePreludes n arity
placed n arity e inner variables =
    let r = to_function n arity in
    let h = found r (after_prelude []) (variables_of variables) (no_variable n arity variables) e in (
      h.0,
      h.1,
      subst (λ (s : Scope). prelude_binder (inner ++ s) r ≡ bound_at (length inner + h.0)) (sym (split_scope variables))
          (from_inner r inner (after_prelude [] ++ variables_of variables) h.0 (bound_left r (after_prelude []) (variables_of variables) e) h.2),
    )

recurse_bound : is_bound (to_function (codes "recurse") 0) (after_prelude []) ≡ true
unfolding computing_prelude
recurse_bound = refl

assign_bound : is_bound (to_function (codes "_assign") 2) (after_prelude []) ≡ true
unfolding computing_prelude
assign_bound = refl

modify_bound : is_bound (to_function (codes "_modify") 2) (after_prelude []) ≡ true
unfolding computing_prelude
modify_bound = refl

pub recurse_placed : RecurseIsThePreludes
recurse_placed = placed (codes "recurse") 0 recurse_bound

pub assign_placed : AssignIsThePreludes
assign_placed = placed (codes "_assign") 2 assign_bound

pub modify_placed : ModifyIsThePreludes
modify_placed = placed (codes "_modify") 2 modify_bound
