-- What names refer to that are parts of the language.
use Rattle.std.proofs.Common.{◌≡◌, ◌∙◌, ℕ, List, ◌∷◌, Bool, true, false, Option, Some, None, ap, sym, refl, rules}
use denote.Enum.Bare.{sameb, same_true, true_same}
use Rattle.jq_ast.specs.contracts.names.Core.{the_type as core_type}
use Rattle.jq_tree.specs.BoundTree.{Binder, bound_at, in_language, nowhere}
use Rattle.jq_tree.specs.Binders.{Use, without_binder}
use Rattle.jq_tree.specs.Names.{Reference, to_function, same_reference}
use Rattle.jq_ast.specs.declared.names.Core.{Core}
use Rattle.jq_ast.specs.declared.names.Core.TheVariants as core
use Rattle.jq_tree.proofs.shared.References.{same_is}
use Rattle.jq_ast.specs.CoreNames.{core_named, core_reference}
use Rattle.jq_resolver.specs.private.Waiting.{is_somewhere}
use Rattle.jq_resolver.proofs.Language.{alike, core_means}

-- ---- core names

abbrev core_in : Reference → Option Core
core_in (to_function n a) = core_named n a
core_in r = None

core_back : (c : Core) → core_in (core_reference c) ≡ Some c
core_back core.Empty = refl
core_back core.Path = refl
core_back core.Range = refl
core_back core.RangeBy = refl
core_back core.Inputs = refl
core_back core.Halt = refl
core_back core.HaltError = refl

pub named_core : (c : Core) (n : List ℕ) (a : ℕ) → same_reference (core_reference c) (to_function n a) ≡ true → core_named n a ≡ Some c
named_core c n a h = ap core_in (sym (same_is (core_reference c) (to_function n a) h)) ∙ core_back c

no_some : {A : Type 0} (x : A) → None ≡ Some x → ⊥
no_some x e = cc

-- for a name that is a core name, and for one that is not
pub core_means_it : (c d : Core) (n : List ℕ) (a : ℕ) (b : Bool) → core_named n a ≡ Some d → b ≡ sameb core_type d c → b ≡ same_reference (core_reference c) (to_function n a)
core_means_it c d n a b o e = alike b (same_reference (core_reference c) (to_function n a))
    (λ t. ap (λ k. same_reference (core_reference k) (to_function n a)) (sym (same_true core_type (search rules) d c (sym e ∙ t))) ∙ core_means n a d o)
    (λ t. let f : Some d ≡ Some c = sym o ∙ named_core c n a t in let g : d ≡ c = cc in e ∙ true_same core_type d c g)

pub no_core_means : (c : Core) (n : List ℕ) (a : ℕ) → core_named n a ≡ None → false ≡ same_reference (core_reference c) (to_function n a)
no_core_means c n a o = alike false (same_reference (core_reference c) (to_function n a)) (λ t. absurd (cc)) (λ t. absurd (no_some c (sym o ∙ named_core c n a t)))

-- ---- uses with a binder, and without

pub unbound_first : (r : Reference) (b : Binder) (us : List Use) → is_somewhere b ≡ false → without_binder ((r, b) ∷ us) ≡ r ∷ without_binder us
unbound_first r (bound_at k) us e = cc
unbound_first r in_language us e = cc
unbound_first r nowhere us e = refl
