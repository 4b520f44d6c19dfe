-- What the hidden names say about the binders around a part of a filter.
use Rattle.std.proofs.Common.{◌≡◌, List, [], ◌∷◌, Bool, ◌||◌, ap, refl, codes}
use Rattle.jq_tree.specs.Tree.{Name}
use Rattle.jq_tree.specs.Names.{Scope, Reference, to_function, same_reference, is_bound, with_parameters}
use Rattle.jq_inputs.specs.declared.hidden.Hidden.{Hidden}
use Rattle.jq_inputs.specs.private.Hidden.{nothing_hidden, hiding, hiding_parameters}

pub record Tracks (own : Scope) (h : Hidden) : Type 0 where
  pub inputs : h.inputs ≡ is_bound (to_function (codes "inputs") 0) own
  pub first : h.first ≡ is_bound (to_function (codes "first") 1) own
  pub last : h.last ≡ is_bound (to_function (codes "last") 1) own
  pub isempty : h.isempty ≡ is_bound (to_function (codes "isempty") 1) own
  pub any : h.any ≡ is_bound (to_function (codes "any") 2) own
  pub all : h.all ≡ is_bound (to_function (codes "all") 2) own
  pub limit : h.limit ≡ is_bound (to_function (codes "limit") 2) own

pub nothing-Tracks : Tracks [] nothing_hidden
nothing-Tracks = record { inputs = refl; first = refl; last = refl; isempty = refl; any = refl; all = refl; limit = refl }

more : (known r : Reference) {a b : Bool} → a ≡ b → (same_reference known r || a) ≡ (same_reference known r || b)
more known r e = ap (λ c. same_reference known r || c) e

pub hiding-Tracks : {own : Scope} {h : Hidden} (r : Reference) → Tracks own h → Tracks (r ∷ own) (hiding r h)
hiding-Tracks r k = record {
  inputs = more (to_function (codes "inputs") 0) r k.inputs;
  first = more (to_function (codes "first") 1) r k.first;
  last = more (to_function (codes "last") 1) r k.last;
  isempty = more (to_function (codes "isempty") 1) r k.isempty;
  any = more (to_function (codes "any") 2) r k.any;
  all = more (to_function (codes "all") 2) r k.all;
  limit = more (to_function (codes "limit") 2) r k.limit;
}

pub parameters-Tracks : (ps : List Name) {own : Scope} {h : Hidden} → Tracks own h → Tracks (with_parameters ps own) (hiding_parameters ps h)
parameters-Tracks [] k = k
parameters-Tracks (p ∷ ps) k = parameters-Tracks ps (hiding-Tracks (to_function p 0) k)
