-- The result of a sort by a closure that compares values in their order.
use Rattle.std.proofs.Common.{◌≡◌, List, Bool, ap}
use Rattle.std.proofs.lemmas.Fn.{always_returns_same}
use Rattle.std.proofs.lemmas.List.Sorted.{ranks_by}
use Rattle.std.specs.Borrow.{Bor}
use Rattle.std.specs.Cmp.{IsStrictWeakOrder}
use Rattle.std.specs.Fn.{Called, ComparesAs}
use Rattle.std.specs.List.Sorted.{IsSortedBy, IsStableBy}
use Rattle.std.specs.Ordering.{is_lt}
use Rattle.std.specs.declared.cmp.Ordering.{Ordering}
use Rattle.jv_data.proofs.shared.Order.{compare_total}
use Rattle.jv_data.specs.Value.{Value, compare}
use Rattle.jq_natives.specs.Sorting.{sorted_by}
use Rattle.jq_natives.proofs.Arranged.{sorted_by_is}
use denote.Param.Members.{Mut}

pub sorted_by_closure : {F X : Type 0} {g : Mut F (Bor X × (Bor X × Unit {0})) Ordering} {f : F} (rank : X → Value) (xs ys : List X)
    → ((lt : X → X → Bool) → IsStrictWeakOrder lt → ComparesAs g lt f → IsSortedBy lt ys)
    → ((lt : X → X → Bool) → IsStrictWeakOrder lt → ComparesAs g lt f → IsStableBy lt xs ys)
    → ((a : Bor X × (Bor X × Unit {0})) (r : Ordering) (f' : F) → Called g f a r f' → (r ≡ compare (rank a.0.now) (rank a.1.0.now)) × (f' ≡ f))
    → ys ≡ sorted_by (λ x y. is_lt (compare (rank x) (rank y))) xs
sorted_by_closure {g = g} {f = f} rank xs ys up stable h =
    let weak = ranks_by compare_total rank in
    let asks = always_returns_same g (λ a r. is_lt r ≡ is_lt (compare (rank a.0.now) (rank a.1.0.now))) f (λ a r f' k. (ap is_lt (h a r f' k).0, (h a r f' k).1)) in
    sorted_by_is (λ x y. is_lt (compare (rank x) (rank y))) weak xs ys (up _ weak asks) (stable _ weak asks)
