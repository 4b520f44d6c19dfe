-- Properties of sorted and grouped items, in terms that the definitions do not use.
use Rattle.std.specs.Prelude.{◌≡◌, ◌≢◌, ⊤, List, [], ◌∷◌}
use Rattle.std.specs.List.Sorted.{IsPermutation, IsSortedByKey, IsStableByKey}
use Rattle.jv_data.specs.Value.{Value, compare}
use Rattle.jq_natives.specs.Sorting.{Keyed, key}

-- The same items, sorted by their keys; items with equal keys keep their order.
pub record IsArranged (ps qs : List Keyed) : Type 0 where
  pub same_items : IsPermutation ps qs
  pub ordered : IsSortedByKey key compare qs
  pub stable : IsStableByKey key compare ps qs

-- all items have the key k
abbrev pub HaveKey : Value → List Keyed → Type 0
HaveKey k [] = ⊤
HaveKey k (p ∷ ps) = (key p ≡ k) × HaveKey k ps

-- a group is not empty, and all its items have one key
abbrev pub IsGroup : List Keyed → Type 0
IsGroup [] = ⊥
IsGroup (p ∷ ps) = HaveKey (key p) ps

-- the next group, if there is one, has another key
abbrev pub IsApart : List Keyed → List (List Keyed) → Type 0
IsApart (p ∷ ps) ((q ∷ qs) ∷ gs) = key p ≢ key q
IsApart g gs = ⊤

abbrev pub AreGroups : List (List Keyed) → Type 0
AreGroups [] = ⊤
AreGroups (g ∷ gs) = IsGroup g × IsApart g gs × AreGroups gs
