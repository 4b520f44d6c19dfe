-- The pairs that the code's keyed items represent, keys that are each in an array, how items are grouped one after the other, and
-- which pairs an array and its keys give.
use Rattle.std.specs.Prelude.{◌≡◌, ◌⊎◌, ℕ, List, [], ◌∷◌, map, Bool, true, Ok, Vec}
use Rattle.std.specs.declared.alloc.Global.{Global}
use Rattle.jv_data.specs.Fails.{FailsAs}
use Rattle.jv_data.specs.View.{view}
use Rattle.jv_data.specs.declared.failures.Fail.{Fail}
use Rattle.jv_data.specs.Value.{Value, array, item, no_items}
use Rattle.jq_natives.specs.Answers.{is_same}
use Rattle.jq_natives.specs.Sorting.{Keyed, key, kept_item, keyed_answer, sorted}
use Rattle.jq_natives.specs.declared.sorting.KeyedItem.{KeyedItem}

abbrev pub pair_of : KeyedItem → Keyed
pair_of p = (view p.key, view p.item)

abbrev pub groups_in : List (Vec KeyedItem Global) → List (List Keyed)
groups_in gs = map (λ g. map pair_of g.items) gs

-- whether the pair has the key of the group; an empty group accepts every key
abbrev pub goes_with : List Keyed → Keyed → Bool
goes_with [] p = true
goes_with (q ∷ qs) p = is_same (key q) (key p)

-- an array of this one value
abbrev pub in_array : Value → Value
in_array v = array (item v no_items)

-- the item with its key in an array
abbrev pub key_in_array : Keyed → Keyed
key_in_array p = (in_array (key p), kept_item p)

-- the keys themselves, or the only item of each
abbrev pub AreKeysOf : List Value → List Value → Type 0
AreKeysOf ks vs = (ks ≡ vs) ⊎ (ks ≡ map in_array vs)

-- what f makes of pairs stays the same if each key is put into an array
abbrev pub IgnoresArrays : (List Keyed → Value) → Type 0
IgnoresArrays f = (ps : List Keyed) → f (map key_in_array ps) ≡ f ps

-- The answer of each f that ignores such arrays is what it makes of these pairs, the items with their keys.
abbrev pub ArePairsOf : (text : List ℕ) → (value keys : Value) → List Keyed → Type 0
ArePairsOf text v k ps = (f : List Keyed → Value) → IgnoresArrays f → keyed_answer f text v k ≡ Ok (f ps)

-- The same, where f gets the items in the order of their keys.
abbrev pub AreSortedPairsOf : (text : List ℕ) → (value keys : Value) → List Keyed → Type 0
AreSortedPairsOf text v k ps = (f : List Keyed → Value) → IgnoresArrays f → keyed_answer (λ qs. f (sorted qs)) text v k ≡ Ok (f ps)

-- The failure is the error of the answer of each f, or memory ran out.
abbrev pub FailsForPairs : Fail → (text : List ℕ) → (value keys : Value) → Type 0
FailsForPairs e text v k = (f : List Keyed → Value) → FailsAs e (keyed_answer f text v k)
