-- Where a value occurs in another (manual of jq 1.7, "indices(s)", "index(s), rindex(s)").
use Rattle.std.specs.Prelude.{ℕ, List, [], ◌∷◌, length, drop, nat_eq, Bool, filter, codes, Ok}
use Rattle.std.specs.List.{starts_with, range_with_len}
use Rattle.jv_data.specs.Fails.{raised_kinds}
use Rattle.jv_data.specs.Value.{Value, null, string, array, Items, no_items, item, values_of}
use Rattle.jv_value.specs.Results.{map_ok}
use Rattle.jq_natives.specs.Answers.{Answer, counts, is_same}
use Rattle.jq_natives.specs.declared.native.Native.TheVariants as native
use Rattle.jq_natives.specs.Entries.{NativeEntry, with_one}

-- the indices of the whole at which the part begins, also where occurrences overlap
abbrev pub places_of : {X : Type 0} → (X → X → Bool) → List X → List X → List ℕ
places_of same [] whole = []
places_of same (x ∷ part) whole = filter (λ i. starts_with same (drop i whole) (x ∷ part)) (range_with_len 0 (length whole))

-- an array is searched as consecutive items, another value as one item
abbrev pub sought : Value → List Value
sought (array vs) = values_of vs
sought v = v ∷ []

abbrev pub indices_of : Value → Value → Answer
indices_of null v = Ok null
indices_of (string whole) (string part) = Ok (counts (places_of nat_eq part whole))
indices_of (array vs) v = Ok (counts (places_of is_same (sought v) (values_of vs)))
indices_of v w = raised_kinds v w (codes " cannot be searched")

abbrev pub first_item : Value → Value
first_item (array (item v vs)) = v
first_item v = null

abbrev pub last_of : Value → Items → Value
last_of v no_items = v
last_of v (item w ws) = last_of w ws

abbrev pub last_item : Value → Value
last_item (array vs) = last_of null vs
last_item v = null

-- the first index and the last one, or null
abbrev pub index_native_of : Value → Value → Answer
index_native_of v w = map_ok first_item (indices_of v w)

abbrev pub rindex_native_of : Value → Value → Answer
rindex_native_of v w = map_ok last_item (indices_of v w)

-- the natives of searching
abbrev pub searching_natives : List NativeEntry
searching_natives =
    with_one (codes "indices") native.Indices indices_of
    ∷ with_one (codes "index") native.Index index_native_of
    ∷ with_one (codes "rindex") native.LastIndex rindex_native_of
    ∷ []
