-- Sorting, grouping and choosing by keys
-- (manual of jq 1.7, "sort, sort_by(path_expression)", "group_by(path_expression)", "min, max, min_by(path_exp), max_by(path_exp)", "unique, unique_by(path_exp)").
use Rattle.std.specs.Prelude.{ℕ, List, [], ◌∷◌, length, map, nat_eq, Bool, codes, if◌then◌else◌, Ok, zip}
use Rattle.std.specs.Ordering.{is_lt}
use Rattle.jv_data.specs.Fails.{raised, raised_kind}
use Rattle.jv_data.specs.Value.{Value, null, array, items_of, values_of, compare}
use Rattle.jq_natives.specs.Answers.{Answer, is_same}
use Rattle.jq_natives.specs.declared.native.Native.TheVariants as native
use Rattle.jq_natives.specs.Entries.{NativeEntry, with_one}

-- an item of an array with the key that it is sorted by
abbrev pub Keyed : Type 0
Keyed = Value × Value

abbrev pub key : Keyed → Value
key p = p.0

abbrev pub kept_item : Keyed → Value
kept_item p = p.1

-- whether the first item's key is below the second's
abbrev pub below_key : Keyed → Keyed → Bool
below_key p q = is_lt (compare (key p) (key q))

-- inserts x in front of the first element that is not below it
abbrev pub put_by : {X : Type 0} → (X → X → Bool) → X → List X → List X
put_by below x [] = x ∷ []
put_by below x (y ∷ ys) = if below y x then y ∷ put_by below x ys else x ∷ y ∷ ys

abbrev pub sorted_by : {X : Type 0} → (X → X → Bool) → List X → List X
sorted_by below [] = []
sorted_by below (x ∷ xs) = put_by below x (sorted_by below xs)

abbrev pub sorted : List Keyed → List Keyed
sorted ps = sorted_by below_key ps

-- p joins the first group if the keys are the same, else it makes a group of its own
abbrev pub join_group : Keyed → List (List Keyed) → List (List Keyed)
join_group p [] = (p ∷ []) ∷ []
join_group p ([] ∷ gs) = (p ∷ []) ∷ gs
join_group p ((q ∷ qs) ∷ gs) = if is_same (key p) (key q) then (p ∷ q ∷ qs) ∷ gs else (p ∷ []) ∷ (q ∷ qs) ∷ gs

-- groups of neighbours that have the same key
abbrev pub groups : List Keyed → List (List Keyed)
groups [] = []
groups (p ∷ ps) = join_group p (groups ps)

abbrev pub array_of : List Keyed → Value
array_of ps = array (items_of (map kept_item ps))

abbrev pub first_of_group : List Keyed → Value
first_of_group [] = null
first_of_group (p ∷ ps) = kept_item p

abbrev pub last_of_group : List Keyed → Value
last_of_group [] = null
last_of_group (p ∷ []) = kept_item p
last_of_group (p ∷ q ∷ ps) = last_of_group (q ∷ ps)

abbrev pub unmatched_keys : Answer
unmatched_keys = raised (codes "keys do not match")

-- applies f to the items of an array with their keys; a value of another kind raises an error with the text
abbrev pub keyed_answer : (List Keyed → Value) → List ℕ → Value → Value → Answer
keyed_answer f text (array vs) (array ks) =
    if nat_eq (length (values_of vs)) (length (values_of ks)) then Ok (f (zip (values_of ks) (values_of vs)))
    else unmatched_keys
keyed_answer f text (array vs) k = unmatched_keys
keyed_answer f text v k = raised_kind v text

abbrev pub sort_by_of : Value → Value → Answer
sort_by_of = keyed_answer (λ ps. array_of (sorted ps)) (codes " cannot be sorted, as it is not an array")

-- what f makes of the group of each key, in the order of the keys
abbrev pub grouped_answer : (List Keyed → Value) → Value → Value → Answer
grouped_answer f = keyed_answer (λ ps. array (items_of (map f (groups (sorted ps))))) (codes " cannot be grouped, as it is not an array")

-- one array for each key
abbrev pub group_by_of : Value → Value → Answer
group_by_of = grouped_answer array_of

-- the first item of each key
abbrev pub unique_by_of : Value → Value → Answer
unique_by_of = grouped_answer first_of_group

-- what f chooses from the items in the order of their keys
abbrev pub chosen_answer : (List Keyed → Value) → Value → Value → Answer
chosen_answer f = keyed_answer (λ ps. f (sorted ps)) (codes " has no least or greatest item")

-- the first item of the least key, or null if there is no item
abbrev pub min_by_of : Value → Value → Answer
min_by_of = chosen_answer first_of_group

-- the last item of the greatest key, or null if there is no item
abbrev pub max_by_of : Value → Value → Answer
max_by_of = chosen_answer last_of_group

-- the natives of sorting by keys; the argument is the array of the items' keys
abbrev pub sorting_natives : List NativeEntry
sorting_natives =
    with_one (codes "_sort_by") native.SortBy sort_by_of
    ∷ with_one (codes "_group_by") native.GroupBy group_by_of
    ∷ with_one (codes "_unique_by") native.UniqueBy unique_by_of
    ∷ with_one (codes "_min_by") native.MinBy min_by_of
    ∷ with_one (codes "_max_by") native.MaxBy max_by_of
    ∷ []
