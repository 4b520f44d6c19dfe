-- Deleting indexes of an array or keys of an object at once: what remains is all that none of them names in the original
-- value.
use Rattle.std.specs.Prelude.{◌≡◌, ◌+◌, ◌==◌, ℕ, ℤ, Bool, false, List, [], ◌∷◌, length, map, if◌then◌else◌, Ok}
use Rattle.std.specs.List.{list_any}
use Rattle.std.specs.Option.{option_map_or}
use Rattle.std.specs.Ordering.{is_eq}
use Rattle.jv_data.specs.Value.{number, string, array, object, Items, no_items, item, Members, no_members, member, values_of, text_cmp}
use Rattle.jv_value.specs.DeletePaths.{delpaths_of}
use Rattle.jv_value.specs.Index.{place_of}

-- whether an index names item k of an array of n items; a negative one counts from the end
abbrev pub names_item : ℕ → ℕ → ℤ → Bool
names_item n k i = option_map_or (λ j. k == j) (place_of n i) false

-- the items from index k on that none of the indexes names
abbrev pub unnamed_items : ℕ → List ℤ → ℕ → Items → Items
unnamed_items n is k no_items = no_items
unnamed_items n is k (item v vs) = if list_any (names_item n k) is then unnamed_items n is (k + 1) vs else (item v (unnamed_items n is (k + 1) vs))

-- the members whose key is none of these
abbrev pub unnamed_members : List (List ℕ) → Members → Members
unnamed_members ks no_members = no_members
unnamed_members ks (member s v ms) = if list_any (λ k. is_eq (text_cmp s k)) ks then unnamed_members ks ms else (member s v (unnamed_members ks ms))

abbrev pub IndexesGoAtOnce : Type 0
IndexesGoAtOnce = (vs : Items) (is : List ℤ) → delpaths_of (array vs) (map (λ i. number i ∷ []) is) ≡ Ok (array (unnamed_items (length (values_of vs)) is 0 vs))

abbrev pub KeysGoAtOnce : Type 0
KeysGoAtOnce = (ms : Members) (ks : List (List ℕ)) → delpaths_of (object ms) (map (λ k. string k ∷ []) ks) ≡ Ok (object (unnamed_members ks ms))
