-- Whether a value contains another (manual of jq 1.7, "contains(element)").
use Rattle.std.specs.Prelude.{ℕ, ◌+◌, List, [], ◌∷◌, length, drop, nat_eq, Bool, true, false, ◌&&◌, codes, if◌then◌else◌}
use Rattle.std.specs.Option.{option_map_or}
use Rattle.std.specs.List.{list_any, starts_with, range_with_len}
use Rattle.jv_data.specs.Fails.{raised_kinds}
use Rattle.jv_data.specs.Members.{member_at}
use Rattle.jv_data.specs.Value.{Value, string, array, object, Items, no_items, item, values_of, Members, no_members, member, rank}
use Rattle.jq_natives.specs.Answers.{Answer, yes_or_no, is_same}
use Rattle.jq_natives.specs.declared.native.Native.TheVariants as native
use Rattle.jq_natives.specs.Entries.{NativeEntry, with_one}

-- the part occurs in the whole text
abbrev pub is_within : List ℕ → List ℕ → Bool
is_within part whole = list_any (λ i. starts_with nat_eq (drop i whole) part) (range_with_len 0 (length whole + 1))

-- whether the first value is contained in the second: a string as a substring, an array if each item is contained in some item,
-- an object if each member is contained in the member of the same key, else an equal value
abbrev mutual
  pub contained_in : Value → Value → Bool
  contained_in (string part) (string whole) = is_within part whole
  contained_in (array parts) (array wholes) = items_contained parts wholes
  contained_in (object parts) (object wholes) = members_contained parts wholes
  contained_in part whole = is_same part whole

  pub items_contained : Items → Items → Bool
  items_contained no_items wholes = true
  items_contained (item part parts) wholes = list_any (contained_in part) (values_of wholes) && items_contained parts wholes

  pub members_contained : Members → Members → Bool
  members_contained no_members wholes = true
  members_contained (member k part parts) wholes = option_map_or (contained_in part) (member_at k wholes) false && members_contained parts wholes

-- two values of one kind, of which the first may contain the second
abbrev pub contains_of : Value → Value → Answer
contains_of v w =
    if nat_eq (rank v) (rank w) then yes_or_no (contained_in w v)
    else raised_kinds v w (codes " cannot have their containment checked")

-- the native of containment
abbrev pub containment_natives : List NativeEntry
containment_natives = with_one (codes "contains") native.Contains contains_of ∷ []
