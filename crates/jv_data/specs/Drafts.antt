-- The members of an object that is not complete.
use Rattle.std.specs.Prelude.{◌≡◌, ◌<◌, ℕ, List, [], ◌∷◌, Option, Some, None, String, string_bytes, length, map}
use Rattle.std.specs.declared.alloc.Global.{Global}
use Rattle.jv_data.specs.Held.{members_in}
use Rattle.jv_data.specs.View.{members_view}
use Rattle.jv_data.specs.declared.containers.drafts.Draft.{Draft}
use Rattle.jv_data.specs.declared.containers.drafts.Parts.{Parts}
use Rattle.jv_data.specs.declared.containers.drafts.Parts.TheVariants as parts
use Rattle.jv_data.specs.declared.containers.drafts.Place.{Place}
use Rattle.jv_data.specs.declared.containers.drafts.Place.TheVariants as place
use Rattle.jv_data.specs.declared.containers.slots.Slots.{Slots}
use Rattle.jv_data.specs.declared.values.Val.{Val}
use Rattle.jv_data.specs.Names.{IsAt}
use Rattle.jv_data.specs.Value.{Members, no_members}

-- the names that have a value, with their values
abbrev pub present : {X : Type 0} → List (String Global) → List (Option X) → List (String Global × X)
present [] slots = []
present (n ∷ ns) [] = []
present (n ∷ ns) (None ∷ slots) = present ns slots
present (n ∷ ns) (Some v ∷ slots) = (n, v) ∷ present ns slots

abbrev pub held_in : Slots → List (String Global × Val)
held_in s = present s.names.value.texts.items s.values.items

-- the name is the one at this index, which has room for a value
abbrev pub IsIn : Slots → ℕ → List ℕ → Type 0
IsIn s i name = IsAt name (map string_bytes s.names.value.texts.items) i × (i < length s.values.items)

abbrev pub members_of_parts : Parts → Members
members_of_parts parts.Empty = no_members
members_of_parts (parts.Known s) = members_view (held_in s)
members_of_parts (parts.Own o) = members_in o

abbrev pub drafted : Draft → Members
drafted d = members_of_parts d.parts

abbrev pub IsPlaceOf : Parts → Place → List ℕ → Type 0
IsPlaceOf parts.Empty p name = ⊥
IsPlaceOf (parts.Known s) (place.Known i) name = IsIn s i name
IsPlaceOf (parts.Known s) (place.Own t) name = ⊥
IsPlaceOf (parts.Own o) (place.Known i) name = ⊥
IsPlaceOf (parts.Own o) (place.Own t) name = string_bytes t ≡ name

-- the place in a draft is that of the name with these bytes
abbrev pub IsPlace : Draft → Place → List ℕ → Type 0
IsPlace d p name = IsPlaceOf d.parts p name
