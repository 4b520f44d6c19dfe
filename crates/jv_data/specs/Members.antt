-- The members of an object: the value at a key, and the members with a key set or removed.
use Rattle.std.specs.Prelude.{◌≡◌, ℕ, List, Option, cond, unwrap_or}
use Rattle.std.specs.declared.cmp.Ordering.TheVariants.{Less}
use Rattle.std.specs.Map.{lookup}
use Rattle.std.specs.Ordering.{match_ordering, is_eq}
use Rattle.jv_data.specs.Value.{Value, null, Members, no_members, member, entries_of, text_cmp}

-- the value at a key
abbrev pub member_at : List ℕ → Members → Option Value
member_at k ms = lookup (λ l. is_eq (text_cmp k l)) (entries_of ms)

-- the value at a key, or null
abbrev pub member_or_null : List ℕ → Members → Value
member_or_null k ms = unwrap_or (member_at k ms) null

-- the members with v at k, replacing any value there; if the keys are in order, k is put at its position in that order
abbrev pub put : List ℕ → Value → Members → Members
put k v no_members = member k v no_members
put k v (member l w ms) = match_ordering (text_cmp k l) (member k v (member l w ms)) (member l v ms) (member l w (put k v ms))

-- the members with nothing at k
abbrev pub without : List ℕ → Members → Members
without k no_members = no_members
without k (member l w ms) = cond (is_eq (text_cmp k l)) ms (member l w (without k ms))

-- k comes before each key
abbrev pub IsBefore : List ℕ → Members → Type 0
IsBefore k no_members = Unit {0}
IsBefore k (member l w ms) = (text_cmp k l ≡ Less) × IsBefore k ms

-- the keys are in order, each key once
abbrev pub IsInOrder : Members → Type 0
IsInOrder no_members = Unit {0}
IsInOrder (member k v ms) = IsBefore k ms × IsInOrder ms
