-- Objects under `+` and `*`.
use Rattle.jv_data.specs.Members.{member_or_null, put}
use Rattle.jv_data.specs.Value.{Value, object, Members, no_members, member}

-- the members of both; a key of both has the value of the right
abbrev pub union : Members → Members → Members
union ms no_members = ms
union ms (member k v ns) = put k v (union ms ns)

-- the members of both: two objects at one key are united in the same way, otherwise the value of the right wins
abbrev mutual
  pub deep_union : Members → Members → Members
  deep_union ms no_members = ms
  deep_union ms (member k v ns) = put k (united (member_or_null k ms) v) (deep_union ms ns)

  pub united : Value → Value → Value
  united (object ms) (object ns) = object (deep_union ms ns)
  united w v = v
