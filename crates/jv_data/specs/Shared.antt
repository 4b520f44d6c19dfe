-- The contents of a shared string, array or object.
use Rattle.std.specs.Prelude.{ℕ, List, String, string_bytes}
use Rattle.std.specs.List.{zip}
use Rattle.std.specs.Str.{chars}
use Rattle.std.specs.declared.alloc.Global.{Global}
use Rattle.jv_data.specs.declared.containers.arrays.Array.{Array}
use Rattle.jv_data.specs.declared.containers.characters.Characters.{Characters}
use Rattle.jv_data.specs.declared.containers.characters.Characters.TheVariants.{Short, Long}
use Rattle.jv_data.specs.declared.containers.members.Members.{Members}
use Rattle.jv_data.specs.declared.containers.members.Members.TheVariants.{Few, Many}
use Rattle.jv_data.specs.declared.containers.objects.Object.{Object}
use Rattle.jv_data.specs.declared.containers.texts.SharedText.{SharedText}

-- the bytes of a text, which stand in the value if they are few
abbrev pub bytes_held : Characters → List ℕ
bytes_held (Short s) = s.text.bytes
bytes_held (Long s) = string_bytes s

-- its bytes in UTF-8
abbrev pub bytes_in : SharedText → List ℕ
bytes_in t = bytes_held t.text.value

-- its code points
abbrev pub text_in : SharedText → List ℕ
text_in t = chars (bytes_in t)

abbrev pub items_in : {X : Type 0} → Array X → List X
items_in a = a.items.value.items

-- each name with the value at the same index, or the entries of a map
abbrev pub entries_held : {X : Type 0} → Members X → List (String Global × X)
entries_held (Few names values) = zip names.value.texts.items values.items
entries_held (Many map) = map.entries

abbrev pub entries_in : {X : Type 0} → Object X → List (String Global × X)
entries_in o = entries_held o.members.value
