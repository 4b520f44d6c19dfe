-- The items, the members and the bytes of a value in the code, from what it represents.
use Rattle.std.proofs.Common.{◌≡◌, ◌∙◌, suc, List, [], ◌∷◌, length, map, String, Global, refl, ap}
use Rattle.std.proofs.lemmas.List.{length-map}
use Rattle.std.proofs.lemmas.Str.{encodes-chars, IsUtf8-had, IsUtf8-string_bytes}
use Rattle.std.specs.Prelude.{encode_utf8_all, IsUtf8}
use Rattle.jv_data.proofs.shared.Items.{values_of-items_of}
use Rattle.jv_data.specs.Value.{values_of, keys}
use Rattle.jv_data.specs.View.{view, items_view, members_view}
use Rattle.jv_data.specs.Shared.{bytes_held, bytes_in, text_in, items_in, entries_in}
use Rattle.jv_data.specs.declared.containers.characters.Characters.{Characters}
use Rattle.jv_data.specs.declared.containers.characters.Characters.TheVariants.{Short, Long}
use Rattle.jv_data.specs.declared.containers.texts.SharedText.{SharedText}
use Rattle.jv_data.specs.declared.containers.arrays.Array.{Array}
use Rattle.jv_data.specs.declared.containers.objects.Object.{Object}
use Rattle.jv_data.specs.declared.values.Val.{Val}

-- the list of an array's items
pub values-List : (a : Array Val) → values_of (items_view (items_in a)) ≡ map view (items_in a)
values-List a = values_of-items_of (map view (items_in a))

pub length-List : (a : Array Val) → length (values_of (items_view (items_in a))) ≡ length (items_in a)
length-List a = ap length (values-List a) ∙ length-map (items_in a) view

names-count : (es : List (String Global × Val)) → length (keys (members_view es)) ≡ length es
names-count [] = refl
names-count (e ∷ es) = ap suc (names-count es)

pub length-Table : (o : Object Val) → length (keys (members_view (entries_in o))) ≡ length (entries_in o)
length-Table o = names-count (entries_in o)

-- a text is UTF-8
held_utf8 : (c : Characters) → IsUtf8 (bytes_held c)
held_utf8 (Short s) = IsUtf8-had s.text.bytes s.utf8
held_utf8 (Long s) = IsUtf8-string_bytes s

pub text_utf8 : (t : SharedText) → IsUtf8 (bytes_in t)
text_utf8 t = held_utf8 t.text.value

-- the bytes of a text's code points
pub bytes_back : (t : SharedText) → encode_utf8_all (text_in t) ≡ bytes_in t
bytes_back t = encodes-chars (bytes_in t) (text_utf8 t)
