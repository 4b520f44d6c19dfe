-- The value of JSON data, and the data of a value. Strings of JSON data are UTF-8, those of a value are code points.
use Rattle.std.specs.Prelude.{Option, Some, option_map, option_and_then, encode_utf8_all}
use Rattle.std.specs.Str.{chars}
use Rattle.serde_json.specs.Data as json
use Rattle.serde_json.specs.Find.{as_i64, of_integer}
use Rattle.jv_data.specs.Value.{Value, null, boolean, number, string, array, object, Items, no_items, item, Members, no_members, member}

-- each number must be a whole number of 64 bits
abbrev mutual
  pub value_of : json.Data → Option Value
  value_of json.null = Some null
  value_of (json.boolean b) = Some (boolean b)
  value_of (json.number n) = option_map number (as_i64 n)
  value_of (json.string s) = Some (string (chars s))
  value_of (json.array ds) = option_map array (items_of ds)
  value_of (json.object ms) = option_map object (members_of ms)

  pub items_of : json.Items → Option Items
  items_of json.no_items = Some no_items
  items_of (json.item d ds) = option_and_then (λ v. option_map (item v) (items_of ds)) (value_of d)

  pub members_of : json.Members → Option Members
  members_of json.no_members = Some no_members
  members_of (json.member k d ms) = option_and_then (λ v. option_map (member (chars k) v) (members_of ms)) (value_of d)

abbrev mutual
  pub data_of : Value → json.Data
  data_of null = json.null
  data_of (boolean b) = json.boolean b
  data_of (number z) = json.number (of_integer z)
  data_of (string s) = json.string (encode_utf8_all s)
  data_of (array vs) = json.array (items_data vs)
  data_of (object ms) = json.object (members_data ms)

  pub items_data : Items → json.Items
  items_data no_items = json.no_items
  items_data (item v vs) = json.item (data_of v) (items_data vs)

  pub members_data : Members → json.Members
  members_data no_members = json.no_members
  members_data (member k v ms) = json.member (encode_utf8_all k) (data_of v) (members_data ms)
