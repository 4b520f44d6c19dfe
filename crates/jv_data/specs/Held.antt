-- The contents of an array or an object of values.
use Rattle.std.specs.Prelude.{List, map}
use Rattle.jv_data.specs.Shared.{items_in}
use Rattle.jv_data.specs.Value.{Value, null, boolean, number, string, array, object, Members, no_members}
use Rattle.jv_data.specs.View.{view}
use Rattle.jv_data.specs.declared.values.Val.{Val}
use Rattle.jv_data.specs.declared.values.Val as val
use Rattle.jv_data.specs.declared.containers.arrays.Array.{Array}
use Rattle.jv_data.specs.declared.containers.objects.Object.{Object}

abbrev pub values_in : Array Val → List Value
values_in a = map view (items_in a)

-- the members of an object; another value has none
abbrev pub members_of_value : Value → Members
members_of_value null = no_members
members_of_value (boolean b) = no_members
members_of_value (number n) = no_members
members_of_value (string s) = no_members
members_of_value (array vs) = no_members
members_of_value (object ms) = ms

-- the members of the value that the object is
abbrev pub members_in : Object Val → Members
members_in o = members_of_value (view (val.Table o))
