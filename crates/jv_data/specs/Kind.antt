-- The kind of a value, and its name (manual of jq 1.7, "type").
use Rattle.std.specs.Prelude.{ℕ, List, codes}
use Rattle.jv_data.specs.Value.{Value, null, boolean, number, string, array, object}
use Rattle.jv_data.specs.declared.kinds.Kind.{Kind}
use Rattle.jv_data.specs.declared.kinds.Kind.TheVariants.{Null, Boolean, Number, String, Array, Object}

abbrev pub kind_of : Value → Kind
kind_of null = Null
kind_of (boolean b) = Boolean
kind_of (number n) = Number
kind_of (string s) = String
kind_of (array vs) = Array
kind_of (object ms) = Object

-- the name as code points, which are also its bytes
abbrev pub kind_name : Value → List ℕ
kind_name null = codes "null"
kind_name (boolean b) = codes "boolean"
kind_name (number n) = codes "number"
kind_name (string s) = codes "string"
kind_name (array vs) = codes "array"
kind_name (object ms) = codes "object"
