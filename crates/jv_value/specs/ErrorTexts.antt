-- The texts of the errors about parts of values, as code points.
use Rattle.std.specs.Prelude.{ℕ, List, ◌++◌, codes}
use Rattle.json.specs.Print.{quoted}
use Rattle.jv_data.specs.Kind.{kind_name}
use Rattle.jv_data.specs.Value.{Value, string}

-- how an error names a key: a string by the JSON string that the printer writes for it, any other value by its kind
abbrev pub key_name : Value → List ℕ
key_name (string s) = quoted s
key_name k = kind_name k

-- a value and the name of the key that it does not accept
unfoldable pub cannot_index : Value → List ℕ → List ℕ
cannot_index v k = codes "Cannot index " ++ (kind_name v ++ (codes " with " ++ k))

unfoldable pub not_slice_bounds : List ℕ
not_slice_bounds = codes "Start and end indices of an array slice must be numbers"

unfoldable pub cannot_iterate : Value → List ℕ
cannot_iterate v = codes "Cannot iterate over " ++ kind_name v

unfoldable pub index_too_large : List ℕ
index_too_large = codes "Array index too large"

unfoldable pub index_before_start : List ℕ
index_before_start = codes "Out of bounds negative array index"

unfoldable pub slice_needs_array : List ℕ
slice_needs_array = codes "A slice of an array can only be assigned another array"
