-- The value of a union at a key.
use Rattle.std.specs.Prelude.{Option, is_some, if◌then◌else◌}
use Rattle.jv_data.specs.Value.{Value}

-- the value of the right at a key, or else that of the left
abbrev pub right_or_left : Option Value → Option Value → Option Value
right_or_left r l = (if is_some r then r else l)
