-- The text of a string of the code.
use Rattle.std.specs.Prelude.{ℕ, List, String, string_bytes}
use Rattle.std.specs.Str.{chars}
use Rattle.std.specs.declared.alloc.Global.{Global}

-- its code points
abbrev pub text_of : String Global → List ℕ
text_of s = chars (string_bytes s)
