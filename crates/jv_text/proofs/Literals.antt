-- The definitions that the texts of literals compute through.
use Rattle.std.specs.Str.{chars}
use lib.Utf8.{encode}

unfoldable pub literal : Unit {0}
unfolding chars encode
literal = tt
