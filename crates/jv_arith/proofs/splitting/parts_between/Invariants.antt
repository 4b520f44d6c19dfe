use Rattle.std.proofs.Common.{◌≡◌, ◌++◌, map, length, zero}
use Rattle.std.specs.Str.{chars, IsUtf8}
use Rattle.jv_data.specs.Value.{string}
use Rattle.jv_data.specs.View.{view}
use Rattle.jv_arith.specs.Strings.{parts_after}
use Rattle.jv_arith.proofs.splitting.parts_between.Given as goal

abbrev pub invariant-loop-part : goal.invariant-loop-part
invariant-loop-part l = IsUtf8 l.rest × (map string (parts_after (chars l.separator) zero (chars l.text)) ≡ map view l.parts.items ++ map string (parts_after (chars l.separator) zero (chars l.rest)))

abbrev pub decreases-loop-part : goal.decreases-loop-part
decreases-loop-part l = length l.rest
