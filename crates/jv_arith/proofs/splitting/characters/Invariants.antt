use Rattle.std.proofs.Common.{◌≡◌, ◌++◌, map}
use Rattle.jv_data.specs.Value.{string}
use Rattle.jv_data.specs.View.{view}
use Rattle.jv_arith.specs.Strings.{single}
use Rattle.jv_arith.proofs.splitting.characters.Given as goal
use lib.Utf8.{encodes}

abbrev pub invariant-loop-c : goal.invariant-loop-c
invariant-loop-c l = (l.text ≡ encodes l.yielded ++ l.c-iterator.rest.now) × (map view l.parts.items ≡ map string (map single l.yielded))
