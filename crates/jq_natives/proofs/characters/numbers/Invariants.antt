use Rattle.std.proofs.Common.{◌≡◌, ◌++◌, map}
use Rattle.jv_data.specs.View.{view}
use Rattle.jq_natives.specs.Answers.{count}
use Rattle.jq_natives.proofs.characters.numbers.Given as goal
use lib.Utf8.{encodes}

abbrev pub invariant-loop-c : goal.invariant-loop-c
invariant-loop-c l = (l.text ≡ encodes l.yielded ++ l.c-iterator.rest.now) × (map view l.numbers.items ≡ map count l.yielded)
