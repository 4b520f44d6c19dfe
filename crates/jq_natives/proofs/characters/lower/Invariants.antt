use Rattle.std.proofs.Common.{◌≡◌, ◌++◌, map}
use Rattle.jv_data.specs.Text.{text_of}
use Rattle.jq_natives.specs.Texts.{ascii_lower}
use Rattle.jq_natives.proofs.characters.lower.Given as goal
use lib.Utf8.{encodes}

abbrev pub invariant-loop-c : goal.invariant-loop-c
invariant-loop-c l = (l.text ≡ encodes l.yielded ++ l.c-iterator.rest.now) × (text_of l.changed ≡ map ascii_lower l.yielded)
