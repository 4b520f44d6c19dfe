use Rattle.std.proofs.Common.{◌≡◌, ◌++◌}
use Rattle.std.specs.Prelude.{flat_map}
use Rattle.jv_data.specs.Text.{text_of}
use Rattle.jv_text.specs.private.Escapes.{written_in}
use Rattle.jv_text.proofs.formats.escapes.push_escaped.Given as goal
use lib.Utf8.{encodes}

abbrev pub invariant-loop-c : goal.invariant-loop-c
invariant-loop-c l = (l.text ≡ encodes l.yielded ++ l.c-iterator.rest.now) × (text_of l.out ≡ text_of l.initial.out ++ flat_map (written_in l.escapes) l.yielded)
