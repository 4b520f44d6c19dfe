use Rattle.std.proofs.Common.{◌≡◌, ◌++◌, length}
use Rattle.std.specs.Prelude.{reverse}
use Rattle.std.specs.Str.{chars}
use Rattle.std.specs.Vec.Iter.{into_iter_items, into_iter_len}
use Rattle.jv_data.specs.Text.{text_of}
use Rattle.jq_natives.proofs.arrays.backwards.Given as goal

-- the result depends only on what is left
abbrev pub invariant-loop-c : goal.invariant-loop-c
invariant-loop-c l =
    (into_iter_len l.c-iterator ≡ length (into_iter_items l.c-iterator)) × (reverse (chars l.text) ≡ text_of l.turned ++ into_iter_items l.c-iterator)
