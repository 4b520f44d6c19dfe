use Rattle.std.proofs.Common.{map, string_bytes, length}
use Rattle.std.specs.Vec.Iter.{into_iter_items}
use Rattle.jq_syntax.specs.Chosen.{variables_of}
use Rattle.jq_cli.proofs.Dividing.{IsRead}
use Rattle.jq_cli.proofs.taking.take_args.Given as goal

abbrev pub decreases-loop-word : goal.decreases-loop-word
decreases-loop-word l = length (into_iter_items l.words)

abbrev pub invariant-loop-word : goal.invariant-loop-word
invariant-loop-word l = IsRead (map string_bytes l.fn.words.items) (map string_bytes (into_iter_items l.words)) (map string_bytes l.left.items) (variables_of l.vars.items)
