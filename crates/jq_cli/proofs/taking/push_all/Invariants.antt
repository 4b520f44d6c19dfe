use Rattle.std.proofs.Common.{◌≡◌, ◌++◌}
use Rattle.std.specs.Vec.Iter.{into_iter_items}
use Rattle.jq_cli.proofs.taking.push_all.Given as goal

abbrev pub invariant-loop-word : goal.invariant-loop-word
invariant-loop-word l = l.left.items ++ into_iter_items l.word-iterator ≡ l.initial.left.items ++ into_iter_items l.fn.words
