use Rattle.std.proofs.Common.{◌≡◌, ◌+◌, ◌/◌, length}
use Rattle.jq_pages.specs.private.Groups.{IsIndexBut}
use Rattle.jq_pages.proofs.grouping.sum_again.Given as goal

abbrev pub invariant-loop-g : goal.invariant-loop-g
invariant-loop-g g l = record { others : IsIndexBut l.groups.items l.pages l.g (l.last / 128 + 1); count : length l.groups.items ≡ length l.fn.groups.items }
