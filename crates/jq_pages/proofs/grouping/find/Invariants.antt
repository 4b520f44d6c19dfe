use Rattle.std.proofs.Common.{◌≡◌, ◌+◌, ◌*◌, take}
use Rattle.jq_pages.specs.private.Reruns.{count_in}
use Rattle.jq_pages.proofs.grouping.find.Given as goal

abbrev pub invariant-loop-g : goal.invariant-loop-g
invariant-loop-g g l = count_in (take (128 * l.g) l.pages) + l.left ≡ l.fn.place
