use Rattle.std.proofs.Common.{◌≡◌, ◌+◌, take}
use Rattle.jq_pages.specs.private.Reruns.{count_in}
use Rattle.jq_pages.proofs.grouping.find_in.Given as goal

abbrev pub invariant-loop-j : goal.invariant-loop-j
invariant-loop-j g l = count_in (take l.j l.pages) + l.left ≡ l.fn.place
