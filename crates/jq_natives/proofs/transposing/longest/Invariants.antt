use Rattle.std.proofs.Common.{◌≡◌, drop}
use Rattle.std.specs.Prelude.{max}
use Rattle.jq_natives.specs.Arrays.{longest}
use Rattle.jq_natives.specs.private.Lists.{lists_in}
use Rattle.jq_natives.proofs.transposing.longest.Given as goal

-- the result depends only on what is left
abbrev pub invariant-loop-list : goal.invariant-loop-list
invariant-loop-list l = longest (lists_in l.lists) ≡ max l.longest (longest (lists_in (drop l.list-index l.lists)))
