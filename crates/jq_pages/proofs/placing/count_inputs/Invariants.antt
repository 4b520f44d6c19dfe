use Rattle.std.proofs.Common.{◌≡◌, take}
use Rattle.jq_pages.specs.private.Reruns.{count_in}
use Rattle.jq_pages.proofs.placing.count_inputs.Given as goal

abbrev pub invariant-loop-page : goal.invariant-loop-page
invariant-loop-page g l = l.count ≡ count_in (take l.page-index l.pages)
