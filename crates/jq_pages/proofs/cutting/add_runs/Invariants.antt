use Rattle.std.proofs.Common.{take}
use Rattle.std.specs.List.{flat_map}
use Rattle.jq_pages.specs.private.Cuts.{AddsBytes}
use Rattle.jq_pages.specs.private.Reruns.{run_pieces}
use Rattle.jq_pages.proofs.cutting.add_runs.Given as goal

abbrev pub invariant-loop-run : goal.invariant-loop-run
invariant-loop-run g l = AddsBytes l.fn.bytes l.bytes (flat_map run_pieces (take l.run-index l.runs))
