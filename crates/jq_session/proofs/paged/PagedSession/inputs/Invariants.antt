use Rattle.std.proofs.Common.{◌≡◌, map, take}
use Rattle.std.specs.List.{flat_map}
use Rattle.jv_data.specs.View.{view}
use Rattle.jq_pages.specs.Contents.{inputs_paged_in}
use Rattle.jq_session.proofs.paged.PagedSession.inputs.Given as goal

abbrev pub invariant-loop-j : goal.invariant-loop-j
invariant-loop-j g l = map view l.inputs.items ≡ flat_map (λ vs. vs) (take l.j (inputs_paged_in l.self.pages))
