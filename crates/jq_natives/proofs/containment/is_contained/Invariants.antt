use Rattle.std.proofs.Common.{◌≡◌}
use Rattle.jv_data.specs.View.{view}
use Rattle.jq_natives.specs.Containment.{contained_in}
use Rattle.jq_natives.specs.private.Searches.{leads_to}
use Rattle.jq_natives.proofs.Searched.{after_all}
use Rattle.jq_natives.proofs.containment.is_contained.Given as goal

-- what the step leads to, and then the open searches, is the answer
abbrev pub invariant-loop : goal.invariant-loop
invariant-loop l = after_all l.open.items (leads_to l.step) ≡ contained_in (view l.part) (view l.whole)
