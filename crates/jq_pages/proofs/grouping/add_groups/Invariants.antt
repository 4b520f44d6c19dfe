use Rattle.std.proofs.Common.{◌≡◌, length}
use Rattle.jq_pages.specs.private.Groups.{IsIndex}
use Rattle.jq_pages.proofs.grouping.add_groups.Given as goal

abbrev pub invariant-loop-g : goal.invariant-loop-g
invariant-loop-g g l = record { index : IsIndex l.groups.items l.pages; count : length l.groups.items ≡ l.g }
