use Rattle.std.proofs.Common.{◌≡◌, ◌++◌, map}
use Rattle.jv_data.specs.Held.{members_in}
use Rattle.jv_data.specs.View.{view, members_view}
use Rattle.jv_data.specs.Value.{entries_of}
use Rattle.jv_value.proofs.parts.member_copies.Given as goal

abbrev pub invariant-loop-value : goal.invariant-loop-value
invariant-loop-value l = map view l.copied.items ++ map (λ e. e.1) (entries_of (members_view l.value-iterator)) ≡ map (λ e. e.1) (entries_of (members_in l.members))
