use Rattle.std.proofs.Common.{◌≤◌, ◌-◌, length, map, string_bytes}
use Rattle.jv_data.proofs.Names.{IsPast, IsAhead}
use Rattle.jv_data.proofs.containers.names.find.Given as goal

-- the name comes after the texts before `low`, and before those from `high` on
abbrev pub invariant-loop-low : goal.invariant-loop-low
invariant-loop-low l =
    (l.low ≤ l.high) × (l.high ≤ length l.texts) × IsPast l.name (map string_bytes l.texts) l.low × IsAhead l.name (map string_bytes l.texts) l.high

abbrev pub decreases-loop-low : goal.decreases-loop-low
decreases-loop-low l = l.high - l.low
