use Rattle.std.proofs.Common.{◌≡◌, ◌+◌, ◌-◌, ◌≤◌, false}
use Rattle.jv_cut.specs.private.Scan.{Leads}
use Rattle.jv_cut.specs.Text.{nested, is_level, max_nesting}
use Rattle.jv_cut.proofs.scanning.walk.Given as goal

abbrev pub invariant-marks : goal.invariant-marks
invariant-marks l = record {
  unclosed : is_level l.nest ≡ false;
  shallow : l.nest.depth ≤ max_nesting;
  within : l.place ≤ 64;
  leads : Leads l.bytes (l.at + l.place) (λ later more. nested (l.at + l.place) l.nest more);
}

abbrev pub decreases-marks : goal.decreases-marks
decreases-marks l = 64 - l.place
