use Rattle.std.proofs.Common.{◌≡◌, ◌-◌, ◌≤◌, false}
use Rattle.jv_cut.specs.private.Scan.{Leads}
use Rattle.jv_cut.specs.Text.{nested, is_level, max_nesting}
use Rattle.jv_cut.proofs.scanning.nested.Given as goal

abbrev pub invariant-whole : goal.invariant-whole
invariant-whole l = record {
  unclosed : is_level l.nest ≡ false;
  shallow : l.nest.depth ≤ max_nesting;
  within : l.at ≤ l.end;
  leads : Leads l.bytes l.at (λ later more. nested l.at l.nest more);
}

abbrev pub decreases-whole : goal.decreases-whole
decreases-whole l = l.end - l.at
