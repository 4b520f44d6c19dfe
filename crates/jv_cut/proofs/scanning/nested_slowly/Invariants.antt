use Rattle.std.proofs.Common.{◌≡◌, ◌≤◌, false}
use Rattle.jv_cut.specs.private.Scan.{Leads}
use Rattle.jv_cut.specs.Text.{nested, is_level, max_nesting}
use Rattle.jv_cut.proofs.scanning.nested_slowly.Given as goal

abbrev pub invariant-loop-i : goal.invariant-loop-i
invariant-loop-i l = (is_level l.nest ≡ false) × (l.nest.depth ≤ max_nesting) × Leads l.bytes l.i (λ later more. nested l.i l.nest more)
