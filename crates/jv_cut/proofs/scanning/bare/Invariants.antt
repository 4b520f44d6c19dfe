use Rattle.jv_cut.specs.private.Scan.{Leads}
use Rattle.jv_cut.specs.Text.{bare}
use Rattle.jv_cut.proofs.scanning.bare.Given as goal

abbrev pub invariant-loop-i : goal.invariant-loop-i
invariant-loop-i l = Leads l.bytes l.i (λ later more. bare l.i later more)
