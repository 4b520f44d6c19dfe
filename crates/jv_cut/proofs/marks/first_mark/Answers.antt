use Rattle.std.proofs.Common.{arith}
use Rattle.jv_cut.proofs.Walks.{none_before}
use Rattle.jv_cut.proofs.marks.first_mark.Goals as goal

pub returns-clause-none : goal.returns-clause-none
returns-clause-none c k low high = none_before c.args.marks c.args.from c.ranges.marks.fits k low (omega (arith, c.min.ensures))
