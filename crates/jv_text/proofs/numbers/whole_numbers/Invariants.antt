use Rattle.std.proofs.Common.{◌≤◌}
use Rattle.jv_text.proofs.Runs.{Writing}
use Rattle.jv_text.proofs.numbers.whole_numbers.Given as goal

abbrev pub invariant-loop-i : goal.invariant-loop-i
invariant-loop-i l =
    (l.start ≤ l.i)
    × Writing l.text l.out.items l.quote l.start l.i
