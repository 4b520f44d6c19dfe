-- How large totals are: a piece has less than 2 ^ 64 bytes of output, and of errors.
use Rattle.std.specs.Prelude.{ℕ, ◌*◌, ◌≤◌}
use Rattle.jq_pages.specs.declared.totals.Totals.{Totals}

-- These may be the totals of so many pieces.
pub record IsBounded (t : Totals) (count : ℕ) : Type 0 where
  pub out : t.out ≤ count * 18446744073709551616
  pub err : t.err ≤ count * 18446744073709551616
  pub failed : t.failed ≤ count
