use Rattle.jv_number.proofs.Same.{whole_writes, writes_whole}
use Rattle.jv_number.proofs.laws.shifted_digits_solve_the_equation.Goals as goal

pub returns : goal.returns
returns c = λ text n. (writes_whole text n, whole_writes text n)
