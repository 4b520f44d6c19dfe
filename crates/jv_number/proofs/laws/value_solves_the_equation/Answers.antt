use Rattle.jv_number.proofs.Same.{value_exact, exact_value}
use Rattle.jv_number.proofs.laws.value_solves_the_equation.Goals as goal

pub returns : goal.returns
returns c = λ text z. (value_exact text z, exact_value text z)
