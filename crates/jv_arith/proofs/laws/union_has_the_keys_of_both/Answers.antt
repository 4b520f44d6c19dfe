use Rattle.jv_arith.proofs.UnionLaws.{member_at-union, union_ordered}
use Rattle.jv_arith.proofs.laws.union_has_the_keys_of_both.Goals as goal

pub returns-clause-found : goal.returns-clause-found
returns-clause-found c = member_at-union

pub returns-clause-ordered : goal.returns-clause-ordered
returns-clause-ordered c = union_ordered
