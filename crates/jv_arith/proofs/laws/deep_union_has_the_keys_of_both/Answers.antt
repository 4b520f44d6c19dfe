use Rattle.jv_arith.proofs.UnionLaws.{member_at-deep_union, deep_union_ordered}
use Rattle.jv_arith.proofs.laws.deep_union_has_the_keys_of_both.Goals as goal

pub returns-clause-found : goal.returns-clause-found
returns-clause-found c = member_at-deep_union

pub returns-clause-ordered : goal.returns-clause-ordered
returns-clause-ordered c = deep_union_ordered
