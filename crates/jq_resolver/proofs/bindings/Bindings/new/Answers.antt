use Rattle.std.proofs.Common.{subst, sym, rules}
use Rattle.jq_resolver.specs.private.Buckets.{AreLinked}
use Rattle.jq_resolver.proofs.Buckets.{linked_none}
use Rattle.jq_resolver.proofs.bindings.Bindings.new.Goals as goal

pub invariant_of-result : goal.invariant_of-result
invariant_of-result c =
    subst (λ xs. AreLinked xs c.in_ok-latest.latest.items) (sym c.new.ensures.items)
    (linked_none c.in_ok-latest.latest.items (c.in_ok-latest.ensures.items_if_clones_equal (search rules)) (search rules))
