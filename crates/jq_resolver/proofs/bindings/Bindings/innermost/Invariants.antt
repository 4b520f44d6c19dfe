use Rattle.std.proofs.Common.{◌≡◌, ◌≤◌, ℕ, suc, false, length, map, reverse, drop, get_or}
use Rattle.jq_tree.specs.Names.{is_bound}
use Rattle.jq_resolver.specs.private.Bindings.{reference_in, referred}
use Rattle.jq_resolver.specs.private.Buckets.{bucket_in, bucket_of}
use Rattle.jq_resolver.proofs.bindings.Bindings.innermost.Given as goal

abbrev pub decreases-loop-left : goal.decreases-loop-left
decreases-loop-left l = l.left

-- the binders from `left` on have other names, and the one before it is of the name's bucket
abbrev pub invariant-loop-left : goal.invariant-loop-left
invariant-loop-left l = record {
  within : l.left ≤ length l.self-inside.binders.items;
  belongs : (i : ℕ) → suc i ≡ l.left → get_or (map bucket_in l.self-inside.binders.items) i 0 ≡ bucket_of l.kind l.name;
  unbound : is_bound (referred l.kind l.name) (reverse (map reference_in (drop l.left l.self-inside.binders.items))) ≡ false;
}
