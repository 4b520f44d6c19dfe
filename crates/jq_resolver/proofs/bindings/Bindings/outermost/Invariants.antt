use Rattle.std.proofs.Common.{◌≡◌, false, map, reverse, take}
use Rattle.jq_tree.specs.Names.{is_bound}
use Rattle.jq_resolver.specs.private.Bindings.{reference_in, referred}
use Rattle.jq_resolver.proofs.bindings.Bindings.outermost.Given as goal

abbrev pub invariant-loop-i : goal.invariant-loop-i
invariant-loop-i l = is_bound (referred l.kind l.name) (reverse (map reference_in (take l.i l.self-inside.binders.items))) ≡ false
