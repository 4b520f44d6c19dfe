use Rattle.std.proofs.Common.{◌≡◌, ◌+◌, map, drop}
use Rattle.jq_ast.specs.Bound.{bound_parts, bound_patterns, variables_in_items, variables_in_parts}
use Rattle.jq_resolver.specs.private.BoundParts.{bound_as_part, bound_as_pattern}
use Rattle.jq_resolver.proofs.depths.+entering.Given as goal

-- the patterns or members that were entered, and the remaining ones

abbrev pub invariant-inside_patterns-loop-pattern : goal.invariant-inside_patterns-loop-pattern
invariant-inside_patterns-loop-pattern l =
    l.around + variables_in_items (bound_patterns (map bound_as_pattern l.patterns) l.around)
    ≡ l.here + variables_in_items (bound_patterns (map bound_as_pattern (drop l.pattern-index l.patterns)) l.here)

abbrev pub invariant-inside_members-loop-member : goal.invariant-inside_members-loop-member
invariant-inside_members-loop-member l =
    l.around + variables_in_parts (bound_parts (map bound_as_part l.members) l.around)
    ≡ l.here + variables_in_parts (bound_parts (map bound_as_part (drop l.member-index l.members)) l.here)
