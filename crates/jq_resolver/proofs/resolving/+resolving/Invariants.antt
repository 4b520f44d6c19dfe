use Rattle.std.proofs.Common.{◌+◌, ◌*◌, max, take}
use Rattle.jq_ast.specs.declared.tree.Tree.{size-Tree}
use Rattle.jq_ast.specs.declared.tree.Pattern.{size-Pattern}
use Rattle.jq_resolver.specs.private.Resolved.{Chain, IsResolved, IsPieceResolved, IsEntryResolved, IsPatternResolved, IsPartResolved}
use Rattle.jq_resolver.specs.private.Scopes.{bound_names}
use Rattle.jq_resolver.proofs.resolving.+resolving.Given as goal

-- the measures: five for each level of the tree, and less than five for the steps inside a level

abbrev pub decreases-resolve_tree : goal.decreases-resolve_tree
decreases-resolve_tree l = 5 * size-Tree l.tree.now + 1

abbrev pub decreases-resolve_pair : goal.decreases-resolve_pair
decreases-resolve_pair l = 5 * size-Tree l.tree.now

abbrev pub decreases-resolve_binder : goal.decreases-resolve_binder
decreases-resolve_binder l = 5 * size-Tree l.tree.now

abbrev pub decreases-resolve_two : goal.decreases-resolve_two
decreases-resolve_two l = 5 * max (size-Tree l.first.now.value) (size-Tree l.second.now.value) + 2

abbrev pub decreases-resolve_three : goal.decreases-resolve_three
decreases-resolve_three l = 5 * max (size-Tree l.first.now.value) (max (size-Tree l.second.now.value) (size-Tree l.third.now.value)) + 2

abbrev pub decreases-resolve_label : goal.decreases-resolve_label
decreases-resolve_label l = 5 * size-Tree l.body.now.value + 2

abbrev pub decreases-resolve_binding : goal.decreases-resolve_binding
decreases-resolve_binding l = 5 * max (size-Tree l.source.now.value) (max (size-Pattern l.pattern.now.value) (size-Tree l.body.now.value)) + 2

abbrev pub decreases-resolve_reduce : goal.decreases-resolve_reduce
decreases-resolve_reduce l = 5 * max (max (size-Tree l.source.now.value) (size-Tree l.start.now.value)) (max (size-Pattern l.pattern.now.value) (size-Tree l.update.now.value)) + 3

abbrev pub decreases-resolve_foreach : goal.decreases-resolve_foreach
decreases-resolve_foreach l = 5 * max (max (size-Tree l.source.now.value) (size-Tree l.start.now.value)) (max (size-Pattern l.pattern.now.value) (max (size-Tree l.update.now.value) (size-Tree l.extract.now.value))) + 3

abbrev pub decreases-resolve_define : goal.decreases-resolve_define
decreases-resolve_define l = 5 * max (goal.size-resolve_define l) (size-Tree l.rest.now.value) + 3

abbrev pub decreases-resolve_call : goal.decreases-resolve_call
decreases-resolve_call l = 5 * goal.size-resolve_call l + 3

abbrev pub decreases-resolve_prelude_call : goal.decreases-resolve_prelude_call
decreases-resolve_prelude_call l = 5 * goal.size-resolve_prelude_call l + 3

abbrev pub decreases-resolve_trees : goal.decreases-resolve_trees
decreases-resolve_trees l = 5 * goal.size-resolve_trees l + 2

abbrev pub decreases-resolve_update : goal.decreases-resolve_update
decreases-resolve_update l = 5 * goal.size-resolve_update l + 2

abbrev pub decreases-resolve_pieces : goal.decreases-resolve_pieces
decreases-resolve_pieces l = 5 * goal.size-resolve_pieces l + 2

abbrev pub decreases-resolve_entries : goal.decreases-resolve_entries
decreases-resolve_entries l = 5 * goal.size-resolve_entries l + 3

abbrev pub decreases-resolve_entry : goal.decreases-resolve_entry
decreases-resolve_entry l = 5 * goal.size-resolve_entry l + 2

abbrev pub decreases-resolve_pattern : goal.decreases-resolve_pattern
decreases-resolve_pattern l = 5 * goal.size-resolve_pattern l

abbrev pub decreases-resolve_patterns : goal.decreases-resolve_patterns
decreases-resolve_patterns l = 5 * goal.size-resolve_patterns l + 1

abbrev pub decreases-resolve_members : goal.decreases-resolve_members
decreases-resolve_members l = 5 * goal.size-resolve_members l + 3

abbrev pub decreases-resolve_member : goal.decreases-resolve_member
decreases-resolve_member l = 5 * goal.size-resolve_member l + 2

abbrev pub decreases-resolve_definition : goal.decreases-resolve_definition
decreases-resolve_definition l = 5 * goal.size-resolve_definition l + 2

abbrev pub invariant-resolve_trees-loop-i : goal.invariant-resolve_trees-loop-i
invariant-resolve_trees-loop-i l = goal.unvisited-resolve_trees-loop-i l
    × Chain IsResolved (bound_names l.initial.scope) (bound_names l.scope) (take l.i l.initial.trees.items) (take l.i l.trees.items)

abbrev pub invariant-resolve_pieces-loop-i : goal.invariant-resolve_pieces-loop-i
invariant-resolve_pieces-loop-i l = goal.unvisited-resolve_pieces-loop-i l
    × Chain IsPieceResolved (bound_names l.initial.scope) (bound_names l.scope) (take l.i l.initial.pieces.items) (take l.i l.pieces.items)

abbrev pub invariant-resolve_entries-loop-i : goal.invariant-resolve_entries-loop-i
invariant-resolve_entries-loop-i l = goal.unvisited-resolve_entries-loop-i l
    × Chain IsEntryResolved (bound_names l.initial.scope) (bound_names l.scope) (take l.i l.initial.entries.items) (take l.i l.entries.items)

abbrev pub invariant-resolve_patterns-loop-i : goal.invariant-resolve_patterns-loop-i
invariant-resolve_patterns-loop-i l = goal.unvisited-resolve_patterns-loop-i l
    × Chain IsPatternResolved (bound_names l.initial.scope) (bound_names l.scope) (take l.i l.initial.patterns.items) (take l.i l.patterns.items)

abbrev pub invariant-resolve_members-loop-i : goal.invariant-resolve_members-loop-i
invariant-resolve_members-loop-i l = goal.unvisited-resolve_members-loop-i l
    × Chain IsPartResolved (bound_names l.initial.scope) (bound_names l.scope) (take l.i l.initial.members.items) (take l.i l.members.items)
