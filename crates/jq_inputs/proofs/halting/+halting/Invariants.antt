use Rattle.std.proofs.Common.{◌≡◌, map, drop}
use Rattle.jq_tree.specs.Tree.{trees_of, entries_of, patterns_of, parts_of}
use Rattle.jq_ast.specs.Named.{named, named_as_pattern, named_as_part, named_entry}
use Rattle.jq_inputs.specs.private.Pieces.{pieces_in}
use Rattle.jq_inputs.specs.private.Halts.{halts_in_trees, halts_in_pieces, halts_in_entries, halts_in_patterns, halts_in_parts}
use Rattle.jq_inputs.proofs.halting.+halting.Given as goal

-- none was found so far, so the remaining parts decide

abbrev pub invariant-in_trees-loop-tree : goal.invariant-in_trees-loop-tree
invariant-in_trees-loop-tree l =
    halts_in_trees l.hidden (trees_of (map named l.trees)) ≡ halts_in_trees l.hidden (trees_of (map named (drop l.tree-index l.trees)))

abbrev pub invariant-in_pieces-loop-piece : goal.invariant-in_pieces-loop-piece
invariant-in_pieces-loop-piece l =
    halts_in_pieces l.hidden (pieces_in l.pieces) ≡ halts_in_pieces l.hidden (pieces_in (drop l.piece-index l.pieces))

abbrev pub invariant-in_entries-loop-entry : goal.invariant-in_entries-loop-entry
invariant-in_entries-loop-entry l =
    halts_in_entries l.hidden (entries_of (map named_entry l.entries)) ≡ halts_in_entries l.hidden (entries_of (map named_entry (drop l.entry-index l.entries)))

abbrev pub invariant-in_items-loop-item : goal.invariant-in_items-loop-item
invariant-in_items-loop-item l =
    halts_in_patterns l.hidden (patterns_of (map named_as_pattern l.items)) ≡ halts_in_patterns l.hidden (patterns_of (map named_as_pattern (drop l.item-index l.items)))

abbrev pub invariant-in_members-loop-member : goal.invariant-in_members-loop-member
invariant-in_members-loop-member l =
    halts_in_parts l.hidden (parts_of (map named_as_part l.members)) ≡ halts_in_parts l.hidden (parts_of (map named_as_part (drop l.member-index l.members)))
