use Rattle.std.proofs.Common.{◌≡◌, map, drop}
use Rattle.jq_tree.specs.Tree.{trees_of, entries_of, patterns_of, parts_of}
use Rattle.jq_ast.specs.Named.{named, named_as_pattern, named_as_part, named_entry}
use Rattle.jq_inputs.specs.private.Counts.{plus}
use Rattle.jq_inputs.specs.private.Pieces.{pieces_in}
use Rattle.jq_inputs.specs.private.Walk.{count_trees, count_pieces, count_patterns, count_parts}
use Rattle.jq_inputs.proofs.Beside.{Goes}
use Rattle.jq_inputs.proofs.walking.+walk.Given as goal

-- what was counted so far, and the remaining parts

abbrev pub invariant-in_trees-loop-tree : goal.invariant-in_trees-loop-tree
invariant-in_trees-loop-tree l =
    count_trees l.hidden (trees_of (map named l.trees)) ≡ plus l.count (count_trees l.hidden (trees_of (map named (drop l.tree-index l.trees))))

abbrev pub invariant-in_pieces-loop-piece : goal.invariant-in_pieces-loop-piece
invariant-in_pieces-loop-piece l =
    count_pieces l.hidden (pieces_in l.pieces) ≡ plus l.count (count_pieces l.hidden (pieces_in (drop l.piece-index l.pieces)))

abbrev pub invariant-in_items-loop-item : goal.invariant-in_items-loop-item
invariant-in_items-loop-item l =
    count_patterns l.hidden (patterns_of (map named_as_pattern l.items)) ≡ plus l.count (count_patterns l.hidden (patterns_of (map named_as_pattern (drop l.item-index l.items))))

abbrev pub invariant-in_members-loop-member : goal.invariant-in_members-loop-member
invariant-in_members-loop-member l =
    count_parts l.hidden (parts_of (map named_as_part l.members)) ≡ plus l.count (count_parts l.hidden (parts_of (map named_as_part (drop l.member-index l.members))))

abbrev pub invariant-survey_entries-loop-entry : goal.invariant-survey_entries-loop-entry
invariant-survey_entries-loop-entry l = Goes l.hidden (entries_of (map named_entry l.entries)) l.found (entries_of (map named_entry (drop l.entry-index l.entries)))
