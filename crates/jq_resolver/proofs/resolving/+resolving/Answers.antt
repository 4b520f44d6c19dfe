use Rattle.std.proofs.Common.{rules, refl, ◌∙◌, ◌≡◌, ◌<◌, length, get_or, arith}
use Rattle.jq_ast.specs.declared.tree.Tree as X
use Rattle.jq_ast.specs.declared.tree.Pattern as Y
use Rattle.jv_data.proofs.shared.Results.{on_ok_map}
use Rattle.jq_resolver.proofs.Arms.{on_ok_three, of_part, of_entry, entry_value, entry_both, entry_own, arm_Field, arm_Iterate, arm_Negation, arm_Array, arm_Label, arm_BindAs, arm_Reduce, arm_Foreach, arm_Define, arm_Keyed}
use Rattle.jq_resolver.proofs.Parts.{two_resolved, three_resolved, in_Index, in_Pipe, in_Comma, in_Binary, in_And, in_Or, in_Alternative, in_TryCatch, in_Slice, in_Choice}
use Rattle.jq_resolver.proofs.Forms.{in_Text, in_Object, in_Call, in_PreludeCall, in_Update, in_Items, in_Members, definition_resolved}
use Rattle.jq_resolver.proofs.Lists.{chain_step, chain_two, unvisited_step}
use Rattle.jq_resolver.specs.private.Resolved.{IsResolved, IsPieceResolved, IsEntryResolved, IsPatternResolved, IsPartResolved}
use Rattle.jq_resolver.specs.private.Scopes.{bound_names}
use Rattle.jq_resolver.proofs.resolving.+resolving.Goals as goal

pub resolve_tree-returns-in-Field : goal.resolve_tree-returns-in-Field
unfolding X.out-Tree denote.Hole.Carrier.out
resolve_tree-returns-in-Field t c = rw c.in-Field.is (on_ok_map _ {P = IsResolved _ _ _ _} c.resolve_tree.ensures (λ r. arm_Field _ _ _ _ c.in-Field.target _ _ _ r (search rules) refl))

pub resolve_tree-returns-in-Iterate : goal.resolve_tree-returns-in-Iterate
unfolding X.out-Tree denote.Hole.Carrier.out
resolve_tree-returns-in-Iterate t c = rw c.in-Iterate.is (on_ok_map _ {P = IsResolved _ _ _ _} c.resolve_tree-in-Iterate.ensures (λ r. arm_Iterate _ _ _ _ c.in-Iterate.target _ _ r (search rules) refl))

pub resolve_tree-returns-in-Negation : goal.resolve_tree-returns-in-Negation
unfolding X.out-Tree denote.Hole.Carrier.out
resolve_tree-returns-in-Negation t c = rw c.in-Negation.is (on_ok_map _ {P = IsResolved _ _ _ _} c.resolve_tree-in-Negation.ensures (λ r. arm_Negation _ _ _ _ c.in-Negation.inner _ r (search rules) refl))

pub resolve_tree-returns-in-Array : goal.resolve_tree-returns-in-Array
unfolding X.out-Tree denote.Hole.Carrier.out
resolve_tree-returns-in-Array t c = rw c.in-Array.is (on_ok_map _ {P = IsResolved _ _ _ _} c.resolve_tree-in-Array.ensures (λ r. arm_Array _ _ _ _ c.in-Array.inner _ r (search rules) refl))

pub resolve_pair-returns-in-Index : goal.resolve_pair-returns-in-Index
unfolding X.out-Tree denote.Hole.Carrier.out
resolve_pair-returns-in-Index t c =
    let h = rw c.in-Index.is at c.resolve_two.ensures in
    rw c.in-Index.is (on_ok_map _ {P = IsResolved _ _ _ _ × IsResolved _ _ _ _} h (λ r. in_Index _ _ c.in-Index.target _ c.in-Index.key _ _ r.0 r.1))

pub resolve_pair-returns-in-Pipe : goal.resolve_pair-returns-in-Pipe
unfolding X.out-Tree denote.Hole.Carrier.out
resolve_pair-returns-in-Pipe t c =
    let h = rw c.in-Pipe.is at c.resolve_two-in-Pipe.ensures in
    rw c.in-Pipe.is (on_ok_map _ {P = IsResolved _ _ _ _ × IsResolved _ _ _ _} h (λ r. in_Pipe _ _ c.in-Pipe.first _ c.in-Pipe.second _ r.0 r.1))

pub resolve_pair-returns-in-Comma : goal.resolve_pair-returns-in-Comma
unfolding X.out-Tree denote.Hole.Carrier.out
resolve_pair-returns-in-Comma t c =
    let h = rw c.in-Comma.is at c.resolve_two-in-Comma.ensures in
    rw c.in-Comma.is (on_ok_map _ {P = IsResolved _ _ _ _ × IsResolved _ _ _ _} h (λ r. in_Comma _ _ c.in-Comma.first _ c.in-Comma.second _ r.0 r.1))

pub resolve_pair-returns-in-Binary : goal.resolve_pair-returns-in-Binary
unfolding X.out-Tree denote.Hole.Carrier.out
resolve_pair-returns-in-Binary t c =
    let h = rw c.in-Binary.is at c.resolve_two-in-Binary.ensures in
    rw c.in-Binary.is (on_ok_map _ {P = IsResolved _ _ _ _ × IsResolved _ _ _ _} h (λ r. in_Binary _ _ c.in-Binary.left _ c.in-Binary.right _ _ r.0 r.1))

pub resolve_pair-returns-in-And : goal.resolve_pair-returns-in-And
unfolding X.out-Tree denote.Hole.Carrier.out
resolve_pair-returns-in-And t c =
    let h = rw c.in-And.is at c.resolve_two-in-And.ensures in
    rw c.in-And.is (on_ok_map _ {P = IsResolved _ _ _ _ × IsResolved _ _ _ _} h (λ r. in_And _ _ c.in-And.left _ c.in-And.right _ r.0 r.1))

pub resolve_pair-returns-in-Or : goal.resolve_pair-returns-in-Or
unfolding X.out-Tree denote.Hole.Carrier.out
resolve_pair-returns-in-Or t c =
    let h = rw c.in-Or.is at c.resolve_two-in-Or.ensures in
    rw c.in-Or.is (on_ok_map _ {P = IsResolved _ _ _ _ × IsResolved _ _ _ _} h (λ r. in_Or _ _ c.in-Or.left _ c.in-Or.right _ r.0 r.1))

pub resolve_pair-returns-in-Alternative : goal.resolve_pair-returns-in-Alternative
unfolding X.out-Tree denote.Hole.Carrier.out
resolve_pair-returns-in-Alternative t c =
    let h = rw c.in-Alternative.is at c.resolve_two-in-Alternative.ensures in
    rw c.in-Alternative.is (on_ok_map _ {P = IsResolved _ _ _ _ × IsResolved _ _ _ _} h (λ r. in_Alternative _ _ c.in-Alternative.left _ c.in-Alternative.right _ r.0 r.1))

pub resolve_pair-returns-in-TryCatch : goal.resolve_pair-returns-in-TryCatch
unfolding X.out-Tree denote.Hole.Carrier.out
resolve_pair-returns-in-TryCatch t c =
    let h = rw c.in-TryCatch.is at c.resolve_two-in-TryCatch.ensures in
    rw c.in-TryCatch.is (on_ok_map _ {P = IsResolved _ _ _ _ × IsResolved _ _ _ _} h (λ r. in_TryCatch _ _ c.in-TryCatch.body _ c.in-TryCatch.handler _ r.0 r.1))

pub resolve_tree-returns-in-Slice : goal.resolve_tree-returns-in-Slice
unfolding X.out-Tree denote.Hole.Carrier.out
resolve_tree-returns-in-Slice t c =
    let e = c.resolve_three.ensures in
    let first = rw c.in-Slice.is at e.first in
    let second = rw c.in-Slice.is at e.second in
    let third = rw c.in-Slice.is at e.third in
    rw c.in-Slice.is (on_ok_three _ {P = IsResolved _ _ _ _} {Q = IsResolved _ _ _ _} {S = IsResolved _ _ _ _} first second third (λ p q r. in_Slice _ _ c.in-Slice.target _ c.in-Slice.from _ c.in-Slice.to _ _ p q r))

pub resolve_tree-returns-in-Choice : goal.resolve_tree-returns-in-Choice
unfolding X.out-Tree denote.Hole.Carrier.out
resolve_tree-returns-in-Choice t c =
    let e = c.resolve_three-in-Choice.ensures in
    let first = rw c.in-Choice.is at e.first in
    let second = rw c.in-Choice.is at e.second in
    let third = rw c.in-Choice.is at e.third in
    rw c.in-Choice.is (on_ok_three _ {P = IsResolved _ _ _ _} {Q = IsResolved _ _ _ _} {S = IsResolved _ _ _ _} first second third (λ p q r. in_Choice _ _ c.in-Choice.test _ c.in-Choice.holds _ c.in-Choice.fails _ p q r))

pub resolve_tree-returns-in_ok-resolve_pieces-in-Text : goal.resolve_tree-returns-in_ok-resolve_pieces-in-Text
unfolding X.out-Tree denote.Hole.Carrier.out
resolve_tree-returns-in_ok-resolve_pieces-in-Text t c = rw c.in-Text.is (in_Text _ _ c.in-Text.format _ c.in-Text.pieces _ _ (search rules) (search rules) (search rules))

pub resolve_tree-returns-in_ok-resolve_entries-in-Object : goal.resolve_tree-returns-in_ok-resolve_entries-in-Object
unfolding X.out-Tree denote.Hole.Carrier.out
resolve_tree-returns-in_ok-resolve_entries-in-Object t c = rw c.in-Object.is (in_Object (bound_names c.args.scope.now) (bound_names c.resolve_entries.new.scope) c.in-Object.entries c.resolve_entries.new.entries (search rules))

pub resolve_tree-returns-in_ok-resolve_update-in-Update : goal.resolve_tree-returns-in_ok-resolve_update-in-Update
unfolding X.out-Tree denote.Hole.Carrier.out
resolve_tree-returns-in_ok-resolve_update-in-Update t c = rw c.in-Update.is (in_Update _ _ c.in-Update.modify _ c.in-Update.parts _ (search rules) (search rules) (search rules))

pub resolve_update-returns-clause-resolved : goal.resolve_update-returns-clause-resolved
resolve_update-returns-clause-resolved t c = chain_two _ _ _ c.args.parts.now _ _ _ _ (search rules) c.in_ok-resolve_tree.ensures c.in_ok-resolve_tree-2.ensures

pub resolve_two-returns : goal.resolve_two-returns
resolve_two-returns t c =
    let both = two_resolved _ _ _ _ _ _ _ c.in_ok-resolve_tree.ensures c.in_ok-resolve_tree-2.ensures in
    (of_part _ _ _ _ _ both.0 (search rules), of_part _ _ _ _ _ both.1 (search rules))

pub resolve_three-returns-clause-first : goal.resolve_three-returns-clause-first
resolve_three-returns-clause-first t c =
    let all = three_resolved _ _ _ _ _ _ _ _ _ _ c.in_ok-resolve_tree.ensures c.in_ok-resolve_tree-2.ensures c.in_ok-resolve_tree-3.ensures in
    of_part _ _ _ _ _ all.0 (search rules)

pub resolve_three-returns-clause-second : goal.resolve_three-returns-clause-second
resolve_three-returns-clause-second t c =
    let all = three_resolved _ _ _ _ _ _ _ _ _ _ c.in_ok-resolve_tree.ensures c.in_ok-resolve_tree-2.ensures c.in_ok-resolve_tree-3.ensures in
    of_part _ _ _ _ _ all.1 (search rules)

pub resolve_three-returns-clause-third : goal.resolve_three-returns-clause-third
resolve_three-returns-clause-third t c =
    let all = three_resolved _ _ _ _ _ _ _ _ _ _ c.in_ok-resolve_tree.ensures c.in_ok-resolve_tree-2.ensures c.in_ok-resolve_tree-3.ensures in
    of_part _ _ _ _ _ all.2 (search rules)

pub resolve_label-returns : goal.resolve_label-returns
resolve_label-returns t c = arm_Label (bound_names c.args.scope.now) _ _ (bound_names c.leave.new.self) c.args.name.now _ _ _ c.args.body.now _ c.in_ok-resolve_tree.ensures (search rules) refl (search rules) (search rules) refl

pub resolve_binding-returns : goal.resolve_binding-returns
resolve_binding-returns t c = arm_BindAs _ _ _ _ _ _ _ _ _ _ _ c.args.source.now _ c.args.pattern.now _ c.args.body.now _ c.in_ok-resolve_tree.ensures c.in_ok-resolve_pattern.ensures c.in_ok-resolve_tree-2.ensures (search rules) (search rules) (search rules) refl refl refl (search rules)

pub resolve_reduce-returns : goal.resolve_reduce-returns
resolve_reduce-returns t c = arm_Reduce _ _ _ _ _ _ _ _ _ _ _ _ _ c.args.source.now _ c.args.pattern.now _ c.args.start.now _ c.args.update.now _ c.in_ok-resolve_two.ensures.0 c.in_ok-resolve_two.ensures.1 c.in_ok-resolve_pattern.ensures c.in_ok-resolve_tree.ensures refl refl (search rules) (search rules) refl refl refl refl (search rules)

pub resolve_foreach-returns : goal.resolve_foreach-returns
resolve_foreach-returns t c = arm_Foreach _ _ _ _ _ _ _ _ _ _ _ _ _ _ _ c.args.source.now _ c.args.pattern.now _ c.args.start.now _ c.args.update.now _ c.args.extract.now _ c.in_ok-resolve_two.ensures.0 c.in_ok-resolve_two.ensures.1 c.in_ok-resolve_pattern.ensures c.in_ok-resolve_two-2.ensures.0 c.in_ok-resolve_two-2.ensures.1 refl refl (search rules) refl refl refl refl refl refl refl (search rules)

pub resolve_define-returns : goal.resolve_define-returns
resolve_define-returns t c = arm_Define _ _ _ _ _ _ _ _ c.args.function.now _ c.args.rest.now _ c.in_ok-resolve_definition.ensures c.in_ok-resolve_tree.ensures (search rules) (search rules) refl refl (search rules)

pub resolve_call-returns : goal.resolve_call-returns
resolve_call-returns t c = in_Call _ _ c.args.name.now _ c.args.arguments.now c.resolve_trees.new.trees (search rules) (search rules) (search rules)

pub resolve_prelude_call-returns : goal.resolve_prelude_call-returns
resolve_prelude_call-returns t c = in_PreludeCall _ _ c.args.name.now _ c.args.arguments.now c.resolve_trees.new.trees (search rules) (search rules) (search rules)

pub resolve_definition-returns : goal.resolve_definition-returns
resolve_definition-returns t c = definition_resolved _ (bound_names c.enter.new.self) _ _ _ _ _ (search rules) (search rules) c.in_ok-resolve_tree.ensures (search rules) refl refl

pub resolve_trees-loop-i-preserved : goal.resolve_trees-loop-i-preserved
resolve_trees-loop-i-preserved t c =
    let old = c.args.trees.now.items in
    let cur = c.loop-i.trees.items in
    let i = c.loop-i.i in
    let x = c.index_mut.result.now in
    let inv = c.loop-i.invariant in
    let inside : i < length cur = search rules in
    let read : x ≡ get_or cur i x = search rules in
    let first : x ≡ get_or old i x = read ∙ inv.0.1 i x (omega arith) in
    (unvisited_step old cur i (c.resolve_tree.new.tree) inv.0, chain_step IsResolved _ _ _ old cur i x (c.resolve_tree.new.tree) inside inv.0.0 first inv.1 (c.in_ok-resolve_tree.ensures))

pub resolve_entries-loop-i-preserved : goal.resolve_entries-loop-i-preserved
resolve_entries-loop-i-preserved t c =
    let old = c.args.entries.now.items in
    let cur = c.loop-i.entries.items in
    let i = c.loop-i.i in
    let x = c.index_mut.result.now in
    let inv = c.loop-i.invariant in
    let inside : i < length cur = search rules in
    let read : x ≡ get_or cur i x = search rules in
    let first : x ≡ get_or old i x = read ∙ inv.0.1 i x (omega arith) in
    (unvisited_step old cur i (c.resolve_entry.new.entry) inv.0, chain_step IsEntryResolved _ _ _ old cur i x (c.resolve_entry.new.entry) inside inv.0.0 first inv.1 (c.in_ok-resolve_entry.ensures))

pub resolve_patterns-loop-i-preserved : goal.resolve_patterns-loop-i-preserved
resolve_patterns-loop-i-preserved t c =
    let old = c.args.patterns.now.items in
    let cur = c.loop-i.patterns.items in
    let i = c.loop-i.i in
    let x = c.index_mut.result.now in
    let inv = c.loop-i.invariant in
    let inside : i < length cur = search rules in
    let read : x ≡ get_or cur i x = search rules in
    let first : x ≡ get_or old i x = read ∙ inv.0.1 i x (omega arith) in
    (unvisited_step old cur i (c.resolve_pattern.new.pattern) inv.0, chain_step IsPatternResolved _ _ _ old cur i x (c.resolve_pattern.new.pattern) inside inv.0.0 first inv.1 (c.in_ok-resolve_pattern.ensures))

pub resolve_members-loop-i-preserved : goal.resolve_members-loop-i-preserved
resolve_members-loop-i-preserved t c =
    let old = c.args.members.now.items in
    let cur = c.loop-i.members.items in
    let i = c.loop-i.i in
    let x = c.index_mut.result.now in
    let inv = c.loop-i.invariant in
    let inside : i < length cur = search rules in
    let read : x ≡ get_or cur i x = search rules in
    let first : x ≡ get_or old i x = read ∙ inv.0.1 i x (omega arith) in
    (unvisited_step old cur i (c.resolve_member.new.member) inv.0, chain_step IsPartResolved _ _ _ old cur i x (c.resolve_member.new.member) inside inv.0.0 first inv.1 (c.in_ok-resolve_member.ensures))

pub resolve_pieces-loop-i-preserved : goal.resolve_pieces-loop-i-preserved
resolve_pieces-loop-i-preserved t c =
    let old = c.args.pieces.now.items in
    let cur = c.loop-i.pieces.items in
    let i = c.loop-i.i in
    let x = c.index_mut.result.now in
    let inv = c.loop-i.invariant in
    let inside : i < length cur = search rules in
    let read : x ≡ get_or cur i x = search rules in
    let first : x ≡ get_or old i x = read ∙ inv.0.1 i x (omega arith) in
    (unvisited_step old cur i (record { before = c.index_mut.result.now.before; tree = c.resolve_tree.new.tree }) inv.0, chain_step IsPieceResolved _ _ _ old cur i x (record { before = c.index_mut.result.now.before; tree = c.resolve_tree.new.tree }) inside inv.0.0 first inv.1 (record { before = refl; tree = c.in_ok-resolve_tree.ensures }))

pub resolve_pattern-returns-in_ok-resolve_patterns-in-Items : goal.resolve_pattern-returns-in_ok-resolve_patterns-in-Items
unfolding Y.out-Pattern denote.Hole.Carrier.out
resolve_pattern-returns-in_ok-resolve_patterns-in-Items t c = rw c.in-Items.is (in_Items (bound_names c.args.scope.now) (bound_names c.resolve_patterns.new.scope) c.in-Items.patterns c.resolve_patterns.new.patterns (search rules))

pub resolve_pattern-returns-in_ok-resolve_members-in-Members : goal.resolve_pattern-returns-in_ok-resolve_members-in-Members
unfolding Y.out-Pattern denote.Hole.Carrier.out
resolve_pattern-returns-in_ok-resolve_members-in-Members t c = rw c.in-Members.is (in_Members (bound_names c.args.scope.now) (bound_names c.resolve_members.new.scope) c.in-Members.members c.resolve_members.new.members (search rules))

pub resolve_member-returns-in_ok-resolve_pattern-in-Keyed : goal.resolve_member-returns-in_ok-resolve_pattern-in-Keyed
resolve_member-returns-in_ok-resolve_pattern-in-Keyed t c = rw c.in-Keyed.is (arm_Keyed _ _ _ _ _ c.in-Keyed.key _ _ c.in-Keyed.pattern _ c.in_ok-resolve_tree-in-Keyed.ensures c.in_ok-resolve_pattern-in-Keyed.ensures (search rules) refl (search rules))

pub resolve_entry-returns-in_ok-resolve_tree-in-Named : goal.resolve_entry-returns-in_ok-resolve_tree-in-Named
resolve_entry-returns-in_ok-resolve_tree-in-Named t c = of_entry _ _ _ _ _ c.in-Named.is (entry_value _ _ _ _ _ _ _ c.in_ok-resolve_tree-in-Named.ensures (search rules) (search rules))

pub resolve_entry-returns-in_ok-resolve_tree-in-Computed-2 : goal.resolve_entry-returns-in_ok-resolve_tree-in-Computed-2
resolve_entry-returns-in_ok-resolve_tree-in-Computed-2 t c = of_entry _ _ _ _ _ c.in-Computed.is (entry_both _ _ _ _ _ _ _ _ _ c.in_ok-resolve_tree-in-Computed.ensures c.in_ok-resolve_tree-in-Computed-2.ensures (search rules) (search rules))

pub resolve_entry-returns-in_ok-resolve_tree-in-Own : goal.resolve_entry-returns-in_ok-resolve_tree-in-Own
resolve_entry-returns-in_ok-resolve_tree-in-Own t c = of_entry _ _ _ _ _ c.in-Own.is (entry_own _ _ _ _ _ c.in_ok-resolve_tree-in-Own.ensures (search rules))
