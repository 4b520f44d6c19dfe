-- The list of a tree's names has exactly those that occur in the tree.
use Rattle.std.proofs.Common.{◌≡◌, List, [], ◌∷◌, ◌++◌, ◌⊎◌, inl, inr, refl, ap, subst, arith}
use Rattle.std.specs.Prelude.{Contains}
use Rattle.std.proofs.lemmas.List.Elements.{Contains-append_left, Contains-append_right, Contains-append_cases, Contains-push, Contains-push_cases}
use Rattle.jq_tree.specs.Names.{Reference, to_function, to_variable, to_label, to_format}
use Rattle.jq_tree.specs.BoundTree.{bound_at, in_language, nowhere, BoundTree, BoundTrees, BoundPieces, BoundEntry, BoundEntries, BoundPattern, BoundPatterns, BoundPart, BoundParts, bound_count}
use Rattle.jq_tree.specs.BoundTree as bound
use Rattle.jq_tree.specs.Binders.{Use, in_text_order, uses, uses_trees, uses_pieces, uses_entry, uses_entries, uses_pattern, uses_patterns, uses_part, uses_parts, without_binder, bound_filter}
use Rattle.jq_tree.specs.laws.Standing.{Stands, StandsInTrees, StandsInPieces, StandsInEntry, StandsInEntries, StandsInPattern, StandsInPatterns, StandsInPart, StandsInParts, UsesAreTheNames, ClosedHasNoUnbound}
use Rattle.jq_tree.specs.laws.Standing as stands

-- ---- lists

none : (u : Use) → Contains [] u → ⊥
none u h = let k = h.1 in absurd (omega arith)

head_in : (x : Use) (us : List Use) → Contains (x ∷ us) x
head_in x us = Contains-append_left (x ∷ []) us x (Contains-push [] x)

tail_in : (x : Use) (us : List Use) (u : Use) → Contains us u → Contains (x ∷ us) u
tail_in x us u h = Contains-append_right (x ∷ []) us u h

cons_cases : (x : Use) (us : List Use) (u : Use) → Contains (x ∷ us) u → (x ≡ u) ⊎ Contains us u
cons_cases x us u h = elim (Contains-append_cases (x ∷ []) us u h) [
  | inl a ↦ elim (Contains-push_cases [] x u a) [ inl b ↦ absurd (none u b) | inr e ↦ inl e ]
  | inr b ↦ inr b
]

in_order_source : (p : BoundPattern) (source body : List Use) (u : Use) → Contains source u → Contains (in_text_order p source body) u
in_order_source (bound.whole []) source body u h = Contains-append_right body source u h
in_order_source (bound.whole (c ∷ cs)) source body u h = Contains-append_left source body u h
in_order_source (bound.items ps) source body u h = Contains-append_left source body u h
in_order_source (bound.members ps) source body u h = Contains-append_left source body u h

in_order_body : (p : BoundPattern) (source body : List Use) (u : Use) → Contains body u → Contains (in_text_order p source body) u
in_order_body (bound.whole []) source body u h = Contains-append_left body source u h
in_order_body (bound.whole (c ∷ cs)) source body u h = Contains-append_right source body u h
in_order_body (bound.items ps) source body u h = Contains-append_right source body u h
in_order_body (bound.members ps) source body u h = Contains-append_right source body u h

other_way : {A B : Type 0} → A ⊎ B → B ⊎ A
other_way (inl a) = inr a
other_way (inr b) = inl b

in_order_cases : (p : BoundPattern) (source body : List Use) (u : Use) → Contains (in_text_order p source body) u → Contains source u ⊎ Contains body u
in_order_cases (bound.whole []) source body u h = other_way (Contains-append_cases body source u h)
in_order_cases (bound.whole (c ∷ cs)) source body u h = Contains-append_cases source body u h
in_order_cases (bound.items ps) source body u h = Contains-append_cases source body u h
in_order_cases (bound.members ps) source body u h = Contains-append_cases source body u h

-- ---- what occurs in the tree is in the list

mutual
  contained : (u : Use) (t : BoundTree) → Stands u t → Contains (uses t) u
  contained _ _ (stands.text_format {f} {b} {ps}) = head_in (to_format f, b) (uses_pieces ps)
  contained u _ (stands.text_part {f} {b} {ps} x) = tail_in (to_format f, b) (uses_pieces ps) u (contained_pieces u ps x)
  contained _ _ (stands.format_name {f} {b}) = head_in (to_format f, b) ([])
  contained _ _ (stands.variable_name {n} {b}) = head_in (to_variable n, b) ([])
  contained u _ (stands.field_target {t} {n} {mark} x) = contained u t x
  contained u _ (stands.index_target {t} {k} {mark} x) = Contains-append_left (uses t) (uses k) u (contained u t x)
  contained u _ (stands.index_key {t} {k} {mark} x) = Contains-append_right (uses t) (uses k) u (contained u k x)
  contained u _ (stands.slice_target {t} {f} {g} {mark} x) = Contains-append_left (uses t ++ uses f) (uses g) u (Contains-append_left (uses t) (uses f) u (contained u t x))
  contained u _ (stands.slice_from {t} {f} {g} {mark} x) = Contains-append_left (uses t ++ uses f) (uses g) u (Contains-append_right (uses t) (uses f) u (contained u f x))
  contained u _ (stands.slice_to {t} {f} {g} {mark} x) = Contains-append_right (uses t ++ uses f) (uses g) u (contained u g x)
  contained u _ (stands.iterate_target {t} {mark} x) = contained u t x
  contained u _ (stands.pipe_first {f} {g} x) = Contains-append_left (uses f) (uses g) u (contained u f x)
  contained u _ (stands.pipe_second {f} {g} x) = Contains-append_right (uses f) (uses g) u (contained u g x)
  contained u _ (stands.comma_first {f} {g} x) = Contains-append_left (uses f) (uses g) u (contained u f x)
  contained u _ (stands.comma_second {f} {g} x) = Contains-append_right (uses f) (uses g) u (contained u g x)
  contained u _ (stands.binary_left {o} {f} {g} x) = Contains-append_left (uses f) (uses g) u (contained u f x)
  contained u _ (stands.binary_right {o} {f} {g} x) = Contains-append_right (uses f) (uses g) u (contained u g x)
  contained u _ (stands.conjunction_left {f} {g} x) = Contains-append_left (uses f) (uses g) u (contained u f x)
  contained u _ (stands.conjunction_right {f} {g} x) = Contains-append_right (uses f) (uses g) u (contained u g x)
  contained u _ (stands.disjunction_left {f} {g} x) = Contains-append_left (uses f) (uses g) u (contained u f x)
  contained u _ (stands.disjunction_right {f} {g} x) = Contains-append_right (uses f) (uses g) u (contained u g x)
  contained u _ (stands.alternative_left {f} {g} x) = Contains-append_left (uses f) (uses g) u (contained u f x)
  contained u _ (stands.alternative_right {f} {g} x) = Contains-append_right (uses f) (uses g) u (contained u g x)
  contained u _ (stands.negation_operand {f} x) = contained u f x
  contained u _ (stands.array_item {f} x) = contained u f x
  contained u _ (stands.object_entry {es} x) = contained_entries u es x
  contained u _ (stands.choice_test {f} {g} {h} x) = Contains-append_left (uses f ++ uses g) (uses h) u (Contains-append_left (uses f) (uses g) u (contained u f x))
  contained u _ (stands.choice_holds {f} {g} {h} x) = Contains-append_left (uses f ++ uses g) (uses h) u (Contains-append_right (uses f) (uses g) u (contained u g x))
  contained u _ (stands.choice_fails {f} {g} {h} x) = Contains-append_right (uses f ++ uses g) (uses h) u (contained u h x)
  contained u _ (stands.try_catch_body {f} {g} x) = Contains-append_left (uses f) (uses g) u (contained u f x)
  contained u _ (stands.try_catch_handler {f} {g} x) = Contains-append_right (uses f) (uses g) u (contained u g x)
  contained u _ (stands.label_body {n} {f} x) = contained u f x
  contained _ _ (stands.break_name {n} {b}) = head_in (to_label n, b) ([])
  contained u _ (stands.bind_as_source {f} {p} {g} x) = in_order_source p (uses f) (uses_pattern p ++ uses g) u (contained u f x)
  contained u _ (stands.bind_as_pattern {f} {p} {g} x) = in_order_body p (uses f) (uses_pattern p ++ uses g) u (Contains-append_left (uses_pattern p) (uses g) u (contained_pattern u p x))
  contained u _ (stands.bind_as_body {f} {p} {g} x) = in_order_body p (uses f) (uses_pattern p ++ uses g) u (Contains-append_right (uses_pattern p) (uses g) u (contained u g x))
  contained u _ (stands.reduce_source {f} {p} {g} {h} x) = Contains-append_left (uses f ++ uses_pattern p ++ uses g) (uses h) u (Contains-append_left (uses f ++ uses_pattern p) (uses g) u (Contains-append_left (uses f) (uses_pattern p) u (contained u f x)))
  contained u _ (stands.reduce_pattern {f} {p} {g} {h} x) = Contains-append_left (uses f ++ uses_pattern p ++ uses g) (uses h) u (Contains-append_left (uses f ++ uses_pattern p) (uses g) u (Contains-append_right (uses f) (uses_pattern p) u (contained_pattern u p x)))
  contained u _ (stands.reduce_start {f} {p} {g} {h} x) = Contains-append_left (uses f ++ uses_pattern p ++ uses g) (uses h) u (Contains-append_right (uses f ++ uses_pattern p) (uses g) u (contained u g x))
  contained u _ (stands.reduce_update {f} {p} {g} {h} x) = Contains-append_right (uses f ++ uses_pattern p ++ uses g) (uses h) u (contained u h x)
  contained u _ (stands.foreach_source {f} {p} {g} {h} {k} x) = Contains-append_left (uses f ++ uses_pattern p ++ uses g ++ uses h) (uses k) u (Contains-append_left (uses f ++ uses_pattern p ++ uses g) (uses h) u (Contains-append_left (uses f ++ uses_pattern p) (uses g) u (Contains-append_left (uses f) (uses_pattern p) u (contained u f x))))
  contained u _ (stands.foreach_pattern {f} {p} {g} {h} {k} x) = Contains-append_left (uses f ++ uses_pattern p ++ uses g ++ uses h) (uses k) u (Contains-append_left (uses f ++ uses_pattern p ++ uses g) (uses h) u (Contains-append_left (uses f ++ uses_pattern p) (uses g) u (Contains-append_right (uses f) (uses_pattern p) u (contained_pattern u p x))))
  contained u _ (stands.foreach_start {f} {p} {g} {h} {k} x) = Contains-append_left (uses f ++ uses_pattern p ++ uses g ++ uses h) (uses k) u (Contains-append_left (uses f ++ uses_pattern p ++ uses g) (uses h) u (Contains-append_right (uses f ++ uses_pattern p) (uses g) u (contained u g x)))
  contained u _ (stands.foreach_update {f} {p} {g} {h} {k} x) = Contains-append_left (uses f ++ uses_pattern p ++ uses g ++ uses h) (uses k) u (Contains-append_right (uses f ++ uses_pattern p ++ uses g) (uses h) u (contained u h x))
  contained u _ (stands.foreach_extract {f} {p} {g} {h} {k} x) = Contains-append_right (uses f ++ uses_pattern p ++ uses g ++ uses h) (uses k) u (contained u k x)
  contained u _ (stands.define_body {n} {ns} {f} {g} x) = Contains-append_left (uses f) (uses g) u (contained u f x)
  contained u _ (stands.define_rest {n} {ns} {f} {g} x) = Contains-append_right (uses f) (uses g) u (contained u g x)
  contained _ _ (stands.call_name {n} {b} {ts}) = head_in (to_function n (bound_count ts), b) (uses_trees ts)
  contained u _ (stands.call_argument {n} {b} {ts} x) = tail_in (to_function n (bound_count ts), b) (uses_trees ts) u (contained_trees u ts x)
  contained _ _ (stands.prelude_call_name {n} {b} {ts}) = head_in (to_function n (bound_count ts), b) (uses_trees ts)
  contained u _ (stands.prelude_call_argument {n} {b} {ts} x) = tail_in (to_function n (bound_count ts), b) (uses_trees ts) u (contained_trees u ts x)

  contained_trees : (u : Use) (t : BoundTrees) → StandsInTrees u t → Contains (uses_trees t) u
  contained_trees u _ (stands.more_trees_first {t} {ts} x) = Contains-append_left (uses t) (uses_trees ts) u (contained u t x)
  contained_trees u _ (stands.more_trees_later {t} {ts} x) = Contains-append_right (uses t) (uses_trees ts) u (contained_trees u ts x)

  contained_pieces : (u : Use) (t : BoundPieces) → StandsInPieces u t → Contains (uses_pieces t) u
  contained_pieces u _ (stands.more_pieces_first {cs} {t} {ps} x) = Contains-append_left (uses t) (uses_pieces ps) u (contained u t x)
  contained_pieces u _ (stands.more_pieces_later {cs} {t} {ps} x) = Contains-append_right (uses t) (uses_pieces ps) u (contained_pieces u ps x)

  contained_entry : (u : Use) (t : BoundEntry) → StandsInEntry u t → Contains (uses_entry t) u
  contained_entry u _ (stands.named_value {cs} {t} x) = contained u t x
  contained_entry u _ (stands.computed_key {k} {t} x) = Contains-append_left (uses k) (uses t) u (contained u k x)
  contained_entry u _ (stands.computed_value {k} {t} x) = Contains-append_right (uses k) (uses t) u (contained u t x)
  contained_entry u _ (stands.own_key {k} x) = contained u k x

  contained_entries : (u : Use) (t : BoundEntries) → StandsInEntries u t → Contains (uses_entries t) u
  contained_entries u _ (stands.more_entries_first {e} {es} x) = Contains-append_left (uses_entry e) (uses_entries es) u (contained_entry u e x)
  contained_entries u _ (stands.more_entries_later {e} {es} x) = Contains-append_right (uses_entry e) (uses_entries es) u (contained_entries u es x)

  contained_pattern : (u : Use) (t : BoundPattern) → StandsInPattern u t → Contains (uses_pattern t) u
  contained_pattern u _ (stands.items_pattern {ps} x) = contained_patterns u ps x
  contained_pattern u _ (stands.members_part {ps} x) = contained_parts u ps x

  contained_patterns : (u : Use) (t : BoundPatterns) → StandsInPatterns u t → Contains (uses_patterns t) u
  contained_patterns u _ (stands.more_patterns_first {p} {ps} x) = Contains-append_left (uses_pattern p) (uses_patterns ps) u (contained_pattern u p x)
  contained_patterns u _ (stands.more_patterns_later {p} {ps} x) = Contains-append_right (uses_pattern p) (uses_patterns ps) u (contained_patterns u ps x)

  contained_part : (u : Use) (t : BoundPart) → StandsInPart u t → Contains (uses_part t) u
  contained_part u _ (stands.keyed_key {k} {p} x) = Contains-append_left (uses k) (uses_pattern p) u (contained u k x)
  contained_part u _ (stands.keyed_pattern {k} {p} x) = Contains-append_right (uses k) (uses_pattern p) u (contained_pattern u p x)
  contained_part u _ (stands.keyed_variable_pattern {n} {p} x) = contained_pattern u p x

  contained_parts : (u : Use) (t : BoundParts) → StandsInParts u t → Contains (uses_parts t) u
  contained_parts u _ (stands.more_parts_first {q} {qs} x) = Contains-append_left (uses_part q) (uses_parts qs) u (contained_part u q x)
  contained_parts u _ (stands.more_parts_later {q} {qs} x) = Contains-append_right (uses_part q) (uses_parts qs) u (contained_parts u qs x)

-- ---- what is in the list occurs in the tree

mutual
  standing : (t : BoundTree) (u : Use) → Contains (uses t) u → Stands u t
  standing bound.identity u w = absurd (none u w)
  standing bound.empty u w = absurd (none u w)
  standing (bound.literal v) u w = absurd (none u w)
  standing (bound.text f b ps) u w = elim (cons_cases (to_format f, b) (uses_pieces ps) u w) [ inl e ↦ subst (λ (v : Use). Stands v (bound.text f b ps)) e stands.text_format | inr b0 ↦ stands.text_part (standing_pieces ps u b0) ]
  standing (bound.format f b) u w = elim (cons_cases (to_format f, b) ([]) u w) [ inl e ↦ subst (λ (v : Use). Stands v (bound.format f b)) e stands.format_name | inr b0 ↦ absurd (none u b0) ]
  standing (bound.variable n b) u w = elim (cons_cases (to_variable n, b) ([]) u w) [ inl e ↦ subst (λ (v : Use). Stands v (bound.variable n b)) e stands.variable_name | inr b0 ↦ absurd (none u b0) ]
  standing (bound.field t n mark) u w = stands.field_target (standing t u w)
  standing (bound.index t k mark) u w = elim (Contains-append_cases (uses t) (uses k) u w) [ inl a0 ↦ stands.index_target (standing t u a0) | inr b0 ↦ stands.index_key (standing k u b0) ]
  standing (bound.slice t f g mark) u w = elim (Contains-append_cases (uses t ++ uses f) (uses g) u w) [ inl a0 ↦ elim (Contains-append_cases (uses t) (uses f) u a0) [ inl a1 ↦ stands.slice_target (standing t u a1) | inr b1 ↦ stands.slice_from (standing f u b1) ] | inr b0 ↦ stands.slice_to (standing g u b0) ]
  standing (bound.iterate t mark) u w = stands.iterate_target (standing t u w)
  standing (bound.pipe f g) u w = elim (Contains-append_cases (uses f) (uses g) u w) [ inl a0 ↦ stands.pipe_first (standing f u a0) | inr b0 ↦ stands.pipe_second (standing g u b0) ]
  standing (bound.comma f g) u w = elim (Contains-append_cases (uses f) (uses g) u w) [ inl a0 ↦ stands.comma_first (standing f u a0) | inr b0 ↦ stands.comma_second (standing g u b0) ]
  standing (bound.binary o f g) u w = elim (Contains-append_cases (uses f) (uses g) u w) [ inl a0 ↦ stands.binary_left (standing f u a0) | inr b0 ↦ stands.binary_right (standing g u b0) ]
  standing (bound.conjunction f g) u w = elim (Contains-append_cases (uses f) (uses g) u w) [ inl a0 ↦ stands.conjunction_left (standing f u a0) | inr b0 ↦ stands.conjunction_right (standing g u b0) ]
  standing (bound.disjunction f g) u w = elim (Contains-append_cases (uses f) (uses g) u w) [ inl a0 ↦ stands.disjunction_left (standing f u a0) | inr b0 ↦ stands.disjunction_right (standing g u b0) ]
  standing (bound.alternative f g) u w = elim (Contains-append_cases (uses f) (uses g) u w) [ inl a0 ↦ stands.alternative_left (standing f u a0) | inr b0 ↦ stands.alternative_right (standing g u b0) ]
  standing (bound.negation f) u w = stands.negation_operand (standing f u w)
  standing (bound.array f) u w = stands.array_item (standing f u w)
  standing (bound.object es) u w = stands.object_entry (standing_entries es u w)
  standing (bound.choice f g h) u w = elim (Contains-append_cases (uses f ++ uses g) (uses h) u w) [ inl a0 ↦ elim (Contains-append_cases (uses f) (uses g) u a0) [ inl a1 ↦ stands.choice_test (standing f u a1) | inr b1 ↦ stands.choice_holds (standing g u b1) ] | inr b0 ↦ stands.choice_fails (standing h u b0) ]
  standing (bound.try_catch f g) u w = elim (Contains-append_cases (uses f) (uses g) u w) [ inl a0 ↦ stands.try_catch_body (standing f u a0) | inr b0 ↦ stands.try_catch_handler (standing g u b0) ]
  standing (bound.label n f) u w = stands.label_body (standing f u w)
  standing (bound.break n b) u w = elim (cons_cases (to_label n, b) ([]) u w) [ inl e ↦ subst (λ (v : Use). Stands v (bound.break n b)) e stands.break_name | inr b0 ↦ absurd (none u b0) ]
  standing (bound.bind_as f p g) u w = elim (in_order_cases p (uses f) (uses_pattern p ++ uses g) u w) [ inl a0 ↦ stands.bind_as_source (standing f u a0) | inr b0 ↦ elim (Contains-append_cases (uses_pattern p) (uses g) u b0) [ inl a1 ↦ stands.bind_as_pattern (standing_pattern p u a1) | inr b1 ↦ stands.bind_as_body (standing g u b1) ] ]
  standing (bound.reduce f p g h) u w = elim (Contains-append_cases (uses f ++ uses_pattern p ++ uses g) (uses h) u w) [ inl a0 ↦ elim (Contains-append_cases (uses f ++ uses_pattern p) (uses g) u a0) [ inl a1 ↦ elim (Contains-append_cases (uses f) (uses_pattern p) u a1) [ inl a2 ↦ stands.reduce_source (standing f u a2) | inr b2 ↦ stands.reduce_pattern (standing_pattern p u b2) ] | inr b1 ↦ stands.reduce_start (standing g u b1) ] | inr b0 ↦ stands.reduce_update (standing h u b0) ]
  standing (bound.foreach f p g h k) u w = elim (Contains-append_cases (uses f ++ uses_pattern p ++ uses g ++ uses h) (uses k) u w) [ inl a0 ↦ elim (Contains-append_cases (uses f ++ uses_pattern p ++ uses g) (uses h) u a0) [ inl a1 ↦ elim (Contains-append_cases (uses f ++ uses_pattern p) (uses g) u a1) [ inl a2 ↦ elim (Contains-append_cases (uses f) (uses_pattern p) u a2) [ inl a3 ↦ stands.foreach_source (standing f u a3) | inr b3 ↦ stands.foreach_pattern (standing_pattern p u b3) ] | inr b2 ↦ stands.foreach_start (standing g u b2) ] | inr b1 ↦ stands.foreach_update (standing h u b1) ] | inr b0 ↦ stands.foreach_extract (standing k u b0) ]
  standing (bound.define n ns f g) u w = elim (Contains-append_cases (uses f) (uses g) u w) [ inl a0 ↦ stands.define_body (standing f u a0) | inr b0 ↦ stands.define_rest (standing g u b0) ]
  standing (bound.call n b ts) u w = elim (cons_cases (to_function n (bound_count ts), b) (uses_trees ts) u w) [ inl e ↦ subst (λ (v : Use). Stands v (bound.call n b ts)) e stands.call_name | inr b0 ↦ stands.call_argument (standing_trees ts u b0) ]
  standing (bound.prelude_call n b ts) u w = elim (cons_cases (to_function n (bound_count ts), b) (uses_trees ts) u w) [ inl e ↦ subst (λ (v : Use). Stands v (bound.prelude_call n b ts)) e stands.prelude_call_name | inr b0 ↦ stands.prelude_call_argument (standing_trees ts u b0) ]

  standing_trees : (t : BoundTrees) (u : Use) → Contains (uses_trees t) u → StandsInTrees u t
  standing_trees bound.no_trees u w = absurd (none u w)
  standing_trees (bound.more_trees t ts) u w = elim (Contains-append_cases (uses t) (uses_trees ts) u w) [ inl a0 ↦ stands.more_trees_first (standing t u a0) | inr b0 ↦ stands.more_trees_later (standing_trees ts u b0) ]

  standing_pieces : (t : BoundPieces) (u : Use) → Contains (uses_pieces t) u → StandsInPieces u t
  standing_pieces (bound.last_piece cs) u w = absurd (none u w)
  standing_pieces (bound.more_pieces cs t ps) u w = elim (Contains-append_cases (uses t) (uses_pieces ps) u w) [ inl a0 ↦ stands.more_pieces_first (standing t u a0) | inr b0 ↦ stands.more_pieces_later (standing_pieces ps u b0) ]

  standing_entry : (t : BoundEntry) (u : Use) → Contains (uses_entry t) u → StandsInEntry u t
  standing_entry (bound.named cs t) u w = stands.named_value (standing t u w)
  standing_entry (bound.computed k t) u w = elim (Contains-append_cases (uses k) (uses t) u w) [ inl a0 ↦ stands.computed_key (standing k u a0) | inr b0 ↦ stands.computed_value (standing t u b0) ]
  standing_entry (bound.own k) u w = stands.own_key (standing k u w)

  standing_entries : (t : BoundEntries) (u : Use) → Contains (uses_entries t) u → StandsInEntries u t
  standing_entries bound.no_entries u w = absurd (none u w)
  standing_entries (bound.more_entries e es) u w = elim (Contains-append_cases (uses_entry e) (uses_entries es) u w) [ inl a0 ↦ stands.more_entries_first (standing_entry e u a0) | inr b0 ↦ stands.more_entries_later (standing_entries es u b0) ]

  standing_pattern : (t : BoundPattern) (u : Use) → Contains (uses_pattern t) u → StandsInPattern u t
  standing_pattern (bound.whole n) u w = absurd (none u w)
  standing_pattern (bound.items ps) u w = stands.items_pattern (standing_patterns ps u w)
  standing_pattern (bound.members ps) u w = stands.members_part (standing_parts ps u w)

  standing_patterns : (t : BoundPatterns) (u : Use) → Contains (uses_patterns t) u → StandsInPatterns u t
  standing_patterns bound.no_patterns u w = absurd (none u w)
  standing_patterns (bound.more_patterns p ps) u w = elim (Contains-append_cases (uses_pattern p) (uses_patterns ps) u w) [ inl a0 ↦ stands.more_patterns_first (standing_pattern p u a0) | inr b0 ↦ stands.more_patterns_later (standing_patterns ps u b0) ]

  standing_part : (t : BoundPart) (u : Use) → Contains (uses_part t) u → StandsInPart u t
  standing_part (bound.keyed k p) u w = elim (Contains-append_cases (uses k) (uses_pattern p) u w) [ inl a0 ↦ stands.keyed_key (standing k u a0) | inr b0 ↦ stands.keyed_pattern (standing_pattern p u b0) ]
  standing_part (bound.keyed_variable n p) u w = stands.keyed_variable_pattern (standing_pattern p u w)

  standing_parts : (t : BoundParts) (u : Use) → Contains (uses_parts t) u → StandsInParts u t
  standing_parts bound.no_parts u w = absurd (none u w)
  standing_parts (bound.more_parts q qs) u w = elim (Contains-append_cases (uses_part q) (uses_parts qs) u w) [ inl a0 ↦ stands.more_parts_first (standing_part q u a0) | inr b0 ↦ stands.more_parts_later (standing_parts qs u b0) ]

pub uses_are_the_names : UsesAreTheNames
uses_are_the_names t u = (λ h. standing t u h, λ h. contained u t h)

-- ---- closed filters

no_unbound : (us : List Use) (r : Reference) → without_binder us ≡ [] → ¬ Contains us (r, nowhere)
no_unbound [] r e h = none (r, nowhere) h
no_unbound ((s, nowhere) ∷ us) r e h = let k : s ∷ without_binder us ≡ [] = e in cc k
no_unbound ((s, bound_at n) ∷ us) r e h = elim (cons_cases (s, bound_at n) us (r, nowhere) h) [
  | inl f ↦ let g : bound_at n ≡ nowhere = ap (λ (v : Use). v.1) f in absurd (cc g)
  | inr k ↦ no_unbound us r e k
]
no_unbound ((s, in_language) ∷ us) r e h = elim (cons_cases (s, in_language) us (r, nowhere) h) [
  | inl f ↦ let g : in_language ≡ nowhere = ap (λ (v : Use). v.1) f in absurd (cc g)
  | inr k ↦ no_unbound us r e k
]

all_bound : (us : List Use) → ((r : Reference) → ¬ Contains us (r, nowhere)) → without_binder us ≡ []
all_bound [] k = refl
all_bound ((s, nowhere) ∷ us) k = absurd (k s (head_in (s, nowhere) us))
all_bound ((s, bound_at n) ∷ us) k = all_bound us (λ r h. k r (tail_in (s, bound_at n) us (r, nowhere) h))
all_bound ((s, in_language) ∷ us) k = all_bound us (λ r h. k r (tail_in (s, in_language) us (r, nowhere) h))

pub closed_has_no_unbound : ClosedHasNoUnbound
closed_has_no_unbound variables t = (
  λ e r h. no_unbound (uses (bound_filter variables t)) r e (contained (r, nowhere) (bound_filter variables t) h),
  λ k. all_bound (uses (bound_filter variables t)) (λ r h. k r (standing (bound_filter variables t) (r, nowhere) h)),
)
