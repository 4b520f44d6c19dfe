-- Which names occur in a tree, each with its binder, form by form; and that the list of a tree's names has all of them.
use Rattle.std.specs.Prelude.{◌↔◌, ℕ, List, Bool, Contains}
use Rattle.jq_tree.specs.Tree.{Name, Operator, Tree}
use Rattle.jq_tree.specs.Names.{Reference, to_function, to_variable, to_label, to_format}
use Rattle.jq_tree.specs.BoundTree.{Binder, nowhere, BoundTree, BoundTrees, BoundPieces, BoundEntry, BoundEntries, BoundPattern, BoundPatterns, BoundPart, BoundParts, bound_count}
use Rattle.jq_tree.specs.BoundTree as bound
use Rattle.jq_tree.specs.Binders.{Use, uses, bound_filter, Closed}

mutual
  -- A name with its binder occurs in a tree.
  pub data Stands : Use → BoundTree → Type 0 where
    text_format : {f : Name} {b : Binder} {ps : BoundPieces} → Stands (to_format f, b) (bound.text f b ps)
    text_part : {u : Use} {f : Name} {b : Binder} {ps : BoundPieces} → StandsInPieces u ps → Stands u (bound.text f b ps)
    format_name : {f : Name} {b : Binder} → Stands (to_format f, b) (bound.format f b)
    variable_name : {n : Name} {b : Binder} → Stands (to_variable n, b) (bound.variable n b)
    field_target : {u : Use} {t : BoundTree} {n : Name} {mark : Bool} → Stands u t → Stands u (bound.field t n mark)
    index_target : {u : Use} {t k : BoundTree} {mark : Bool} → Stands u t → Stands u (bound.index t k mark)
    index_key : {u : Use} {t k : BoundTree} {mark : Bool} → Stands u k → Stands u (bound.index t k mark)
    slice_target : {u : Use} {t f g : BoundTree} {mark : Bool} → Stands u t → Stands u (bound.slice t f g mark)
    slice_from : {u : Use} {t f g : BoundTree} {mark : Bool} → Stands u f → Stands u (bound.slice t f g mark)
    slice_to : {u : Use} {t f g : BoundTree} {mark : Bool} → Stands u g → Stands u (bound.slice t f g mark)
    iterate_target : {u : Use} {t : BoundTree} {mark : Bool} → Stands u t → Stands u (bound.iterate t mark)
    pipe_first : {u : Use} {f g : BoundTree} → Stands u f → Stands u (bound.pipe f g)
    pipe_second : {u : Use} {f g : BoundTree} → Stands u g → Stands u (bound.pipe f g)
    comma_first : {u : Use} {f g : BoundTree} → Stands u f → Stands u (bound.comma f g)
    comma_second : {u : Use} {f g : BoundTree} → Stands u g → Stands u (bound.comma f g)
    binary_left : {u : Use} {o : Operator} {f g : BoundTree} → Stands u f → Stands u (bound.binary o f g)
    binary_right : {u : Use} {o : Operator} {f g : BoundTree} → Stands u g → Stands u (bound.binary o f g)
    conjunction_left : {u : Use} {f g : BoundTree} → Stands u f → Stands u (bound.conjunction f g)
    conjunction_right : {u : Use} {f g : BoundTree} → Stands u g → Stands u (bound.conjunction f g)
    disjunction_left : {u : Use} {f g : BoundTree} → Stands u f → Stands u (bound.disjunction f g)
    disjunction_right : {u : Use} {f g : BoundTree} → Stands u g → Stands u (bound.disjunction f g)
    alternative_left : {u : Use} {f g : BoundTree} → Stands u f → Stands u (bound.alternative f g)
    alternative_right : {u : Use} {f g : BoundTree} → Stands u g → Stands u (bound.alternative f g)
    negation_operand : {u : Use} {f : BoundTree} → Stands u f → Stands u (bound.negation f)
    array_item : {u : Use} {f : BoundTree} → Stands u f → Stands u (bound.array f)
    object_entry : {u : Use} {es : BoundEntries} → StandsInEntries u es → Stands u (bound.object es)
    choice_test : {u : Use} {f g h : BoundTree} → Stands u f → Stands u (bound.choice f g h)
    choice_holds : {u : Use} {f g h : BoundTree} → Stands u g → Stands u (bound.choice f g h)
    choice_fails : {u : Use} {f g h : BoundTree} → Stands u h → Stands u (bound.choice f g h)
    try_catch_body : {u : Use} {f g : BoundTree} → Stands u f → Stands u (bound.try_catch f g)
    try_catch_handler : {u : Use} {f g : BoundTree} → Stands u g → Stands u (bound.try_catch f g)
    label_body : {u : Use} {n : Name} {f : BoundTree} → Stands u f → Stands u (bound.label n f)
    break_name : {n : Name} {b : Binder} → Stands (to_label n, b) (bound.break n b)
    bind_as_source : {u : Use} {f : BoundTree} {p : BoundPattern} {g : BoundTree} → Stands u f → Stands u (bound.bind_as f p g)
    bind_as_pattern : {u : Use} {f : BoundTree} {p : BoundPattern} {g : BoundTree} → StandsInPattern u p → Stands u (bound.bind_as f p g)
    bind_as_body : {u : Use} {f : BoundTree} {p : BoundPattern} {g : BoundTree} → Stands u g → Stands u (bound.bind_as f p g)
    reduce_source : {u : Use} {f : BoundTree} {p : BoundPattern} {g h : BoundTree} → Stands u f → Stands u (bound.reduce f p g h)
    reduce_pattern : {u : Use} {f : BoundTree} {p : BoundPattern} {g h : BoundTree} → StandsInPattern u p → Stands u (bound.reduce f p g h)
    reduce_start : {u : Use} {f : BoundTree} {p : BoundPattern} {g h : BoundTree} → Stands u g → Stands u (bound.reduce f p g h)
    reduce_update : {u : Use} {f : BoundTree} {p : BoundPattern} {g h : BoundTree} → Stands u h → Stands u (bound.reduce f p g h)
    foreach_source : {u : Use} {f : BoundTree} {p : BoundPattern} {g h k : BoundTree} → Stands u f → Stands u (bound.foreach f p g h k)
    foreach_pattern : {u : Use} {f : BoundTree} {p : BoundPattern} {g h k : BoundTree} → StandsInPattern u p → Stands u (bound.foreach f p g h k)
    foreach_start : {u : Use} {f : BoundTree} {p : BoundPattern} {g h k : BoundTree} → Stands u g → Stands u (bound.foreach f p g h k)
    foreach_update : {u : Use} {f : BoundTree} {p : BoundPattern} {g h k : BoundTree} → Stands u h → Stands u (bound.foreach f p g h k)
    foreach_extract : {u : Use} {f : BoundTree} {p : BoundPattern} {g h k : BoundTree} → Stands u k → Stands u (bound.foreach f p g h k)
    define_body : {u : Use} {n : Name} {ns : List Name} {f g : BoundTree} → Stands u f → Stands u (bound.define n ns f g)
    define_rest : {u : Use} {n : Name} {ns : List Name} {f g : BoundTree} → Stands u g → Stands u (bound.define n ns f g)
    call_name : {n : Name} {b : Binder} {ts : BoundTrees} → Stands (to_function n (bound_count ts), b) (bound.call n b ts)
    call_argument : {u : Use} {n : Name} {b : Binder} {ts : BoundTrees} → StandsInTrees u ts → Stands u (bound.call n b ts)
    prelude_call_name : {n : Name} {b : Binder} {ts : BoundTrees} → Stands (to_function n (bound_count ts), b) (bound.prelude_call n b ts)
    prelude_call_argument : {u : Use} {n : Name} {b : Binder} {ts : BoundTrees} → StandsInTrees u ts → Stands u (bound.prelude_call n b ts)

  -- In one of these trees.
  pub data StandsInTrees : Use → BoundTrees → Type 0 where
    more_trees_first : {u : Use} {t : BoundTree} {ts : BoundTrees} → Stands u t → StandsInTrees u (bound.more_trees t ts)
    more_trees_later : {u : Use} {t : BoundTree} {ts : BoundTrees} → StandsInTrees u ts → StandsInTrees u (bound.more_trees t ts)

  -- In a filter between the characters of a string.
  pub data StandsInPieces : Use → BoundPieces → Type 0 where
    more_pieces_first : {u : Use} {cs : List ℕ} {t : BoundTree} {ps : BoundPieces} → Stands u t → StandsInPieces u (bound.more_pieces cs t ps)
    more_pieces_later : {u : Use} {cs : List ℕ} {t : BoundTree} {ps : BoundPieces} → StandsInPieces u ps → StandsInPieces u (bound.more_pieces cs t ps)

  -- In an entry.
  pub data StandsInEntry : Use → BoundEntry → Type 0 where
    named_value : {u : Use} {cs : List ℕ} {t : BoundTree} → Stands u t → StandsInEntry u (bound.named cs t)
    computed_key : {u : Use} {k t : BoundTree} → Stands u k → StandsInEntry u (bound.computed k t)
    computed_value : {u : Use} {k t : BoundTree} → Stands u t → StandsInEntry u (bound.computed k t)
    own_key : {u : Use} {k : BoundTree} → Stands u k → StandsInEntry u (bound.own k)

  pub data StandsInEntries : Use → BoundEntries → Type 0 where
    more_entries_first : {u : Use} {e : BoundEntry} {es : BoundEntries} → StandsInEntry u e → StandsInEntries u (bound.more_entries e es)
    more_entries_later : {u : Use} {e : BoundEntry} {es : BoundEntries} → StandsInEntries u es → StandsInEntries u (bound.more_entries e es)

  -- In a key of a pattern.
  pub data StandsInPattern : Use → BoundPattern → Type 0 where
    items_pattern : {u : Use} {ps : BoundPatterns} → StandsInPatterns u ps → StandsInPattern u (bound.items ps)
    members_part : {u : Use} {ps : BoundParts} → StandsInParts u ps → StandsInPattern u (bound.members ps)

  pub data StandsInPatterns : Use → BoundPatterns → Type 0 where
    more_patterns_first : {u : Use} {p : BoundPattern} {ps : BoundPatterns} → StandsInPattern u p → StandsInPatterns u (bound.more_patterns p ps)
    more_patterns_later : {u : Use} {p : BoundPattern} {ps : BoundPatterns} → StandsInPatterns u ps → StandsInPatterns u (bound.more_patterns p ps)

  pub data StandsInPart : Use → BoundPart → Type 0 where
    keyed_key : {u : Use} {k : BoundTree} {p : BoundPattern} → Stands u k → StandsInPart u (bound.keyed k p)
    keyed_pattern : {u : Use} {k : BoundTree} {p : BoundPattern} → StandsInPattern u p → StandsInPart u (bound.keyed k p)
    keyed_variable_pattern : {u : Use} {n : Name} {p : BoundPattern} → StandsInPattern u p → StandsInPart u (bound.keyed_variable n p)

  pub data StandsInParts : Use → BoundParts → Type 0 where
    more_parts_first : {u : Use} {q : BoundPart} {qs : BoundParts} → StandsInPart u q → StandsInParts u (bound.more_parts q qs)
    more_parts_later : {u : Use} {q : BoundPart} {qs : BoundParts} → StandsInParts u qs → StandsInParts u (bound.more_parts q qs)

-- The list of a tree's names has exactly those that occur in it.
abbrev pub UsesAreTheNames : Type 0
UsesAreTheNames = (t : BoundTree) (u : Use) → Contains (uses t) u ↔ Stands u t

-- A filter is closed exactly when no name in it is unbound.
abbrev pub ClosedHasNoUnbound : Type 0
ClosedHasNoUnbound = (variables : List Name) (t : Tree) → Closed variables t ↔ ((r : Reference) → ¬ Stands (r, nowhere) (bound_filter variables t))
