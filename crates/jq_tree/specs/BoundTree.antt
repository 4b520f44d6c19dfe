-- The tree of a filter with the binder of each name.
--
-- The forms are those of `Tree`.
use Rattle.std.specs.Prelude.{ℕ, suc, List, Bool}
use Rattle.jq_tree.specs.Tree.{Name, Literal, Operator}

-- What binds a name: a binder, given as the number of binders of any kind between it and the name (0 is the innermost one);
-- or the language, whose parts are found by their names; or nothing.
pub data Binder : Type 0 where
  bound_at : (further_in : ℕ) → Binder
  in_language : Binder
  nowhere : Binder

mutual
  pub data BoundTree : Type 0 where
    identity : BoundTree
    empty : BoundTree
    literal : Literal → BoundTree
    text : (format : Name) → Binder → BoundPieces → BoundTree
    format : Name → Binder → BoundTree
    variable : Name → Binder → BoundTree
    field : (target : BoundTree) → (key : Name) → (guarded : Bool) → BoundTree
    index : (target key : BoundTree) → (guarded : Bool) → BoundTree
    slice : (target from to : BoundTree) → (guarded : Bool) → BoundTree
    iterate : (target : BoundTree) → (guarded : Bool) → BoundTree
    pipe : (first second : BoundTree) → BoundTree
    comma : (first second : BoundTree) → BoundTree
    binary : Operator → (left right : BoundTree) → BoundTree
    conjunction : (left right : BoundTree) → BoundTree
    disjunction : (left right : BoundTree) → BoundTree
    alternative : (left right : BoundTree) → BoundTree
    negation : BoundTree → BoundTree
    array : BoundTree → BoundTree
    object : BoundEntries → BoundTree
    choice : (test holds fails : BoundTree) → BoundTree
    try_catch : (body handler : BoundTree) → BoundTree
    label : Name → (body : BoundTree) → BoundTree
    break : Name → Binder → BoundTree
    bind_as : (source : BoundTree) → BoundPattern → (body : BoundTree) → BoundTree
    reduce : (source : BoundTree) → BoundPattern → (start update : BoundTree) → BoundTree
    foreach : (source : BoundTree) → BoundPattern → (start update extract : BoundTree) → BoundTree
    define : Name → (parameters : List Name) → (body rest : BoundTree) → BoundTree
    call : Name → Binder → BoundTrees → BoundTree
    prelude_call : Name → Binder → BoundTrees → BoundTree

  pub data BoundTrees : Type 0 where
    no_trees : BoundTrees
    more_trees : BoundTree → BoundTrees → BoundTrees

  pub data BoundPieces : Type 0 where
    last_piece : List ℕ → BoundPieces
    more_pieces : List ℕ → BoundTree → BoundPieces → BoundPieces

  pub data BoundEntry : Type 0 where
    named : (key : List ℕ) → (value : BoundTree) → BoundEntry
    computed : (key value : BoundTree) → BoundEntry
    own : (key : BoundTree) → BoundEntry

  pub data BoundEntries : Type 0 where
    no_entries : BoundEntries
    more_entries : BoundEntry → BoundEntries → BoundEntries

  pub data BoundPattern : Type 0 where
    whole : Name → BoundPattern
    items : BoundPatterns → BoundPattern
    members : BoundParts → BoundPattern

  pub data BoundPatterns : Type 0 where
    no_patterns : BoundPatterns
    more_patterns : BoundPattern → BoundPatterns → BoundPatterns

  pub data BoundPart : Type 0 where
    keyed : (key : BoundTree) → BoundPattern → BoundPart
    keyed_variable : Name → BoundPattern → BoundPart

  pub data BoundParts : Type 0 where
    no_parts : BoundParts
    more_parts : BoundPart → BoundParts → BoundParts

-- How many arguments a call has.
abbrev pub bound_count : BoundTrees → ℕ
bound_count no_trees = 0
bound_count (more_trees t ts) = suc (bound_count ts)
