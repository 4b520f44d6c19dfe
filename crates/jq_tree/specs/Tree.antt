-- The tree of a filter, with its names as they are spelt.
--
-- The forms are those of the manual of jq 1.7, without the forms that it explains by others: these are written out
-- (see `WrittenOut`), so the meaning of filters does not mention them. Parentheses are gone.
use Rattle.std.specs.Prelude.{ℕ, suc, ℤ, List, [], ◌∷◌, Bool}

-- The name of a function, a variable, a label or a format: code points, without the `$` of a variable or the `@` of a format.
abbrev pub Name : Type 0
Name = List ℕ

-- A constant ("Basic filters", "Literals"). A string is a list of code points.
pub data Literal : Type 0 where
  null : Literal
  boolean : Bool → Literal
  number : ℤ → Literal
  string : List ℕ → Literal

-- The operators that work on two values ("Builtin operators and functions", "Conditionals and Comparisons").
pub data Operator : Type 0 where
  plus : Operator
  minus : Operator
  times : Operator
  divided : Operator
  modulo : Operator
  equal : Operator
  not_equal : Operator
  less : Operator
  less_or_equal : Operator
  greater : Operator
  greater_or_equal : Operator

mutual
  -- A filter. In a step (`field` to `iterate`) the mark says that a `?` directly after it guards that step alone.
  pub data Tree : Type 0 where
    identity : Tree  -- .
    empty : Tree  -- no output, even if `empty` is redefined
    literal : Literal → Tree  -- 1, "a", null
    text : (format : Name) → Pieces → Tree  -- "a\(f)b" (format `text`), @name "a\(f)b"
    format : Name → Tree  -- @name
    variable : Name → Tree  -- $x
    field : (target : Tree) → (key : Name) → (guarded : Bool) → Tree  -- f.a
    index : (target key : Tree) → (guarded : Bool) → Tree  -- f[g], f."a"
    slice : (target from to : Tree) → (guarded : Bool) → Tree  -- f[g:h]; a missing bound is null
    iterate : (target : Tree) → (guarded : Bool) → Tree  -- f[]
    pipe : (first second : Tree) → Tree  -- f | g
    comma : (first second : Tree) → Tree  -- f, g
    binary : Operator → (left right : Tree) → Tree  -- f + g
    conjunction : (left right : Tree) → Tree  -- f and g
    disjunction : (left right : Tree) → Tree  -- f or g
    alternative : (left right : Tree) → Tree  -- f // g
    negation : Tree → Tree  -- -f
    array : Tree → Tree  -- [f]; `[]` collects the outputs of `empty`
    object : Entries → Tree  -- {..}
    choice : (test holds fails : Tree) → Tree  -- if f then g else h end
    try_catch : (body handler : Tree) → Tree  -- try f catch g
    label : Name → (body : Tree) → Tree  -- label $x | f
    break : Name → Tree  -- break $x
    bind_as : (source : Tree) → Pattern → (body : Tree) → Tree  -- f as P | g
    reduce : (source : Tree) → Pattern → (start update : Tree) → Tree  -- reduce f as P (g; h)
    foreach : (source : Tree) → Pattern → (start update extract : Tree) → Tree  -- foreach f as P (g; h; i)
    define : Name → (parameters : List Name) → (body rest : Tree) → Tree  -- def a(b): f; g
    call : Name → Trees → Tree  -- a(f; g); also a parameter, a native, a core name
    prelude_call : Name → Trees → Tree  -- the prelude's own function, even if it is redefined later

  -- The arguments of a call.
  pub data Trees : Type 0 where
    no_trees : Trees
    more_trees : Tree → Trees → Trees

  -- The contents of a string: characters, and filters between them.
  pub data Pieces : Type 0 where
    last_piece : List ℕ → Pieces
    more_pieces : List ℕ → Tree → Pieces → Pieces

  -- An entry of an object construction ("Object construction").
  pub data Entry : Type 0 where
    named : (key : List ℕ) → (value : Tree) → Entry  -- {a: f}, {"a": f}, {a}, {"a"}, {$x}
    computed : (key value : Tree) → Entry  -- {(f): g}, {"a\(f)b": g}, {@name "a": g}
    own : (key : Tree) → Entry  -- {"a\(f)b"}: each key k that it produces, with `.[k]`

  pub data Entries : Type 0 where
    no_entries : Entries
    more_entries : Entry → Entries → Entries

  -- A pattern that binds variables ("Destructuring").
  pub data Pattern : Type 0 where
    whole : Name → Pattern  -- $x
    items : Patterns → Pattern  -- [P, ..]
    members : Parts → Pattern  -- {..}

  pub data Patterns : Type 0 where
    no_patterns : Patterns
    more_patterns : Pattern → Patterns → Patterns

  -- A part of an object in a pattern.
  pub data Part : Type 0 where
    keyed : (key : Tree) → Pattern → Part  -- a: P, "a": P, (f): P; `$k` alone is `k: $k`
    keyed_variable : Name → Pattern → Part  -- $k: P binds $k to the part at k too

  pub data Parts : Type 0 where
    no_parts : Parts
    more_parts : Part → Parts → Parts

-- How many arguments a call has.
abbrev pub trees_count : Trees → ℕ
trees_count no_trees = 0
trees_count (more_trees t ts) = suc (trees_count ts)

abbrev pub trees_of : List Tree → Trees
trees_of [] = no_trees
trees_of (t ∷ ts) = more_trees t (trees_of ts)

abbrev pub entries_of : List Entry → Entries
entries_of [] = no_entries
entries_of (e ∷ es) = more_entries e (entries_of es)

abbrev pub patterns_of : List Pattern → Patterns
patterns_of [] = no_patterns
patterns_of (p ∷ ps) = more_patterns p (patterns_of ps)

abbrev pub parts_of : List Part → Parts
parts_of [] = no_parts
parts_of (p ∷ ps) = more_parts p (parts_of ps)
