-- What a JSON value is (RFC 8259, section 3), and the order of values (manual of jq 1.7, "sort, sort_by(path_expression)"). A string and a key are
-- lists of code points.
use Rattle.std.specs.Prelude.{ℕ, ℤ, List, [], ◌∷◌, Bool}
use Rattle.std.specs.declared.cmp.Ordering.{Ordering}
use Rattle.std.specs.declared.cmp.Ordering.TheVariants.{Less, Equal, Greater}
use Rattle.std.specs.Ordering.{nat_cmp, int_cmp, bool_cmp, ordering_then}
use Rattle.std.specs.Cmp.Lexicographic.{slice_cmp}

mutual
  pub data Value : Type 0 where
    null : Value
    boolean : Bool → Value
    number : ℤ → Value
    string : List ℕ → Value
    array : Items → Value
    object : Members → Value

  pub data Items : Type 0 where
    no_items : Items
    item : Value → Items → Items

  -- A finite map from keys to values, listed in the order of its keys' code points, each key once. This order is `IsInOrder`
  -- of `specs/Members.antt`, which holds for every object of the code.
  pub data Members : Type 0 where
    no_members : Members
    member : List ℕ → Value → Members → Members

-- a list of values as the items of an array
abbrev pub items_of : List Value → Items
items_of [] = no_items
items_of (v ∷ vs) = item v (items_of vs)

-- the items of an array as a list of values
abbrev pub values_of : Items → List Value
values_of no_items = []
values_of (item v vs) = v ∷ values_of vs

-- the members of an object as a list of keys with their values
abbrev pub entries_of : Members → List (List ℕ × Value)
entries_of no_members = []
entries_of (member k v ms) = (k, v) ∷ entries_of ms

-- the keys, in the order of the members
abbrev pub keys : Members → List (List ℕ)
keys no_members = []
keys (member k v ms) = k ∷ keys ms

-- code point by code point; a prefix comes first
abbrev pub text_cmp : List ℕ → List ℕ → Ordering
text_cmp = slice_cmp nat_cmp

-- null, booleans, numbers, strings, arrays, objects
abbrev pub rank : Value → ℕ
rank null = 0
rank (boolean b) = 1
rank (number n) = 2
rank (string s) = 3
rank (array vs) = 4
rank (object ms) = 5

-- Within a kind: false before true, numbers by size, strings by code points, arrays item by item, objects by their keys
-- as an array of strings and then value by value.
abbrev mutual
  pub compare : Value → Value → Ordering
  compare (boolean b) (boolean c) = bool_cmp b c
  compare (number m) (number n) = int_cmp m n
  compare (string s) (string t) = text_cmp s t
  compare (array vs) (array ws) = compare_items vs ws
  compare (object ms) (object ns) = ordering_then (slice_cmp text_cmp (keys ms) (keys ns)) (compare_members ms ns)
  compare v w = nat_cmp (rank v) (rank w)

  -- item by item; a prefix comes first
  pub compare_items : Items → Items → Ordering
  compare_items no_items no_items = Equal
  compare_items no_items (item w ws) = Less
  compare_items (item v vs) no_items = Greater
  compare_items (item v vs) (item w ws) = ordering_then (compare v w) (compare_items vs ws)

  -- value by value, for objects with the same keys
  pub compare_members : Members → Members → Ordering
  compare_members (member k v ms) (member l w ns) = ordering_then (compare v w) (compare_members ms ns)
  compare_members ms ns = Equal
