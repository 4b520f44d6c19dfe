-- The trees of a filter by their parts: entries, parts of patterns, definitions, and lists with a tree after them.
use Rattle.std.specs.Prelude.{ℕ, List, [], ◌∷◌, Option, Some, None, Bool, true, false}
use Rattle.jq_tree.specs.Tree.{Name, Literal, Tree, no_trees, Pieces, more_pieces, Entry, Pattern, Part}
use Rattle.jq_tree.specs.Tree as tree
use Rattle.jq_tree.specs.WrittenOut.{attempt, guarded, Parameter, definition}
use Rattle.jq_tree.specs.Grammar.{text_entry, own_entry}

-- The items added in front of a list, from the last to the first.
abbrev pub onto : {A B : Type 0} → (A → B → B) → List A → B → B
onto more [] b = b
onto more (a ∷ xs) b = more a (onto more xs b)

abbrev pub piece_before : List ℕ × Tree → Pieces → Pieces
piece_before p ps = more_pieces p.0 p.1 ps

abbrev pub branch_before : Tree × Tree → Tree → Tree
branch_before b rest = tree.choice b.0 b.1 rest

abbrev pub bare_name : Option Literal → Name → Tree
bare_name (Some v) n = tree.literal v
bare_name None n = tree.call n no_trees

-- A `?` directly after a step guards that step alone.
abbrev pub with_question : Bool → Tree → Tree
with_question true a = guarded a
with_question false a = attempt a

abbrev pub with_comma : Option Tree → Tree → Tree
with_comma None t = t
with_comma (Some a) t = tree.comma a t

-- The key of an entry, before its colon.
pub data EntryKey : Type 0 where
  by_word : List ℕ → EntryKey
  by_text : Pieces → EntryKey
  by_format : Name → Pieces → EntryKey

abbrev pub entry_of : EntryKey → Option Tree → Entry
entry_of (by_word s) None = tree.named s (tree.field tree.identity s false)
entry_of (by_word s) (Some v) = tree.named s v
entry_of (by_text ps) None = own_entry ps
entry_of (by_text ps) (Some v) = text_entry ps v
entry_of (by_format f ps) None = tree.own (tree.text f ps)
entry_of (by_format f ps) (Some v) = tree.computed (tree.text f ps) v

-- The key of an entry whose value comes next.
pub data ValueKey : Type 0 where
  keyed_by : EntryKey → ValueKey
  computed_by : Tree → ValueKey

abbrev pub entry_with : ValueKey → Tree → Entry
entry_with (keyed_by k) v = entry_of k (Some v)
entry_with (computed_by key) v = tree.computed key v

-- The key of a part of a pattern.
pub data PartKey : Type 0 where
  by_tree : Tree → PartKey
  by_variable : Name → PartKey

abbrev pub part_with : PartKey → Pattern → Part
part_with (by_tree key) x = tree.keyed key x
part_with (by_variable n) x = tree.keyed_variable n x

pub record Function : Type 0 where
  pub named : Name
  pub parameters : List Parameter
  pub body : Tree

abbrev pub defining : Function → Tree → Tree
defining f rest = definition f.named f.parameters f.body rest
