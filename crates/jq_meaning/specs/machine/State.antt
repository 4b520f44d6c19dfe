-- The state of a machine that runs a filter with a continuation and a stack of fork points, as plain data.
use Rattle.std.specs.Prelude.{ℕ, List, Bool}
use Rattle.jv_data.specs.Value.{Value, Members}
use Rattle.jq_tree.specs.Tree.{Name, Operator, Tree, Trees, Entries, Pattern, Patterns, Parts}
use Rattle.jq_meaning.specs.Runs.{Item, Stop, Ending, Run}
use Rattle.jq_meaning.specs.Env.{Env}
use Rattle.jq_meaning.specs.Builtins.{Builtin}

-- The scope of a filter: its bindings, how deep its calls may still nest, and the level of the next label.
pub record Scope : Type 0 where
  pub env : Env
  pub depth : ℕ
  pub level : ℕ

-- What turns an item into a run at once, without a further filter.
pub data Operation : Type 0 where
  part_at_key : (guarded : Bool) → (key : Value) → Operation  -- .[key]
  every_part : (guarded : Bool) → Operation  -- .[]
  operate : Operator → (right : Value) → Operation
  to_truth : Operation  -- whether it is neither null nor false
  negate : Operation
  path_value : Operation  -- the item's path as an array
  refuse : Operation  -- an item without a path, inside `path(f)`

-- What reduce and foreach do with each item of their source.
pub data Fold : Type 0 where
  reducing : (update : Tree) → Fold
  extracting : (update extract : Tree) → Fold

-- What runs in the bindings that a pattern makes: the body of `as` on an item, or one
-- step of the fold whose cell is at a height.
pub data Binder : Type 0 where
  body : Tree → Item → Binder
  fold_step : (height : ℕ) → Fold → Binder

-- Parts of a pattern that are still to be matched with a value.
pub data Task : Type 0 where
  items_from : Patterns → (index : ℕ) → Value → Task
  members_of : Parts → Value → Task

-- A filter in a string, with the text in front of it.
pub record Hole : Type 0 where
  pub front : List ℕ
  pub filter : Tree

-- What waits for an item. A height is a position in the stack of fork points.
-- An item in a frame is the input of the form that the frame belongs to; the scope is that form's.
pub data Frame : Type 0 where
  operation : Operation → Frame
  pipe_into : (second : Tree) → Scope → Frame
  target_key : (target : Tree) → (guarded : Bool) → Scope → Item → Frame  -- waits for the key
  slice_start : (target to : Tree) → (guarded : Bool) → Scope → Item → Frame
  slice_end : (target : Tree) → (start : Value) → (guarded : Bool) → Scope → Item → Frame
  right_operand : Operator → (left : Tree) → Scope → Item → Frame
  conjunct : (right : Tree) → Scope → Item → Frame
  disjunct : (right : Tree) → Scope → Item → Frame
  test : (holds fails : Tree) → Scope → Item → Frame
  entry_value : (key : List ℕ) → (later : Entries) → (made : Members) → Scope → Value → Frame
  entry_key : (value : Tree) → (later : Entries) → (made : Members) → Scope → Value → Frame
  own_entry : (later : Entries) → (made : Members) → Scope → Value → Frame
  hole : (format : Name) → (front back : List ℕ) → (earlier : List Hole) → Scope → Item → Frame
  argument : Builtin → (later : Trees) → (known : List Value) → Scope → Item → Frame
  source : Pattern → Binder → Scope → Frame
  pattern_key : Pattern → (later : Parts) → Value → List Task → Binder → Scope → Frame
  fold_start : (source : Tree) → Pattern → Fold → Scope → Item → Frame
  fold_update : (height : ℕ) → Fold → Scope → Frame  -- the scope has the bindings of this step
  collect : (height : ℕ) → Frame
  left_side : (height : ℕ) → Frame  -- of `//`
  try_body : (height : ℕ) → (handler : Tree) → Scope → Item → Frame
  label_body : (height : ℕ) → (level : ℕ) → Frame

-- What is done next.
pub data Next : Type 0 where
  evaluate : Tree → Scope → Item → Next
  give : Item → Next
  matching : Pattern → Value → List Task → Binder → Scope → Next  -- the scope has the bindings so far
  matched : List Task → Binder → Scope → Next  -- a pattern is matched: its bindings go to what waits for them
  go_back : Next
  raise : Value → Next
  leave : (level : ℕ) → Next  -- the label of this level
  quit : Stop → Next  -- no frame and no fork point stops this

-- What a fork point runs when the machine goes back to it.
pub data Choice : Type 0 where
  other : Tree → Scope → Item → Choice  -- the right side of a comma
  remaining : Run Item → Choice  -- items that are still to be given
  collected : Choice  -- the array of the items in the cell
  last_state : Choice  -- of reduce
  no_more : Choice  -- of foreach
  right_side : Tree → Scope → Item → Choice  -- of `//`, if the cell is empty
  check_update : (height : ℕ) → Choice  -- inside `path(f)`: an update that gave no state is an error

-- What changes while a run goes on, kept in a fork point: collected items, a fold's state, or whether `//` had an item.
abbrev pub Cell : Type 0
Cell = List Item

-- What is run when the machine goes back, and the frames that its items go to.
pub record ForkPoint : Type 0 where
  pub choice : Choice
  pub cell : Cell
  pub frames : List Frame

-- Frames and fork points are listed with the newest first.
pub record State : Type 0 where
  pub next : Next
  pub frames : List Frame
  pub forks : List ForkPoint

-- short forms for a state, a fork point, and a scope with other bindings
abbrev pub state : Next → List Frame → List ForkPoint → State
state n k fs = record { next = n; frames = k; forks = fs }

abbrev pub fork : Choice → Cell → List Frame → ForkPoint
fork choice c k = record { choice = choice; cell = c; frames = k }

abbrev pub with_env : Env → Scope → Scope
with_env e p = record { env = e; depth = p.depth; level = p.level }

-- The result of a transition.
pub data Progress : Type 0 where
  moves : State → Progress
  outputs : Item → State → Progress
  finishes : Ending → Progress
