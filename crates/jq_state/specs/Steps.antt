-- The machine's frame that the step of a frame represents.
use Rattle.std.specs.Prelude.{List, map, reverse}
use Rattle.jv_data.specs.Held.{values_in, members_in}
use Rattle.jv_data.specs.Shared.{text_in}
use Rattle.jv_data.specs.Value.{string}
use Rattle.jv_data.specs.Text.{text_of}
use Rattle.jv_data.specs.View.{view}
use Rattle.jq_ast.specs.Leaves.{key_of, operator_of}
use Rattle.jq_ast.specs.Named.{name_of, named, named_as_pattern, named_as_part, named_entry}
use Rattle.jq_ast.specs.declared.tree.Tree.{Tree}
use Rattle.jq_ast.specs.declared.tree.Entry.{Entry}
use Rattle.jq_ast.specs.declared.tree.Piece.{Piece}
use Rattle.jq_tree.specs.Tree as tree
use Rattle.jq_meaning.specs.Builtins as builtins
use Rattle.jq_meaning.specs.machine.State as machine
use Rattle.jq_state.specs.Items.{item_of}
use Rattle.jq_state.specs.declared.steps.Operation.{Operation}
use Rattle.jq_state.specs.declared.steps.Operation.TheVariants as operation
use Rattle.jq_state.specs.declared.steps.Selecting.{Selecting}
use Rattle.jq_state.specs.declared.steps.Selecting.TheVariants as selecting
use Rattle.jq_state.specs.declared.steps.Combining.{Combining}
use Rattle.jq_state.specs.declared.steps.Combining.TheVariants as combining
use Rattle.jq_state.specs.declared.steps.Builtin.{Builtin}
use Rattle.jq_state.specs.declared.steps.Builtin.TheVariants as builtin
use Rattle.jq_state.specs.declared.steps.Making.{Making}
use Rattle.jq_state.specs.declared.steps.Making.TheVariants as making
use Rattle.jq_state.specs.declared.steps.Fold.{Fold}
use Rattle.jq_state.specs.declared.steps.Fold.TheVariants as fold
use Rattle.jq_state.specs.declared.steps.Binder.{Binder}
use Rattle.jq_state.specs.declared.steps.Binder.TheVariants as binder
use Rattle.jq_state.specs.declared.steps.Task.{Task}
use Rattle.jq_state.specs.declared.steps.Task.TheVariants as task
use Rattle.jq_state.specs.declared.steps.Binding.{Binding}
use Rattle.jq_state.specs.declared.steps.Binding.TheVariants as binding
use Rattle.jq_state.specs.declared.steps.Holding.{Holding}
use Rattle.jq_state.specs.declared.steps.Holding.TheVariants as holding
use Rattle.jq_state.specs.declared.steps.Step.{Step}
use Rattle.jq_state.specs.declared.steps.Step.TheVariants as step

abbrev pub operation_of : Operation → machine.Operation
operation_of (operation.Field key guarded) = machine.part_at_key guarded (string (key_of key.now))
operation_of (operation.PartAtKey guarded key) = machine.part_at_key guarded (view key)
operation_of (operation.EveryPart guarded) = machine.every_part guarded
operation_of (operation.Operate operator right) = machine.operate (operator_of operator) (view right)
operation_of operation.ToTruth = machine.to_truth
operation_of operation.Negate = machine.negate
operation_of operation.PathValue = machine.path_value
operation_of operation.Refuse = machine.refuse

abbrev pub selecting_in : Selecting → machine.Scope → machine.Frame
selecting_in (selecting.TargetKey target guarded x) p = machine.target_key (named target.now) guarded p (item_of x)
selecting_in (selecting.SliceStart target to guarded x) p = machine.slice_start (named target.now) (named to.now) guarded p (item_of x)
selecting_in (selecting.SliceEnd target start guarded x) p = machine.slice_end (named target.now) (view start) guarded p (item_of x)

abbrev pub combining_in : Combining → machine.Scope → machine.Frame
combining_in (combining.PipeInto second) p = machine.pipe_into (named second.now) p
combining_in (combining.RightOperand operator left x) p = machine.right_operand (operator_of operator) (named left.now) p (item_of x)
combining_in (combining.Conjunct right x) p = machine.conjunct (named right.now) p (item_of x)
combining_in (combining.Disjunct right x) p = machine.disjunct (named right.now) p (item_of x)
combining_in (combining.Test holds fails x) p = machine.test (named holds.now) (named fails.now) p (item_of x)

abbrev pub named_entries : List (Entry Tree) → tree.Entries
named_entries es = tree.entries_of (map named_entry es)

abbrev pub hole_of : Piece Tree → machine.Hole
hole_of p = record { front = text_of p.before; filter = named p.tree }

abbrev pub builtin_of : Builtin → builtins.Builtin
builtin_of builtin.Range = builtins.range
builtin_of builtin.Halts = builtins.halts
builtin_of (builtin.Native f) = builtins.native f

abbrev pub making_in : Making → machine.Scope → machine.Frame
making_in (making.EntryValue key later made v) p = machine.entry_value (text_in key) (named_entries later.now) (members_in made) p (view v)
making_in (making.EntryKey value later made v) p = machine.entry_key (named value.now) (named_entries later.now) (members_in made) p (view v)
making_in (making.OwnEntry later made v) p = machine.own_entry (named_entries later.now) (members_in made) p (view v)
making_in (making.Hole format front back earlier x) p =
    machine.hole (name_of format.now) (text_of front.now) (text_in back) (reverse (map hole_of earlier.now)) p (item_of x)
making_in (making.Argument f later known x) p = machine.argument (builtin_of f) (tree.trees_of (map named later.now)) (values_in known) p (item_of x)

abbrev pub fold_of : Fold → machine.Fold
fold_of (fold.Reducing update) = machine.reducing (named update.now)
fold_of (fold.Extracting update extract) = machine.extracting (named update.now) (named extract.now)

abbrev pub binder_of : Binder → machine.Binder
binder_of (binder.Body body x) = machine.body (named body.now) (item_of x)
binder_of (binder.FoldStep height f) = machine.fold_step height (fold_of f)

abbrev pub task_of : Task → machine.Task
task_of (task.Items patterns index v) = machine.items_from (tree.patterns_of (map named_as_pattern patterns.now)) index (view v)
task_of (task.Members members v) = machine.members_of (tree.parts_of (map named_as_part members.now)) (view v)

abbrev pub tasks_of : List Task → List machine.Task
tasks_of ts = reverse (map task_of ts)

abbrev pub binding_in : Binding → machine.Scope → machine.Frame
binding_in (binding.Source pattern b) p = machine.source (named_as_pattern pattern.now) (binder_of b) p
binding_in (binding.PatternKey pattern later v ts b) p =
    machine.pattern_key (named_as_pattern pattern.now) (tree.parts_of (map named_as_part later.now)) (view v) (tasks_of ts.items) (binder_of b) p
binding_in (binding.FoldStart source pattern f x) p = machine.fold_start (named source.now) (named_as_pattern pattern.now) (fold_of f) p (item_of x)

abbrev pub holding_in : Holding → machine.Scope → machine.Frame
holding_in (holding.FoldUpdate height f) p = machine.fold_update height (fold_of f) p
holding_in (holding.Collect height) p = machine.collect height
holding_in (holding.LeftSide height) p = machine.left_side height
holding_in (holding.TryBody height handler x) p = machine.try_body height (named handler.now) p (item_of x)
holding_in (holding.LabelBody height level) p = machine.label_body height level

abbrev pub step_in : Step → machine.Scope → machine.Frame
step_in (step.Operation s) p = machine.operation (operation_of s)
step_in (step.Selecting s) p = selecting_in s p
step_in (step.Combining s) p = combining_in s p
step_in (step.Making s) p = making_in s.value p
step_in (step.Binding s) p = binding_in s.value p
step_in (step.Holding s) p = holding_in s p
