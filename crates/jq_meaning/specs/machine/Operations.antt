-- What is computed at once, without a further transition.
use Rattle.std.specs.Prelude.{List, [], ◌∷◌, ◌++◌, if◌then◌else◌}
use Rattle.jv_data.specs.Value.{Value, null}
use Rattle.jq_natives.specs.Answers.{is_true}
use Rattle.jq_natives.specs.declared.native.Native.{Native}
use Rattle.jq_natives.specs.declared.native.Native.TheVariants.{GetPath}
use Rattle.jq_meaning.specs.Runs.{Item, plain, located, value_in, as_value, Ending, Done, Raised, Broken, Stopped, Run, none, one, path_error, path_array}
use Rattle.jq_meaning.specs.Steps.{each_part}
use Rattle.jq_meaning.specs.Continuations.{on_target, on_left, truth, negated}
use Rattle.jq_meaning.specs.Builtins.{Builtin, no_outputs, paths, range, all_inputs, halts, native, unknown, range_of, halted_by, plain_native, path_native}
use Rattle.jq_meaning.specs.machine.State.{Operation, part_at_key, every_part, operate, to_truth, negate, path_value, refuse, Cell, Frame, operation, Next, give, go_back, raise, leave, quit, remaining, ForkPoint, fork, State, state}

-- an item's path, as the only output
abbrev pub path_item : Item → Run Item
path_item x = one (path_array x)

-- the error of an item that has no path
abbrev pub no_path : Item → Run Item
no_path x = path_error

-- the run of an operation on an item
abbrev pub result_of : Operation → Item → Run Item
result_of (part_at_key guarded key) x = on_target guarded key x
result_of (every_part guarded) x = each_part guarded x
result_of (operate op right) x = on_left op right x
result_of to_truth x = truth x
result_of negate x = negated x
result_of path_value x = path_item x
result_of refuse x = no_path x

-- what a native returns for an item and its arguments: `getpath` is the only one that keeps paths
abbrev pub native_of : Native → Item → List Value → Run Item
native_of GetPath x vs = path_native GetPath x vs
native_of f x vs = plain_native f (value_in x) vs

-- a call whose arguments are known
abbrev pub applied : Builtin → Item → List Value → Run Item
applied no_outputs x vs = none
applied paths x vs = none
applied range x vs = range_of vs
applied all_inputs x vs = none
applied halts x vs = halted_by (value_in x) vs
applied (native f) x vs = native_of f x vs
applied unknown x vs = none

-- what is done next after a run's ending
abbrev pub ending_next : Ending → Next
ending_next Done = go_back
ending_next (Raised v) = raise v
ending_next (Broken k) = leave k
ending_next (Stopped stop) = quit stop

-- the first item goes to the frames, and a fork point keeps the others
abbrev pub deliver_items : List Item → Ending → List Frame → List ForkPoint → State
deliver_items [] e k fs = state (ending_next e) k fs
deliver_items (x ∷ []) Done k fs = state (give x) k fs
deliver_items (x ∷ xs) e k fs = state (give x) k (fork (remaining (record { items = xs; ending = e })) [] k ∷ fs)

-- a known run goes to the frames
abbrev pub deliver : Run Item → List Frame → List ForkPoint → State
deliver r k fs = deliver_items r.items r.ending k fs

-- inside `path(f)` a form that has no paths runs on the value alone, and its items go to a frame that refuses them
abbrev pub refusing : Item → List Frame → List Frame
refusing (plain v) k = k
refusing (located v p) k = operation refuse ∷ k

-- ---- the contents of cells

-- the cell of an array: the values so far and the value of the item
abbrev pub collect_value : Item → Cell → Cell
collect_value x c = c ++ as_value x ∷ []

-- the cell of `//`: not empty once an item is neither false nor null
abbrev pub note_true : Item → Cell → Cell
note_true x c = if is_true (value_in x) then plain null ∷ [] else c

-- the cell of a fold: the state; the empty cell is null
abbrev pub state_in : Cell → Item
state_in [] = plain null
state_in (x ∷ c) = x

-- the new state of a fold replaces the cell
abbrev pub replace_state : Item → Cell → Cell
replace_state x c = x ∷ []
