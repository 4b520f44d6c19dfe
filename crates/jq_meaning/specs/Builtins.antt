-- Calls of names that no definition binds: natives, and the names whose meaning is more than one value
-- (manual of jq 1.7, "empty", "path(path_expression)", "range", "inputs", "halt", "halt_error").
use Rattle.std.specs.Prelude.{ℕ, ◌+◌, ◌-◌, ◌/◌, ℤ, pos, ◌+ℤ◌, ◌-ℤ◌, ◌*ℤ◌, int_lt, nat_abs, List, [], ◌∷◌, ◌++◌, map, codes, nat_le, if◌then◌else◌, Option, Some, None}
use Rattle.std.specs.List.{range_with_len}
use Rattle.std.specs.Ordering.{int_eq}
use Rattle.jv_data.specs.Value.{Value, number, string, array, values_of}
use Rattle.jv_text.specs.Printed.{line_feed, compact, bytes_or}
use Rattle.jq_natives.specs.declared.native.Native.{Native}
use Rattle.jq_natives.specs.declared.native.Native.TheVariants.{GetPath}
use Rattle.jq_natives.specs.Natives.{native_named, answer_of_native}
use Rattle.jq_tree.specs.Tree.{Name}
use Rattle.jq_meaning.specs.Env.{is_named}
use Rattle.jq_meaning.specs.Runs.{Item, plain, located, value_in, Run, Done, Stopped, halted, ended, none, fail, bind, answered, without_path, paths_in}

-- ---- range

-- how far the end is from the start, in the direction of the step
abbrev pub distance : ℤ → ℤ → ℤ → ℕ
distance start end step =
    if int_lt (pos 0) step then (if int_lt start end then nat_abs (end -ℤ start) else 0)
    else (if int_lt end start then nat_abs (start -ℤ end) else 0)

-- the number of steps that begin before the end
abbrev pub steps_between : ℤ → ℤ → ℤ → ℕ
steps_between start end step = (distance start end step + (nat_abs step - 1)) / nat_abs step

abbrev pub step_from : ℤ → ℤ → ℕ → Item
step_from start step i = plain (number (start +ℤ (pos i *ℤ step)))

-- start, start + step, .. before the end; none if the step is 0
abbrev pub numbers_up_to : (start end step : ℤ) → Run Item
numbers_up_to start end step = record { items = map (step_from start step) (range_with_len 0 (steps_between start end step)); ending = Done }

abbrev pub numbers_between : ℤ → ℤ → ℤ → Run Item
numbers_between start end step =
    if int_eq step (pos 0) then fail (string (codes "Range step is 0"))
    else numbers_up_to start end step

abbrev pub not_numeric : Run Item
not_numeric = fail (string (codes "Range bounds must be numeric"))

abbrev pub range_of : List Value → Run Item
range_of (number start ∷ number end ∷ []) = numbers_between start end (pos 1)
range_of (number start ∷ number end ∷ number step ∷ []) = numbers_between start end step
range_of vs = not_numeric

-- ---- halt

-- what a halt writes for a value: a string's bytes, or another value's compact text and a newline
abbrev pub halt_bytes : Value → List ℕ
halt_bytes v = bytes_or (compact v ++ line_feed ∷ []) v

abbrev pub not_an_exit_code : Run Item
not_an_exit_code = fail (string (codes "exit code must be a number from 0 to 255"))

-- a halt on a value: without an argument nothing is written and the status is 0, and with one the argument is the status
abbrev pub halted_by : Value → List Value → Run Item
halted_by v [] = ended (Stopped (halted 0 []))
halted_by v (number (pos n) ∷ []) = if nat_le n 255 then ended (Stopped (halted n (halt_bytes v))) else not_an_exit_code
halted_by v vs = not_an_exit_code

-- ---- arguments

-- g on each choice of one output for each argument; the first argument is the outer loop
abbrev pub each_choice : {A : Type 0} → List (Run Item) → (List Value → Run A) → Run A
each_choice [] g = g []
each_choice (r ∷ rs) g = bind r (λ v. each_choice rs (λ vs. g (value_in v ∷ vs)))

abbrev pub first_run : List (Run Item) → Run Item
first_run [] = none
first_run (r ∷ rs) = r

-- ---- natives

abbrev pub plain_native : Native → Value → List Value → Run Item
plain_native f v vs = answered plain (answer_of_native f v vs)

abbrev pub values_in_array : Value → List Value
values_in_array (array vs) = values_of vs
values_in_array v = []

-- the part at a path into an item, as an item
abbrev pub at_path : Item → List Value → Value → Item
at_path (plain v) vs w = plain w
at_path (located v path) [] w = located w path
at_path (located v path) (p ∷ vs) w = located w (path ++ values_in_array p)

abbrev pub path_native : Native → Item → List Value → Run Item
path_native f x vs = answered (at_path x vs) (answer_of_native f (value_in x) vs)

-- `getpath` is the only native that keeps paths
abbrev pub native_run : Native → List (Run Item) → Item → Run Item
native_run GetPath arguments x = each_choice arguments (path_native GetPath x)
native_run f arguments x = without_path x (each_choice arguments (plain_native f (value_in x)))

-- ---- all of them

pub data Builtin : Type 0 where
  no_outputs : Builtin
  paths : Builtin
  range : Builtin
  all_inputs : Builtin
  halts : Builtin
  native : Native → Builtin
  unknown : Builtin

abbrev pub native_or_unknown : Option Native → Builtin
native_or_unknown (Some f) = native f
native_or_unknown None = unknown

abbrev pub builtin_named : Name → ℕ → Builtin
builtin_named n count =
    if is_named n count (codes "empty") 0 then no_outputs else
    if is_named n count (codes "path") 1 then paths else
    if is_named n count (codes "range") 2 then range else
    if is_named n count (codes "range") 3 then range else
    if is_named n count (codes "inputs") 0 then all_inputs else
    if is_named n count (codes "halt") 0 then halts else
    if is_named n count (codes "halt_error") 1 then halts else native_or_unknown (native_named n count)

abbrev pub plain_items : Run Value → Run Item
plain_items r = record { items = map plain r.items; ending = r.ending }

-- the run of a call, from the runs of its arguments on an item and the values that `inputs` returns
-- (an unknown name has no outputs; no accepted filter has one)
abbrev pub builtin_run : Builtin → (Item → List (Run Item)) → Run Value → Item → Run Item
builtin_run no_outputs arguments inputs x = none
builtin_run paths arguments inputs x = without_path x (paths_in (first_run (arguments (located (value_in x) []))))
builtin_run range arguments inputs x = without_path x (each_choice (arguments (plain (value_in x))) range_of)
builtin_run all_inputs arguments inputs x = without_path x (plain_items inputs)
builtin_run halts arguments inputs x = each_choice (arguments (plain (value_in x))) (halted_by (value_in x))
builtin_run (native f) arguments inputs x = native_run f (arguments (plain (value_in x))) x
builtin_run unknown arguments inputs x = none
