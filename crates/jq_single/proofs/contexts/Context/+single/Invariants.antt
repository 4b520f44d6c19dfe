use Rattle.std.proofs.Common.{◌≡◌, ℕ, ◌+◌, ◌*◌, List, [], drop, length, map, Result}
use Rattle.jv_data.specs.Held.{members_in}
use Rattle.jv_data.specs.Value.{Value, array, items_of, no_members}
use Rattle.jv_data.specs.View.{view}
use Rattle.jv_data.specs.declared.values.Val.{Val}
use Rattle.jq_ast.specs.Named.{named}
use Rattle.jq_meaning.specs.Runs.{Done, Run, bind}
use Rattle.jq_meaning.specs.laws.Updating.{turns}
use Rattle.jq_single.specs.declared.stops.Stop.{Stop}
use Rattle.jq_single.specs.private.Gathering.{Gathers, made, rest_run, supplied}
use Rattle.jq_single.specs.private.Making.{entries_in}
use Rattle.jq_single.specs.private.Updates.{listed, part_run}
use Rattle.jq_state.specs.Steps.{named_entries}
use Rattle.jq_single.proofs.contexts.Context.+single.Given as goal

-- the fuel, with an offset so that a helper has a smaller measure than its caller

abbrev pub decreases-get : goal.decreases-get
decreases-get l = 32 * l.self.now.fuel

abbrev pub decreases-get_part : goal.decreases-get_part
decreases-get_part l = 32 * l.self.now.fuel + 1

abbrev pub decreases-get_made : goal.decreases-get_made
decreases-get_made l = 32 * l.self.now.fuel + 13

abbrev pub decreases-binary : goal.decreases-binary
decreases-binary l = 32 * l.self.now.fuel + 4

abbrev pub decreases-get_changed : goal.decreases-get_changed
decreases-get_changed l = 32 * l.self.now.fuel + 17

abbrev pub decreases-field : goal.decreases-field
decreases-field l = 32 * l.self.now.fuel + 2

abbrev pub decreases-index : goal.decreases-index
decreases-index l = 32 * l.self.now.fuel + 3

abbrev pub decreases-slice : goal.decreases-slice
decreases-slice l = 32 * l.self.now.fuel + 3

abbrev pub decreases-pipe : goal.decreases-pipe
decreases-pipe l = 32 * l.self.now.fuel + 3

abbrev pub decreases-negation : goal.decreases-negation
decreases-negation l = 32 * l.self.now.fuel + 3

abbrev pub decreases-array : goal.decreases-array
decreases-array l = 32 * l.self.now.fuel + 11

abbrev pub decreases-conjunction : goal.decreases-conjunction
decreases-conjunction l = 32 * l.self.now.fuel + 3

abbrev pub decreases-disjunction : goal.decreases-disjunction
decreases-disjunction l = 32 * l.self.now.fuel + 3

abbrev pub decreases-alternative : goal.decreases-alternative
decreases-alternative l = 32 * l.self.now.fuel + 3

abbrev pub decreases-try_catch : goal.decreases-try_catch
decreases-try_catch l = 32 * l.self.now.fuel + 3

abbrev pub decreases-object : goal.decreases-object
decreases-object l = 32 * l.self.now.fuel + 11

abbrev pub decreases-with_entry : goal.decreases-with_entry
decreases-with_entry l = 32 * l.self.now.fuel + 9

abbrev pub decreases-member : goal.decreases-member
decreases-member l = 32 * l.self.now.fuel + 6

abbrev pub decreases-pieces : goal.decreases-pieces
decreases-pieces l = 32 * l.self.now.fuel + 11

abbrev pub decreases-change_from : goal.decreases-change_from
decreases-change_from l = 32 * l.self.now.fuel + 4

abbrev pub decreases-collect : goal.decreases-collect
decreases-collect l = 32 * l.self.now.fuel + 1

abbrev pub decreases-change : goal.decreases-change
decreases-change l = 32 * l.self.now.fuel

abbrev pub decreases-change_form : goal.decreases-change_form
decreases-change_form l = 32 * l.self.now.fuel + 16

abbrev pub decreases-change_binary : goal.decreases-change_binary
decreases-change_binary l = 32 * l.self.now.fuel + 4

abbrev pub decreases-change_choice : goal.decreases-change_choice
decreases-change_choice l = 32 * l.self.now.fuel + 3

abbrev pub decreases-change_define : goal.decreases-change_define
decreases-change_define l = 32 * l.self.now.fuel + 3

abbrev pub decreases-change_binding : goal.decreases-change_binding
decreases-change_binding l = 32 * l.self.now.fuel + 3

abbrev pub decreases-change_call : goal.decreases-change_call
decreases-change_call l = 32 * l.self.now.fuel + 11

abbrev pub decreases-change_builtin : goal.decreases-change_builtin
decreases-change_builtin l = 32 * l.self.now.fuel + 10

abbrev pub decreases-change_native : goal.decreases-change_native
decreases-change_native l = 32 * l.self.now.fuel + 3

abbrev pub decreases-change_reduce : goal.decreases-change_reduce
decreases-change_reduce l = 32 * l.self.now.fuel + 7

abbrev pub decreases-step : goal.decreases-step
decreases-step l = 32 * l.self.now.fuel + 2

abbrev pub decreases-turn : goal.decreases-turn
decreases-turn l = 32 * l.self.now.fuel + 3

abbrev pub decreases-change_update : goal.decreases-change_update
decreases-change_update l = 32 * l.self.now.fuel + 11

abbrev pub decreases-change_each : goal.decreases-change_each
decreases-change_each l = 32 * l.self.now.fuel + 7

abbrev pub decreases-change_part : goal.decreases-change_part
decreases-change_part l = 32 * l.self.now.fuel + 6

abbrev pub decreases-change_first : goal.decreases-change_first
decreases-change_first l = 32 * l.self.now.fuel + 4

abbrev pub decreases-change_first_of_two : goal.decreases-change_first_of_two
decreases-change_first_of_two l = 32 * l.self.now.fuel + 2

abbrev pub decreases-gather : goal.decreases-gather
decreases-gather l = 32 * l.self.now.fuel

abbrev pub decreases-gather_one : goal.decreases-gather_one
decreases-gather_one l = 32 * l.self.now.fuel + 6

abbrev pub decreases-gather_index : goal.decreases-gather_index
decreases-gather_index l = 32 * l.self.now.fuel + 5

abbrev pub decreases-gather_pipe : goal.decreases-gather_pipe
decreases-gather_pipe l = 32 * l.self.now.fuel + 1

abbrev pub decreases-gather_comma : goal.decreases-gather_comma
decreases-gather_comma l = 32 * l.self.now.fuel + 5

abbrev pub decreases-gather_choice : goal.decreases-gather_choice
decreases-gather_choice l = 32 * l.self.now.fuel + 5

abbrev pub decreases-gather_binding : goal.decreases-gather_binding
decreases-gather_binding l = 32 * l.self.now.fuel + 5

abbrev pub decreases-gather_define : goal.decreases-gather_define
decreases-gather_define l = 32 * l.self.now.fuel + 5

abbrev pub decreases-gather_call : goal.decreases-gather_call
decreases-gather_call l = 32 * l.self.now.fuel + 13

abbrev pub decreases-gather_builtin : goal.decreases-gather_builtin
decreases-gather_builtin l = 32 * l.self.now.fuel + 12

abbrev pub decreases-gather_range : goal.decreases-gather_range
decreases-gather_range l = 32 * l.self.now.fuel + 8

abbrev pub decreases-gather_paths : goal.decreases-gather_paths
decreases-gather_paths l = 32 * l.self.now.fuel + 5

abbrev pub decreases-give : goal.decreases-give
decreases-give l = 32 * l.self.now.fuel + 5

abbrev pub decreases-give_bound : goal.decreases-give_bound
decreases-give_bound l = 32 * l.self.now.fuel + 1

abbrev pub decreases-gather_step : goal.decreases-gather_step
decreases-gather_step l = 32 * l.self.now.fuel + 1

abbrev pub decreases-give_step : goal.decreases-give_step
decreases-give_step l = 32 * l.self.now.fuel + 3

abbrev pub decreases-give_all : goal.decreases-give_all
decreases-give_all l = 32 * l.self.now.fuel + 6

-- ---- loops: the remaining items have the same result after what was added as all of them had at first

abbrev pub invariant-give_all-loop-item : goal.invariant-give_all-loop-item
invariant-give_all-loop-item l =
    (inputs : Run Value) (level : ℕ) (a : Result (Unit {0}) Stop) (ys : List Val) → Gathers (made inputs level l.rest) a l.into.items ys (bind (supplied l.supply) (rest_run inputs level l.rest))
    → Gathers (made inputs level l.rest) a l.initial.into.items ys (bind (supplied l.initial.supply) (rest_run inputs level l.rest))

abbrev pub decreases-give_all-loop-item : goal.decreases-give_all-loop-item
decreases-give_all-loop-item l = length (supplied l.supply).items

abbrev pub invariant-change_each-loop-path : goal.invariant-change_each-loop-path
invariant-change_each-loop-path l =
    ((inputs : Run Value) (level : ℕ)
    → turns level (part_run l.self inputs level (named l.update)) (map view (drop l.path-index l.paths)) Done (view l.value) (listed l.without.items)
    ≡ turns level (part_run l.self inputs level (named l.update)) (map view l.paths) Done (view l.initial.value) (array (items_of [])))
    × (l.path-index ≡ 0 → view l.value ≡ view l.initial.value)

abbrev pub invariant-object-loop-entry : goal.invariant-object-loop-entry
invariant-object-loop-entry l =
    (inputs : Run Value) (level : ℕ)
    → entries_in l.self inputs level (named_entries (drop l.entry-index l.entries)) (view l.value) (members_in l.made)
    ≡ entries_in l.self inputs level (named_entries l.entries) (view l.value) no_members
