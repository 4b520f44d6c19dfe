use Rattle.std.proofs.Common.{◌≡◌, ◌++◌, ◌+◌, map, reverse, length}
use Rattle.jq_syntax.specs.Chosen.{variables_of}
use Rattle.jq_state.specs.Nodes.{program_binding}
use Rattle.jq_filters.specs.Programs.{value_binding}
use Rattle.jq_filters.proofs.programs.add_variables.Given as goal

abbrev pub invariant-loop : goal.invariant-loop
invariant-loop l =
    (map program_binding l.bindings.items ++ reverse (map value_binding (variables_of l.left.items)) ≡ map program_binding l.fn.bindings.items ++ reverse (map value_binding (variables_of l.fn.variables.items)))
    × (length l.left.items + l.counter ≡ length l.fn.variables.items)
