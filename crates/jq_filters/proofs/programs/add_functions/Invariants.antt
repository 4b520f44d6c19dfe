use Rattle.std.proofs.Common.{◌≡◌, ◌++◌, map}
use Rattle.jq_state.specs.Nodes.{program_binding}
use Rattle.jq_filters.specs.Programs.{function_binding}
use Rattle.jq_filters.proofs.programs.add_functions.Given as goal

abbrev pub invariant-loop-function : goal.invariant-loop-function
invariant-loop-function l = map program_binding l.bindings.items ++ map function_binding l.function-iterator.rest.items ≡ map program_binding l.fn.bindings.items ++ map function_binding l.fn.functions.items
