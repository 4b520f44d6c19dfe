-- The bindings around a filter.
use Rattle.std.specs.Prelude.{List, length, map}
use Rattle.jq_meaning.specs.Programs.{program_env}
use Rattle.jq_meaning.specs.Env.{Env}
use Rattle.jq_meaning.specs.Runs.{none}
use Rattle.jq_state.specs.Listed.{items_in}
use Rattle.jq_state.specs.Nodes.{program_binding}
use Rattle.jq_state.specs.declared.environments.ProgramBinding.{ProgramBinding}
use Rattle.jq_state.specs.declared.programs.ProgramBindings.{ProgramBindings}

-- the bindings of a program, where `inputs` returns nothing
abbrev pub env_in : List ProgramBinding → Env
env_in bindings = program_env (map program_binding bindings) (length bindings) none

abbrev pub env_of : ProgramBindings → Env
env_of bindings = env_in (items_in bindings)
