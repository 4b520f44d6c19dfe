-- What a filter does with a value, and how a command runs it.
use Rattle.std.specs.Prelude.{ℕ, List, length, map}
use Rattle.jv_data.specs.Value.{Value}
use Rattle.jq_ast.specs.Named.{named}
use Rattle.jq_ast.specs.declared.tree.Tree.{Tree}
use Rattle.jq_meaning.specs.Programs.{program_env}
use Rattle.jq_meaning.specs.Meaning.{meaning}
use Rattle.jq_meaning.specs.Runs.{Run, Item, plain}
use Rattle.jq_state.specs.Listed.{items_in}
use Rattle.jq_state.specs.Nodes.{program_binding}
use Rattle.jq_state.specs.declared.environments.ProgramBinding.{ProgramBinding}
use Rattle.jq_filters.specs.Outcomes as outcomes
use Rattle.jq_filters.specs.declared.runner.Runner.{Runner}
use Rattle.jq_filters.specs.declared.settings.Mode.{Mode}
use Rattle.jq_filters.specs.declared.settings.Mode.TheVariants as mode
use Rattle.jq_filters.specs.declared.settings.Settings.{Settings}

-- the run of a filter's tree on a value, in a program's bindings, with the values that `inputs` returns
abbrev pub run_in : (depth : ℕ) → Tree → List ProgramBinding → (inputs : Run Value) → Value → Run Item
run_in depth tree bindings inputs v = meaning depth (named tree) (program_env (map program_binding bindings) (length bindings) inputs) 0 (plain v)

abbrev pub mode_of : Mode → outcomes.Mode
mode_of mode.OnEach = outcomes.on_each
mode_of (mode.OnNull reads) = outcomes.on_null reads
mode_of mode.OnAll = outcomes.on_all

abbrev pub job_in : Settings → (depth : ℕ) → Tree → List ProgramBinding → outcomes.Job
job_in s depth tree bindings = record { style = s.style; exit = s.exit; run = run_in depth tree bindings }

abbrev pub job_of : Settings → Runner → outcomes.Job
job_of s r = job_in s r.depth r.tree.now (items_in r.bindings.now)
