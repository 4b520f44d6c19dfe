-- The environments that bindings and nodes represent, and which indexes they may name.
use Rattle.std.specs.Prelude.{ℕ, ◌+◌, ◌<◌, List, [], ◌∷◌, map, slice_index_or}
use Rattle.jv_data.specs.Text.{text_of}
use Rattle.jv_data.specs.View.{view}
use Rattle.jq_ast.specs.Named.{named}
use Rattle.jq_meaning.specs.Env.{Env, outermost, bound}
use Rattle.jq_meaning.specs.Env as env
use Rattle.jq_meaning.specs.Runs.{none}
use Rattle.jq_state.specs.declared.environments.Node.{Node}
use Rattle.jq_state.specs.declared.environments.Binding.{Binding}
use Rattle.jq_state.specs.declared.environments.Binding.TheVariants as binding
use Rattle.jq_state.specs.declared.environments.ProgramBinding.{ProgramBinding}
use Rattle.jq_state.specs.declared.environments.ProgramBinding.TheVariants as program

abbrev pub program_binding : ProgramBinding → env.Binding
program_binding (program.Value name value) = env.value_of (text_of name) (view value)
program_binding (program.Function f) = env.function (text_of f.name) (map text_of f.parameters.items) (named f.body)

-- The environments of the first 0, 1, .. bindings of a list, up to all of them.
abbrev pub program_envs : List env.Binding → Env → List Env
program_envs [] e = e ∷ []
program_envs (b ∷ bs) e = e ∷ program_envs bs (bound b e)

-- After the last index every environment is empty.
abbrev pub env_at : List Env → ℕ → Env
env_at envs i = slice_index_or envs i (outermost none)

abbrev pub binding_in : List Env → Binding → env.Binding
binding_in envs (binding.Value name value) = env.value_of (text_of name.now) (view value)
binding_in envs (binding.Function f) = env.function (text_of f.now.name) (map text_of f.now.parameters.items) (named f.now.body)
binding_in envs (binding.Closure name tree own) = env.closure (text_of name.now) (named tree.now) (env_at envs own)
binding_in envs (binding.Label name level) = env.label_of (text_of name.now) level

abbrev pub node_in : List Env → Node → Env
node_in envs n = bound (binding_in envs n.binding) (env_at envs n.outer)

-- ---- indexes below a count

abbrev pub BindingFits : ℕ → Binding → Type 0
BindingFits count (binding.Value name value) = Unit {0}
BindingFits count (binding.Function f) = Unit {0}
BindingFits count (binding.Closure name tree own) = own < count
BindingFits count (binding.Label name level) = Unit {0}

abbrev pub NodeFits : ℕ → Node → Type 0
NodeFits count n = (n.outer < count) × BindingFits count n.binding

-- Each node names only environments with a smaller index.
abbrev pub NodesFit : ℕ → List Node → Type 0
NodesFit count [] = Unit {0}
NodesFit count (n ∷ ns) = NodeFits count n × NodesFit (count + 1) ns
