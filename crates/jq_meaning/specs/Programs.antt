-- The environments of a program's own bindings, which it keeps in a list from the outermost to the innermost.
use Rattle.std.specs.Prelude.{ℕ, List, [], ◌∷◌, take}
use Rattle.jv_data.specs.Value.{Value}
use Rattle.jq_meaning.specs.Env.{Env, outermost, bound, Binding}
use Rattle.jq_meaning.specs.Runs.{Run}

-- The environment with these bindings added in order: the last one is the innermost.
abbrev pub with_bindings : List Binding → Env → Env
with_bindings [] e = e
with_bindings (b ∷ bs) e = with_bindings bs (bound b e)

-- The environment of the program's first `j` bindings alone.
abbrev pub program_env : (program : List Binding) → (j : ℕ) → Run Value → Env
program_env program j inputs = with_bindings (take j program) (outermost inputs)
