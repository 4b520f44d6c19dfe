-- What is known of the run of a filter that has at most one output.
use Rattle.std.specs.Prelude.{◌≡◌, ℕ, Result, Ok, Err}
use Rattle.jv_data.specs.Value.{Value}
use Rattle.jv_data.specs.View.{view}
use Rattle.jq_tree.specs.Tree.{Tree}
use Rattle.jq_meaning.specs.Meaning.{meaning}
use Rattle.jq_meaning.specs.Runs.{Item, plain, Run, none, one, fail}
use Rattle.jq_state.specs.Environments.{envs_of}
use Rattle.jq_state.specs.Nodes.{env_at}
use Rattle.jq_state.specs.declared.environments.Nodes.{Nodes}
use Rattle.jq_single.specs.declared.stops.Stop.{Stop}
use Rattle.jq_single.specs.declared.stops.Stop.TheVariants as stop

-- A run without output. If memory ran out, or the form is not run at once, nothing is claimed.
abbrev pub Ends : {A : Type 0} → Stop → Run A → Type 0
Ends stop.Nothing r = r ≡ none
Ends (stop.Raised v) r = r ≡ fail (view v)
Ends stop.NoMemory r = Unit {0}
Ends stop.Unknown r = Unit {0}

-- The run that a found value stands for, or a run without output.
abbrev pub Comes : {V B : Type 0} → (V → Run B) → Result V Stop → Run B → Type 0
Comes to (Ok v) r = r ≡ to v
Comes to (Err s) r = Ends s r

-- A run with one output, which replaces the value, or without output.
abbrev pub Changed : {A : Type 0} → Result A Stop → (later : Value) → Run Item → Type 0
Changed a w r = Comes (λ done. one (plain w)) a r

-- The run of a tree on a value, in the environment at an index, at a call depth, for every label level.
abbrev pub Changes : {A : Type 0} → Nodes → (env depth : ℕ) → Tree → (before later : Value) → Result A Stop → Type 0
Changes ns env depth t v w result =
    (inputs : Run Value) (level : ℕ) → Changed result w (meaning depth t (env_at (envs_of inputs ns) env) level (plain v))

-- If the filter has a form that is not run at once, the value is unchanged.
abbrev pub Leaves : Stop → (before later : Value) → Type 0
Leaves stop.Nothing v w = Unit {0}
Leaves (stop.Raised e) v w = Unit {0}
Leaves stop.NoMemory v w = Unit {0}
Leaves stop.Unknown v w = w ≡ v

abbrev pub Keeps : {A : Type 0} → Result A Stop → (before later : Value) → Type 0
Keeps (Ok done) v w = Unit {0}
Keeps (Err s) v w = Leaves s v w
