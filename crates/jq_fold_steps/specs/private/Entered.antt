-- The fold of a filter in a state where nothing was run yet.
use Rattle.std.specs.Prelude.{◌≡◌, ℕ, ◌<◌, []}
use Rattle.jv_data.specs.Value.{Value}
use Rattle.jq_meaning.specs.Runs.{Run, none}
use Rattle.jq_state.specs.Environments.{count_of}
use Rattle.jq_state.specs.Nodes.{env_at}
use Rattle.jq_state.specs.Views.{envs_in, frames_in, forks_in}
use Rattle.jq_folds.specs.Folding.{FoldAt, fold_at}
use Rattle.jq_fold_steps.specs.declared.entering.Entered.{Entered}
use Rattle.jq_fold_steps.specs.private.Parts.{parts_in}

abbrev pub entered_in : Entered → FoldAt
entered_in x = fold_at (parts_in x.parts) (env_at (envs_in none x.state) x.scope.env)

-- The scope is that of a fold in a state without frames and fork points.
pub record IsEntered (most : ℕ) (x : Entered) : Type 0 where
  pub depth : x.scope.depth ≡ most
  pub level : x.scope.level ≡ 0
  pub within : x.scope.env < count_of x.state.nodes
  pub frames : (inputs : Run Value) → frames_in inputs x.state ≡ []
  pub forks : (inputs : Run Value) → forks_in inputs x.state ≡ []
