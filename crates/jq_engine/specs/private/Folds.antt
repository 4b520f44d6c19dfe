-- What a fold does with an output of its source.
use Rattle.jv_data.specs.Text.{text_of}
use Rattle.jv_data.specs.Value.{Value}
use Rattle.jq_tree.specs.Tree.{whole}
use Rattle.jq_meaning.specs.machine.State.{Scope, Frame, source, fold_step}
use Rattle.jq_meaning.specs.Runs.{Run}
use Rattle.jq_state.specs.Links.{scope_in}
use Rattle.jq_state.specs.Steps.{fold_of}
use Rattle.jq_state.specs.Views.{envs_in}
use Rattle.jq_state.specs.declared.frames.Scope as code
use Rattle.jq_state.specs.declared.states.State.{State}
use Rattle.jq_engine.specs.declared.folds.FoldStep.{FoldStep}

-- The frame that waits for the outputs of the source.
abbrev pub source_of : FoldStep → Scope → Frame
source_of f p = source (whole (text_of f.name.now)) (fold_step f.height (fold_of f.fold)) p

-- The same in a scope of a state.
abbrev pub source_in : Run Value → State → FoldStep → code.Scope → Frame
source_in inputs s f p = source_of f (scope_in (envs_in inputs s) p)
