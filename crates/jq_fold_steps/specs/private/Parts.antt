-- The fold that parts of a tree are.
use Rattle.std.specs.Prelude.{List, ◌∷◌, Option, Some, None}
use Rattle.jq_ast.specs.Named.{named, named_as_pattern}
use Rattle.jq_ast.specs.declared.tree.Pattern.{Pattern}
use Rattle.jq_tree.specs.Tree as tree
use Rattle.jq_meaning.specs.Env.{Env}
use Rattle.jq_meaning.specs.machine.State.{Frame, Scope, fold_step, pipe_into, source}
use Rattle.jq_state.specs.Nodes.{env_at}
use Rattle.jq_state.specs.Steps.{fold_of}
use Rattle.jq_state.specs.declared.steps.Fold as steps
use Rattle.jq_folds.specs.Folding.{Fold, FoldAt, fold_at}
use Rattle.jq_folds.specs.laws.Machine.{closing_frames, stepping}
use Rattle.jq_fold_steps.specs.declared.placing.Extraction.{Extraction}
use Rattle.jq_fold_steps.specs.declared.placing.Extraction.TheVariants as extraction
use Rattle.jq_fold_steps.specs.declared.placing.Closing.{Closing}
use Rattle.jq_fold_steps.specs.declared.placing.Closing.TheVariants as closing
use Rattle.jq_fold_steps.specs.declared.placing.Parts.{Parts}
use Rattle.jq_fold_steps.specs.declared.placing.Place.{Place}

abbrev pub extract_of : Extraction → Option tree.Tree
extract_of extraction.Nothing = None
extract_of (extraction.Each t) = Some (named t.now)

abbrev pub closing_of : Closing → Option tree.Tree
closing_of closing.Nothing = None
closing_of (closing.Pipe t) = Some (named t.now)

abbrev pub parts_in : Parts → Fold
parts_in p =
    record { pattern = named_as_pattern p.pattern.now; start = named p.start.now; update = named p.update.now; extract = extract_of p.extraction; closing = closing_of p.closing }

abbrev pub place_in : List Env → Place → FoldAt
place_in envs p = fold_at (parts_in p.parts) (env_at envs p.env)

-- the frames with that of the filter after a `foreach`
abbrev pub with_closing : Closing → Scope → List Frame → List Frame
with_closing closing.Nothing p k = k
with_closing (closing.Pipe t) p k = pipe_into (named t.now) p ∷ k

-- the frame of a fold whose inputs come from the source
abbrev pub source_frame : Pattern → steps.Fold → Scope → Frame
source_frame pattern fold p = source (named_as_pattern pattern) (fold_step 0 (fold_of fold)) p

-- the frames with which a fold takes an input
abbrev pub taking_frames : Fold → Scope → List Frame
taking_frames f p = source f.pattern (fold_step 0 (stepping f.update f.extract)) p ∷ closing_frames f.extract f.closing p
