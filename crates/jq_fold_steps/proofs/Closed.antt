-- The frame of the filter after a `foreach`.
use Rattle.std.proofs.Common.{◌≡◌, [], Some, refl}
use Rattle.jq_tree.specs.Tree as tree
use Rattle.jq_meaning.specs.machine.State.{Scope}
use Rattle.jq_folds.specs.laws.Machine.{closing_frames}
use Rattle.jq_fold_steps.specs.private.Parts.{closing_of, with_closing}
use Rattle.jq_fold_steps.specs.declared.placing.Closing.{Closing}
use Rattle.jq_fold_steps.specs.declared.placing.Closing.TheVariants as closing

pub closing-frames : (o : Closing) (t : tree.Tree) (p : Scope) → with_closing o p [] ≡ closing_frames (Some t) (closing_of o) p
closing-frames closing.Nothing t p = refl
closing-frames (closing.Pipe g) t p = refl
