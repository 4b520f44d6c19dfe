-- The fold that a compiled filter is.
use Rattle.jq_ast.specs.Named.{named}
use Rattle.jq_folds.specs.Folding.{fold_in}
use Rattle.jq_folds.specs.Pieces.{FoldState}
use Rattle.jq_meaning.specs.Env.{outermost, with_variables}
use Rattle.jq_meaning.specs.Runs.{none}
use Rattle.jq_pages.specs.Folds.{Fold}
use Rattle.jq_filters.specs.declared.filters.Filter.{Filter}
use Rattle.jq_syntax.specs.Chosen.{Chosen}
use Rattle.jq_tree.specs.Prelude.{followed_by}
use Rattle.jq_tree.specs.Tree.{Tree}
use Rattle.jq_fold_steps.specs.Bindings.{env_of}
use Rattle.jq_fold_steps.specs.Folded.{fold_of}

abbrev pub filter_fold : Filter → Fold FoldState
filter_fold f = fold_of f.settings.style f.depth (fold_in (named f.tree.value) (env_of f.bindings))

-- The fold that a tree is after the prelude, under these options.
abbrev pub compiled_fold : Chosen → (prelude t : Tree) → Fold FoldState
compiled_fold o prelude t = fold_of o.style o.depth (fold_in (followed_by prelude t) (with_variables o.variables (outermost none)))
