-- The start of a filter with the plan of a fold has at most one output.
use Rattle.std.proofs.Common.{◌≡◌, true}
use Rattle.jq_tree.specs.Tree.{Tree}
use Rattle.jq_tree.specs.Names.{Scope}
use Rattle.jq_tree.specs.Inputs.{by_reduce, by_foreach, FoldShape, fold_alone, fold_piped, fold_after}
use Rattle.jq_meaning.specs.Env.{Env, bound, function}
use Rattle.jq_folds.specs.Folding.{fold_in}
use Rattle.jq_fold_steps.specs.Folded.{starts_once}

pub starts-once : {s : Scope} {t : Tree} → FoldShape s t → (e : Env) → starts_once (fold_in t e) ≡ true
starts-once (fold_alone (by_reduce outer one)) e = one.0
starts-once (fold_alone (by_foreach outer one)) e = one.0
starts-once (fold_piped (by_reduce outer one)) e = one.0
starts-once (fold_piped (by_foreach outer one)) e = one.0
starts-once (fold_after {n = n} {ps = ps} {f = f} q) e = starts-once q (bound (function n ps f) e)
