use Rattle.std.proofs.Common.{refl}
use Rattle.jq_natives.proofs.CodePoints.{code_points-counts}
use Rattle.jq_natives.proofs.laws.implode_undoes_explode.Goals as goal

pub returns : goal.returns
returns c = record { explode = λ s. refl; implode = λ s h. rw (code_points-counts s h) refl }
