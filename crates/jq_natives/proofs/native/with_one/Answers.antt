use Rattle.std.proofs.Common.{[], ◌∷◌, sym, subst}
use Rattle.jv_data.specs.Fails.{FailsAs}
use Rattle.jv_data.specs.View.{view}
use Rattle.jq_natives.specs.Natives.{answer_of_native}
use Rattle.jq_natives.proofs.native.with_one.Goals as goal

pub returns-in-Error : goal.returns-in-Error
returns-in-Error c =
    let v = view c.args.value.now in
    let a = view c.args.argument.now in
    subst (λ f. FailsAs c.raise_value.result (answer_of_native f v (a ∷ []))) (sym c.in-Error.is) (c.raise_value.ensures v)
