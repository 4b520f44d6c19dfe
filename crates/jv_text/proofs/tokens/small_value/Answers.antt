use Rattle.std.proofs.Common.{◌∙◌, ap, rules, w64, SFits}
use Rattle.std.proofs.lemmas.Int.{to_z-of_z}
use Rattle.jv_data.proofs.shared.Levels.{view-Num}
use Rattle.jv_data.specs.View.{view}
use Rattle.jv_data.specs.declared.values.Val.TheVariants.{Num}
use Rattle.jv_text.proofs.SmallTexts.{small_number}
use Rattle.jv_text.proofs.tokens.small_value.Goals as goal

pub returns-in-Some : goal.returns-in-Some
returns-in-Some c =
    let n = c.in-Some.n in
    let fits : SFits w64 n = search rules in
    small_number c.args.text.now _ n c.in-Some.ensures (ap (λ z. view (Num z)) (to_z-of_z w64 n fits) ∙ view-Num n)
