use Rattle.std.proofs.Common.{subst}
use Rattle.jv_data.proofs.shared.Results.{if_ok_map}
use Rattle.jq_fold_steps.specs.private.Collecting.{IsHeld}
use Rattle.jq_fold_steps.proofs.collecting.end_step.Goals as goal

pub returns-in-Some : goal.returns-in-Some
returns-in-Some c = if_ok_map c.end_with.result c.end_with.ensures (λ r k s done xs leads p h w. k s done xs leads p (subst (λ o. IsHeld o done xs) c.in-Some.is h) w)
