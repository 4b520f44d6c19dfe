-- Equations of values, and of runs, have one proof.
use Rattle.std.proofs.Common.{Bool, true, false, refl}
use Rattle.std.proofs.Props.{props}
use Rattle.std.proofs.lemmas.Bool.{false≢true}
use Rattle.std.specs.Bool.{Decides}
use Rattle.std.specs.Ordering.{is_eq}
use mathlib.Core.HLevel.{hedberg}
use Rattle.jv_data.proofs.shared.Order.{same_Decides}
use Rattle.jv_data.specs.Value.{Value, compare}
use Rattle.jq_meaning.specs.Runs.{Item, Run}

decided : {P : Type 0} (b : Bool) → Decides b P → Dec P
decided true d = yes (d.0 refl)
decided false d = no (λ p. false≢true (d.1 p))

pub value_set : IsSet Value
value_set = hedberg (λ v w. decided (is_eq (compare v w)) (same_Decides v w))

pub run_set : IsSet (Run Item)
run_set = hlevel (props, value_set)
