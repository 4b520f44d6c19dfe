-- A failure stays a failure, whatever is done with an answer.
use Rattle.std.proofs.Common.{Result, refl}
use Rattle.jv_data.specs.Fails.{FailsAs}
use Rattle.jv_data.specs.Value.{Value}
use Rattle.jv_data.specs.declared.failures.Fail.{Fail}
use Rattle.jv_data.specs.declared.failures.Fail.TheVariants.{Raised, NoMemory}
use Rattle.jv_value.specs.Results.{map_ok}

pub fails_through : {A B : Type 0} (f : A → B) (e : Fail) (r : Result A Value) → FailsAs e r → FailsAs e (map_ok f r)
fails_through f (Raised v) r h = rw h refl
fails_through f NoMemory r h = tt
