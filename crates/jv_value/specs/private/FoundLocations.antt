-- The results of calls that find locations.
use Rattle.std.specs.Prelude.{◌≡◌, List, Result, Ok, MatchResult, Vec}
use Rattle.std.specs.declared.alloc.Global.{Global}
use Rattle.jv_data.specs.Fails.{FailsAs}
use Rattle.jv_data.specs.Value.{Value}
use Rattle.jv_data.specs.declared.failures.Fail.{Fail}
use Rattle.jv_value.specs.Locations.{Location}
use Rattle.jv_value.specs.private.Locations.{locations_in}
use Rattle.jv_value.specs.declared.locations.Child.{Child}

-- the result is the expected locations or error, or memory ran out
abbrev pub FindsLocations : Result (Vec (Vec Child Global) Global) Fail → Result (List Location) Value → Type 0
FindsLocations result expected = MatchResult result (λ v. expected ≡ Ok (locations_in v.items)) (λ f. FailsAs f expected)
