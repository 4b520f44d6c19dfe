-- The texts of a whole input.
use Rattle.std.specs.Prelude.{◌≡◌, ◌⊎◌, List, Option, Some, None}
use Rattle.jv_data.specs.Value.{Value}
use Rattle.jv_text.specs.Stream.{Values, clean, open_text, fault}
use Rattle.jv_text.specs.declared.faults.Fault.{Fault}

-- these values, and then the fault, if there is one
abbrev pub EndsAs : Values → List Value → Option Fault → Type 0
EndsAs found values (Some f) = found ≡ record { values = values; end = fault f }
EndsAs found values None = (found ≡ record { values = values; end = clean }) ⊎ (found ≡ record { values = values; end = open_text })
