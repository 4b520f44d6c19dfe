-- The texts of a session's files.
use Rattle.std.specs.Prelude.{List, ℕ, Option, true}
use Rattle.jv_data.specs.Value.{Value}
use Rattle.jv_text.specs.Stream.{stream}
use Rattle.jv_text.specs.declared.faults.Fault.{Fault}
use Rattle.jq_devices.specs.Reading.{IsWhole}
use Rattle.jq_stream.specs.Texts.{EndsAs}

-- the files have these values, and then the fault, if there is one
abbrev pub HaveTexts : (files : Option (List ℕ)) → List Value → Option Fault → Type 0
HaveTexts files values fault = (bytes : List ℕ) × IsWhole bytes files × EndsAs (stream true bytes) values fault
