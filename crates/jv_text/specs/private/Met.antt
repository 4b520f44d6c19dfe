-- Which fault a cutter keeps.
use Rattle.std.specs.Prelude.{Option, Some, None}
use Rattle.jv_text.specs.declared.faults.Fault.{Fault}
use Rattle.jv_text.specs.declared.faults.Fault.TheVariants.{Malformed, Unfinished, NotWhole, TooDeep, TooLong, NoMemory}

-- the fault that the cutter keeps: out of memory is not kept
abbrev pub met_by : Fault → Option Fault
met_by (Malformed at) = Some (Malformed at)
met_by (Unfinished at) = Some (Unfinished at)
met_by (NotWhole at) = Some (NotWhole at)
met_by (TooDeep at) = Some (TooDeep at)
met_by (TooLong at) = Some (TooLong at)
met_by NoMemory = None
