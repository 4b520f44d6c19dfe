-- All texts of an input.
use Rattle.std.proofs.Common.{◌≡◌, ◌≢◌, ℕ, true, false, List, ◌++◌, Option, Some, Result, Ok, Err, IsErrAnd, sym, subst, refl}
use Rattle.std.specs.Io.KnownBytes.{Consumes, Keeps, IsAtEnd}
use Rattle.std.proofs.KnownBytes.{Consumes-kept}
use Rattle.jv_data.specs.Value.{Value}
use Rattle.jv_text.specs.Cutting.{HasGiven, AllGiven, fault_of, is_finished}
use Rattle.jv_text.specs.declared.cutting.Cutter.{Cutter}
use Rattle.jv_text.specs.declared.faults.Fault.{Fault}
use Rattle.jq_devices.specs.declared.faults.StreamFault.{StreamFault}
use Rattle.jq_devices.specs.declared.faults.StreamFault.TheVariants.{Read, Write, NoMemory}
use Rattle.jq_stream.specs.private.Gathering.{IsGathered}
use Rattle.jq_stream.proofs.Known.{known, consumed_whole, faulted_input, part_read, part_values}

-- the next piece could not be read or fed
pub gather_stopped : (f : StreamFault) (values : List Value) (fed : List ℕ) (ro rm rn : Option (List ℕ)) → Consumes ro rm fed → AllGiven false values fed → (f ≡ Read → Keeps rm rn) → f ≢ Write
    → IsGathered (Err f) values ro rn
gather_stopped Read values fed ro rm rn consumed all kept unwritten = (fed, part_read values fed ro rn (Consumes-kept ro rm rn fed consumed (kept refl)) all, part_values values fed all)
gather_stopped Write values fed ro rm rn consumed all kept unwritten = unwritten refl
gather_stopped NoMemory values fed ro rm rn consumed all kept unwritten = tt

pub gathered_on : (r : Result (Option Fault) StreamFault) (f : StreamFault) (values : List Value) (ro rn : Option (List ℕ)) → IsErrAnd r (λ x. x ≡ f) → IsGathered (Err f) values ro rn
    → IsGathered r values ro rn
gathered_on (Ok stop) f values ro rn is g = absurd is
gathered_on (Err x) f values ro rn is g = subst (λ e. IsGathered (Err e) values ro rn) (sym is) g

-- a text's fault was met
pub gather_faulted : (f : Fault) (cutter : Cutter) (values : List Value) (fed : List ℕ) (ro rn rm : Option (List ℕ)) → Consumes ro rn fed → HasGiven cutter values fed → fault_of cutter ≡ Some f
    → (is_finished cutter ≡ true → IsAtEnd rn) → IsGathered (Ok (Some f)) values ro rm
gather_faulted f cutter values fed ro rn rm consumed has met end = (fed ++ known rn, consumed_whole ro rn fed consumed, faulted_input cutter values fed rn f has end met)
