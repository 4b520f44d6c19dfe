-- The state of a cutter, and the results of its calls.
use Rattle.std.specs.Prelude.{◌≡◌, ◌⊎◌, ℕ, ◌+◌, List, [], ◌∷◌, ◌++◌, length, Bool, Option, Some, None, Result, Ok, Err}
use Rattle.jv_cut.specs.Rest.{Rest}
use Rattle.jv_data.specs.Value.{Value}
use Rattle.jv_data.specs.View.{view}
use Rattle.jv_data.specs.declared.values.Val.{Val}
use Rattle.jv_text.specs.Stream.{clean, open_text, fault, stream, Stands}
use Rattle.jv_text.specs.declared.faults.Fault.{Fault}
use Rattle.jv_text.specs.declared.faults.Fault.TheVariants.{Malformed, Unfinished, NotWhole, TooDeep, TooLong, NoMemory}
use Rattle.jv_text.specs.declared.cutting.Cutter.{Cutter}

-- the bytes that were fed and whose values were not yet returned
abbrev pub rest_of : Cutter → Rest
rest_of c = c.splitter

-- the fault that was found, if any
abbrev pub fault_of : Cutter → Option Fault
fault_of c = c.fault

-- no more bytes follow
abbrev pub is_finished : Cutter → Bool
is_finished c = c.splitter.ended

-- how many bytes of the stream were fed
abbrev pub fed_count : Cutter → ℕ
fed_count c = c.splitter.place + length c.splitter.unread

-- The cutter was fed these bytes, and has returned these values.
abbrev pub HasGiven : Cutter → List Value → List ℕ → Type 0
HasGiven c given fed = Stands c.fault c.splitter given fed

-- these are all values of the bytes that were fed, and there is no fault so far
abbrev pub AllGiven : Bool → List Value → List ℕ → Type 0
AllGiven ended given fed = (stream ended fed ≡ record { values = given; end = clean }) ⊎ (stream ended fed ≡ record { values = given; end = open_text })

-- these are all values of the bytes that were fed, then comes the fault, and the cutter keeps it
abbrev pub IsMet : Fault → Option Fault → Bool → List Value → List ℕ → Type 0
IsMet f met ended given fed = (stream ended fed ≡ record { values = given; end = fault f }) × (met ≡ Some f)

abbrev pub EndsIn : Fault → Option Fault → Bool → List Value → List ℕ → Type 0
EndsIn (Malformed at) met ended given fed = IsMet (Malformed at) met ended given fed
EndsIn (Unfinished at) met ended given fed = IsMet (Unfinished at) met ended given fed
EndsIn (NotWhole at) met ended given fed = IsMet (NotWhole at) met ended given fed
EndsIn (TooDeep at) met ended given fed = IsMet (TooDeep at) met ended given fed
EndsIn (TooLong at) met ended given fed = IsMet (TooLong at) met ended given fed
EndsIn NoMemory met ended given fed = Unit {0}

-- the call returned the next value of the stream, or none, or its fault
abbrev pub GivesNext : Result (Option Val) Fault → Cutter → List Value → List ℕ → Type 0
GivesNext (Ok (Some v)) c given fed = HasGiven c (given ++ view v ∷ []) fed
GivesNext (Ok None) c given fed = HasGiven c given fed × AllGiven c.splitter.ended given fed
GivesNext (Err f) c given fed = HasGiven c given fed × EndsIn f c.fault c.splitter.ended given fed
