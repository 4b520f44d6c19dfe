-- Reports on one output, and their outcomes.
use Rattle.std.proofs.Common.{◌≡◌, ◌∙◌, inl, inr, ℕ, List, [], Option, Result, Ok, Err, IfOk, IfErr, IsErrAnd, refl}
use Rattle.std.specs.Io.KnownBytes.{Appends, Keeps}
use Rattle.std.proofs.KnownBytes.{Appends-kept, Appends-nil}
use Rattle.jq_devices.proofs.shared.Writing.{first_nothing, first_whole}
use Rattle.jq_devices.specs.declared.faults.StreamFault.{StreamFault}
use Rattle.jq_devices.specs.declared.faults.StreamFault.TheVariants as fault
use Rattle.jq_filters.specs.Outcomes.{Outcome}
use Rattle.jq_stream.specs.Streams.{outputs, streams}
use Rattle.jq_run.specs.Filters.{IsAnswered, IsWritingStopped}
use Rattle.jq_run.specs.Reports.{IsReport}

abbrev pub reported : List ℕ → ℕ → Outcome
reported bytes status = record { output = []; errors = bytes; status = status }

-- the report of these bytes is an outcome with no output
pub report_answered : (r : Result ℕ StreamFault) (bytes : List ℕ) (status : ℕ) (output old new : Option (List ℕ)) → IsReport r bytes status old new
    → IfOk r (λ answer. IsAnswered (reported bytes status) (outputs output old) (outputs output new) answer)
report_answered (Ok answer) bytes status output old new h = (record { output = Appends-nil output; errors = h.0 }, h.1)
report_answered (Err f) bytes status output old new h = tt

-- after a fault the first bytes of it were written, or nothing
pub report_stopped : (r : Result ℕ StreamFault) (bytes : List ℕ) (status : ℕ) (remaining output old new : Option (List ℕ)) → IsReport r bytes status old new
    → IfErr r (λ f. IsWritingStopped f (reported bytes status) (streams remaining output old) (streams remaining output new))
report_stopped (Ok answer) bytes status remaining output old new h = tt
report_stopped (Err f) bytes status remaining output old new h = elim h [
  | inl is ↦ inl (record { output = first_nothing output []; errors = is.1 }, is.0)
  | inr is ↦ inr ((refl, (Appends-nil output, is.1)), is.0)
]

-- ---- the same on standard output

abbrev pub printed : List ℕ → ℕ → Outcome
printed bytes status = record { output = bytes; errors = []; status = status }

pub print_answered : (r : Result ℕ StreamFault) (bytes : List ℕ) (status : ℕ) (old new errors : Option (List ℕ)) → IsReport r bytes status old new
    → IfOk r (λ answer. IsAnswered (printed bytes status) (outputs old errors) (outputs new errors) answer)
print_answered (Ok answer) bytes status old new errors h = (record { output = h.0; errors = Appends-nil errors }, h.1)
print_answered (Err f) bytes status old new errors h = tt

pub print_stopped : (r : Result ℕ StreamFault) (bytes : List ℕ) (status : ℕ) (remaining old new errors : Option (List ℕ)) → IsReport r bytes status old new
    → IfErr r (λ f. IsWritingStopped f (printed bytes status) (streams remaining old errors) (streams remaining new errors))
print_stopped (Ok answer) bytes status remaining old new errors h = tt
print_stopped (Err f) bytes status remaining old new errors h = elim h [
  | inl is ↦ inl (record { output = is.1; errors = first_nothing errors [] }, is.0)
  | inr is ↦ inr ((refl, (is.1, Appends-nil errors)), is.0)
]

-- ---- a note after the report

-- the note could not be written
pub note_stopped : (r : Result ℕ StreamFault) (f : StreamFault) (bytes : List ℕ) (status : ℕ) (old mid new : Option (List ℕ)) → IsErrAnd r (λ x. x ≡ f) → f ≡ fault.Write
    → Appends old mid bytes → Keeps mid new → IsReport r bytes status old new
note_stopped (Ok answer) f bytes status old mid new is write whole kept = absurd is
note_stopped (Err x) f bytes status old mid new is write whole kept = inl (is ∙ write, first_whole old new bytes (Appends-kept old mid new bytes whole kept))
