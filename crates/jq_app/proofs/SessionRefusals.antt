-- The refusal of a filter in place of a session.
use Rattle.std.proofs.Common.{◌≡◌, inl, inr, Bool, ℕ, List, Option, Result, Ok, Err, IfOk, IfErr, refl}
use Rattle.jq_devices.specs.declared.faults.StreamFault.{StreamFault}
use Rattle.jq_devices.specs.declared.faults.StreamFault.TheVariants as fault
use Rattle.jq_run.proofs.shared.FilterRefusals.{answer_is_no_fault, filter_refusal, memory_is_no_write, refused_in, write_is_no_memory, write_is_no_read}
use Rattle.jq_run.specs.Filters.{IsAnswered, IsWritingStopped}
use Rattle.jq_syntax.specs.Chosen.{Chosen, setting}
use Rattle.jq_syntax.specs.Compiled.{IsRefusal}
use Rattle.jq_syntax.specs.declared.faults.CompileFault.{CompileFault}
use Rattle.jq_syntax.specs.declared.faults.CompileFault.TheVariants.{NoMemory}
use Rattle.jq_app.specs.Sessions.{IsSessionDone, IsSessionStopped, IsUnstarted}
use Rattle.jq_app.specs.Stages.{Stage}

pub session_refused : (r : Result ℕ StreamFault) (files : Option (List ℕ)) (follow : Bool) (o : Chosen) (text : List ℕ) (f : CompileFault) (old new : Stage) → IsUnstarted old new → IsRefusal text (setting o) f
    → (f ≡ NoMemory → r ≡ Err fault.NoMemory) → IfOk r (λ answer. IsAnswered (filter_refusal f) old.streams.outputs new.streams.outputs answer) → IfOk r (λ answer. IsSessionDone files follow o text old new answer)
session_refused (Ok answer) files follow o text f old new unread is memory h =
    inr (unread, filter_refusal f, inl (refused_in (Ok answer) o text f is memory (answer_is_no_fault answer fault.NoMemory (Ok answer) refl)), h)
session_refused (Err x) files follow o text f old new unread is memory h = tt

pub session_refusal_stopped : (r : Result ℕ StreamFault) (files : Option (List ℕ)) (follow : Bool) (o : Chosen) (text : List ℕ) (f : CompileFault) (old new : Stage) → IsUnstarted old new
    → IsRefusal text (setting o) f → (f ≡ NoMemory → r ≡ Err fault.NoMemory) → IfErr r (λ x. IsWritingStopped x (filter_refusal f) old.streams new.streams) → IfErr r (λ x. IsSessionStopped x files follow o text old new)
session_refusal_stopped (Ok answer) files follow o text f old new unread is memory h = tt
session_refusal_stopped (Err x) files follow o text f old new unread is memory h = elim h [
  | inl w ↦ inr (inl (unread, filter_refusal f, inl (refused_in (Err x) o text f is memory (write_is_no_memory x (Err x) refl w.1)), w.0, write_is_no_read x w.1))
  | inr n ↦ inr (inr (inl (unread, n.0.1, memory_is_no_write x n.1)))
]
