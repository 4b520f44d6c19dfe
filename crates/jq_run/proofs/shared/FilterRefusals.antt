-- The refusal of a filter.
use Rattle.std.proofs.Common.{◌≡◌, ◌++◌, ◌⊎◌, inl, inr, ℕ, List, Result, Ok, Err, IfOk, IfErr, refl}
use Rattle.jq_devices.specs.declared.faults.StreamFault.{StreamFault}
use Rattle.jq_devices.specs.declared.faults.StreamFault.TheVariants as fault
use Rattle.jq_devices.specs.Faults.{error_start}
use Rattle.jq_filters.specs.Outcomes.{Outcome}
use Rattle.jq_stream.specs.Streams.{Streams}
use Rattle.jq_syntax.specs.Chosen.{Chosen, setting}
use Rattle.jq_syntax.specs.Compiled.{IsRefusal}
use Rattle.jq_syntax.specs.Reasons.{reason}
use Rattle.jq_syntax.specs.declared.faults.CompileFault.{CompileFault}
use Rattle.jq_syntax.specs.declared.faults.CompileFault.TheVariants.{Lex, Syntax, TooManyTokens, TooNested, Undefined, InputsPlace, InputsNeedNull, NoMemory}
use Rattle.jq_run.specs.Filters.{IsAnswered, IsFilterDone, IsFilterStopped, IsRefusedFilter, IsWritingStopped, refusal, refused}

abbrev pub filter_refusal : CompileFault → Outcome
filter_refusal f = refusal (error_start ++ reason f) 3

-- The filter is refused, unless memory ran out.
refused_or_memory : (o : Chosen) (text : List ℕ) (f : CompileFault) → IsRefusal text (setting o) f → IsRefusedFilter o text (filter_refusal f) ⊎ (f ≡ NoMemory)
refused_or_memory o text (Lex at) h = inl (refused (Lex at) h (λ e. cc))
refused_or_memory o text Syntax h = inl (refused Syntax h (λ e. cc))
refused_or_memory o text TooManyTokens h = inl (refused TooManyTokens h (λ e. cc))
refused_or_memory o text TooNested h = inl (refused TooNested h (λ e. cc))
refused_or_memory o text (Undefined name) h = inl (refused (Undefined name) h (λ e. cc))
refused_or_memory o text InputsPlace h = inl (refused InputsPlace h (λ e. cc))
refused_or_memory o text InputsNeedNull h = inl (refused InputsNeedNull h (λ e. cc))
refused_or_memory o text NoMemory h = inr refl

pub answer_is_no_fault : (answer : ℕ) (f : StreamFault) (r : Result ℕ StreamFault) → r ≡ Ok answer → r ≡ Err f → ⊥
answer_is_no_fault answer f r e h = cc

pub write_is_no_memory : (f : StreamFault) (r : Result ℕ StreamFault) → r ≡ Err f → f ≡ fault.Write → r ≡ Err fault.NoMemory → ⊥
write_is_no_memory f r e is h = cc

pub write_is_no_read : (f : StreamFault) → f ≡ fault.Write → f ≡ fault.Read → ⊥
write_is_no_read f e h = cc

pub memory_is_no_write : (f : StreamFault) → f ≡ fault.NoMemory → f ≡ fault.Write → ⊥
memory_is_no_write f e h = cc

-- memory did not run out
pub refused_in : (r : Result ℕ StreamFault) (o : Chosen) (text : List ℕ) (f : CompileFault) → IsRefusal text (setting o) f → (f ≡ NoMemory → r ≡ Err fault.NoMemory) → (r ≡ Err fault.NoMemory → ⊥)
    → IsRefusedFilter o text (filter_refusal f)
refused_in r o text f is memory other = elim (refused_or_memory o text f is) [ inl why ↦ why | inr none ↦ absurd (other (memory none)) ]

-- ---- in place of a run

pub filter_refused : (r : Result ℕ StreamFault) (o : Chosen) (text : List ℕ) (f : CompileFault) (old new : Streams) → old.remaining ≡ new.remaining → IsRefusal text (setting o) f → (f ≡ NoMemory → r ≡ Err fault.NoMemory)
    → IfOk r (λ answer. IsAnswered (filter_refusal f) old.outputs new.outputs answer) → IfOk r (λ answer. IsFilterDone o text old new answer)
filter_refused (Ok answer) o text f old new unread is memory h =
    inr (unread, filter_refusal f, refused_in (Ok answer) o text f is memory (answer_is_no_fault answer fault.NoMemory (Ok answer) refl), h)
filter_refused (Err x) o text f old new unread is memory h = tt

pub filter_refusal_stopped : (r : Result ℕ StreamFault) (o : Chosen) (text : List ℕ) (f : CompileFault) (old new : Streams) → old.remaining ≡ new.remaining → IsRefusal text (setting o) f
    → (f ≡ NoMemory → r ≡ Err fault.NoMemory) → IfErr r (λ x. IsWritingStopped x (filter_refusal f) old new) → IfErr r (λ x. IsFilterStopped x o text old new)
filter_refusal_stopped (Ok answer) o text f old new unread is memory h = tt
filter_refusal_stopped (Err x) o text f old new unread is memory h = elim h [
  | inl w ↦ inr (unread, filter_refusal f, refused_in (Err x) o text f is memory (write_is_no_memory x (Err x) refl w.1), w.0, w.1)
  | inr n ↦ inl (inr n)
]
