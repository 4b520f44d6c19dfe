-- The faults of calls that come one after the other, and the failures of their devices.
use Rattle.std.proofs.Common.{◌≡◌, ◌≢◌, ℕ, inl, inr, sym, ap, subst, Result, Ok, Err, IfErr, OnOk}
use Rattle.jv_data.proofs.shared.Results.{if_err_map}
use Rattle.jq_devices.proofs.shared.Failures.{failed_after, failed_more}
use Rattle.jq_devices.specs.Watched.{HasFailed}
use Rattle.jq_devices.specs.declared.faults.StreamFault.{StreamFault}
use Rattle.jq_devices.specs.declared.faults.StreamFault.TheVariants.{Read, Write, NoMemory}
use Rattle.jq_stream.specs.Failures.{OutputFailures, AnOutputHasFailed}
use Rattle.jq_stream.specs.private.Blaming.{IsWriteBlamed, NoneFell}

pub write_blamed : (f : StreamFault) (a b : OutputFailures) → f ≡ Write → AnOutputHasFailed a b → IsWriteBlamed f a b
write_blamed f a b is failed = subst (λ e. IsWriteBlamed e a b) (sym is) failed

-- none failed before
pub after_none : (f : StreamFault) (a b c : OutputFailures) → b ≡ a → IsWriteBlamed f b c → IsWriteBlamed f a c
after_none f a b c same blamed = subst (λ o. IsWriteBlamed f o c) same blamed

-- none failed afterwards
pub then_none : (f : StreamFault) (a b c : OutputFailures) → IsWriteBlamed f a b → c ≡ b → IsWriteBlamed f a c
then_none f a b c blamed same = subst (λ o. IsWriteBlamed f a o) (sym same) blamed

outputs_failed_more : (a b c : OutputFailures) → AnOutputHasFailed a b → NoneFell b c → AnOutputHasFailed a c
outputs_failed_more a b c failed kept = elim failed [
  | inl output ↦ inl (failed_more a.output b.output c.output output kept.output)
  | inr errors ↦ inr (failed_more a.errors b.errors c.errors errors kept.errors)
]

-- a fault, and then a write fault
pub then_write : (f e : StreamFault) (a b c : OutputFailures) → IsWriteBlamed f a b → NoneFell b c → e ≡ Write → IsWriteBlamed e b c → IsWriteBlamed e a c
then_write Read e a b c never kept is blamed = absurd never
then_write Write e a b c failed kept is blamed = write_blamed e a c is (outputs_failed_more a b c failed kept)
then_write NoMemory e a b c same kept is blamed = after_none e a b c same blamed

-- the same for a result
pub after_result : {A : Type 0} (r : Result A StreamFault) (e : StreamFault) (a b c : OutputFailures) → OnOk r (b ≡ a) → IfErr r (λ f. IsWriteBlamed f a b) → NoneFell b c → e ≡ Write → IsWriteBlamed e b c
    → IsWriteBlamed e a c
after_result (Ok x) e a b c same blamed kept is h = after_none e a b c same h
after_result (Err f) e a b c same blamed kept is h = then_write f e a b c blamed kept is h

-- it is no read fault
pub never_read : (f : StreamFault) (a b : OutputFailures) → IsWriteBlamed f a b → f ≢ Read
never_read Read a b blamed is = absurd blamed
never_read Write a b blamed is = cc
never_read NoMemory a b blamed is = cc

-- what a fault says about both outputs, for a caller
pub write_failed : (f : StreamFault) (a b : OutputFailures) → IsWriteBlamed f a b → f ≡ Write → AnOutputHasFailed a b
write_failed Read a b blamed is = absurd blamed
write_failed Write a b blamed is = blamed
write_failed NoMemory a b blamed is = cc

-- ---- to the callers of calls that read and write

-- a report on the second output failed
pub errors_failed : (a b : OutputFailures) (errors : ℕ) → b ≡ a → HasFailed b.errors errors → AnOutputHasFailed a (record { output = b.output; errors = errors })
errors_failed a b errors same failed = inr (failed_after a.errors b.errors errors (ap (λ o. o.errors) same) failed)

-- the write fault of a report
pub report_failed : {A : Type 0} (r : Result A StreamFault) (a b : OutputFailures) (errors : ℕ) → b ≡ a → IfErr r (λ f. f ≡ Write → HasFailed b.errors errors)
    → IfErr r (λ f. f ≡ Write → AnOutputHasFailed a (record { output = b.output; errors = errors }))
report_failed r a b errors same failed = if_err_map r failed (λ f failed is. errors_failed a b errors same (failed is))
