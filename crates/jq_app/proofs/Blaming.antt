-- The faults of the command's parts, and the failures of their devices.
use Rattle.std.proofs.Common.{◌≡◌, ◌≢◌, ◌≤◌, ◌<◌, ℕ, List, Option, inl, inr, refl, sym, subst, arith, Result, IfErr}
use Rattle.jv_data.proofs.shared.Results.{if_err_both, if_err_map}
use Rattle.jq_devices.proofs.shared.Failures.{failed_after, failed_more}
use Rattle.jq_devices.specs.Watched.{HasFailed}
use Rattle.jq_devices.specs.declared.faults.StreamFault.{StreamFault}
use Rattle.jq_devices.specs.declared.faults.StreamFault.TheVariants.{Read, Write, NoMemory}
use Rattle.jq_stream.specs.Failures.{AnOutputHasFailed}
use Rattle.jq_app.specs.Blaming.{Failures, IsBlamed, IsWritten, IsWrittenUnlessFailed}

-- ---- one device

-- it failed, and its failures are counted
some_failed : (a b count : ℕ) → count ≡ b → HasFailed a b → 0 < count
some_failed a b count same failed = elim failed [
  | inl rose ↦ omega (arith, same, rose)
  | inr most ↦ omega (arith, same, most)
]

-- ---- faults

abbrev pub counts : (files input output errors : ℕ) → Failures
counts files input output errors = record { files = files; input = input; outputs = record { output = output; errors = errors } }

-- a fault of a run over the standard input
by_input : (f : StreamFault) (a b : Failures) → (f ≡ Read → HasFailed a.input b.input) → (f ≡ Write → AnOutputHasFailed a.outputs b.outputs) → IsBlamed f a b
by_input Read a b read write = inr (read refl)
by_input Write a b read write = write refl
by_input NoMemory a b read write = tt

-- over the files
by_files : (f : StreamFault) (a b : Failures) → (f ≡ Read → HasFailed a.files b.files) → (f ≡ Write → AnOutputHasFailed a.outputs b.outputs) → IsBlamed f a b
by_files Read a b read write = inl (read refl)
by_files Write a b read write = write refl
by_files NoMemory a b read write = tt

-- of the reading of the files
pub read_by_files : (f : StreamFault) (a b : Failures) → f ≢ Write → (f ≡ Read → HasFailed a.files b.files) → IsBlamed f a b
read_by_files f a b other read = by_files f a b read (λ is. absurd (other is))

-- of a session's script
by_script : (f : StreamFault) (a b : Failures) → (f ≡ Read → HasFailed a.input b.input) → (f ≡ Write → HasFailed a.outputs.output b.outputs.output) → IsBlamed f a b
by_script f a b read write = by_input f a b read (λ is. inl (write is))

-- the report of a fault comes after it
pub later : (f : StreamFault) (files input output errors : ℕ) (a : Failures) (last : ℕ) → IsBlamed f a (counts files input output errors) → errors ≤ last → IsBlamed f a (counts files input output last)
later Read files input output errors a last blamed kept = blamed
later Write files input output errors a last blamed kept = elim blamed [
  | inl out ↦ inl out
  | inr err ↦ inr (failed_more a.outputs.errors errors last err kept)
]
later NoMemory files input output errors a last blamed kept = tt

-- ---- results

pub blamed_by_input : {A : Type 0} (r : Result A StreamFault) (a b : Failures) → IfErr r (λ f. f ≡ Read → HasFailed a.input b.input)
    → IfErr r (λ f. f ≡ Write → AnOutputHasFailed a.outputs b.outputs) → IfErr r (λ f. IsBlamed f a b)
blamed_by_input r a b read write = if_err_both r read write (λ f read write. by_input f a b read write)

pub blamed_by_files : {A : Type 0} (r : Result A StreamFault) (a b : Failures) → IfErr r (λ f. f ≡ Read → HasFailed a.files b.files)
    → IfErr r (λ f. f ≡ Write → AnOutputHasFailed a.outputs b.outputs) → IfErr r (λ f. IsBlamed f a b)
blamed_by_files r a b read write = if_err_both r read write (λ f read write. by_files f a b read write)

-- of a call that only writes to standard error
pub blamed_by_report : {A : Type 0} (r : Result A StreamFault) (a b : Failures) → IfErr r (λ f. f ≢ Read) → IfErr r (λ f. f ≡ Write → HasFailed a.outputs.errors b.outputs.errors)
    → IfErr r (λ f. IsBlamed f a b)
blamed_by_report r a b other failed = if_err_both r other failed (λ f other failed. by_input f a b (λ is. absurd (other is)) (λ is. inr (failed is)))

-- to standard output
pub blamed_by_print : {A : Type 0} (r : Result A StreamFault) (a b : Failures) → IfErr r (λ f. f ≢ Read) → IfErr r (λ f. f ≡ Write → HasFailed a.outputs.output b.outputs.output)
    → IfErr r (λ f. IsBlamed f a b)
blamed_by_print r a b other failed = if_err_both r other failed (λ f other failed. by_input f a b (λ is. absurd (other is)) (λ is. inl (failed is)))

-- a count that began at zero
pub failed_from : {A : Type 0} (r : Result A StreamFault) (first old new : ℕ) → old ≡ first → IfErr r (λ f. f ≡ Read → HasFailed old new) → IfErr r (λ f. f ≡ Read → HasFailed first new)
failed_from r first old new same failed = if_err_map r failed (λ f failed is. failed_after first old new same (failed is))

pub blamed_from : {A : Type 0} (r : Result A StreamFault) (first old input output errors : ℕ) (b : Failures) → old ≡ first → IfErr r (λ f. IsBlamed f (counts old input output errors) b)
    → IfErr r (λ f. IsBlamed f (counts first input output errors) b)
blamed_from r first old input output errors b same blamed = subst (λ n. IfErr r (λ f. IsBlamed f (counts n input output errors) b)) same blamed

-- ---- whatever the count of the files is

pub any_by_report : {A : Type 0} (r : Result A StreamFault) (input output errors errors_new : ℕ) → IfErr r (λ f. f ≢ Read) → IfErr r (λ f. f ≡ Write → HasFailed errors errors_new)
    → IfErr r (λ f. (files : ℕ) → IsBlamed f (counts files input output errors) (counts files input output errors_new))
any_by_report r input output errors errors_new other failed =
    if_err_both r other failed (λ f other failed files. by_input f (counts files input output errors) (counts files input output errors_new) (λ is. absurd (other is)) (λ is. inr (failed is)))

pub any_by_script : {A : Type 0} (r : Result A StreamFault) (input output errors input_new output_new : ℕ) → IfErr r (λ f. f ≡ Read → HasFailed input input_new) → IfErr r (λ f. f ≡ Write → HasFailed output output_new)
    → IfErr r (λ f. (files : ℕ) → IsBlamed f (counts files input output errors) (counts files input_new output_new errors))
any_by_script r input output errors input_new output_new read write =
    if_err_both r read write (λ f read write files. by_script f (counts files input output errors) (counts files input_new output_new errors) read write)

-- nothing failed in the files
pub same_files : {A : Type 0} (r : Result A StreamFault) (old new input output errors input_new output_new errors_new : ℕ) → new ≡ old
    → IfErr r (λ f. (files : ℕ) → IsBlamed f (counts files input output errors) (counts files input_new output_new errors_new))
    → IfErr r (λ f. IsBlamed f (counts old input output errors) (counts new input_new output_new errors_new))
same_files r old new input output errors input_new output_new errors_new same blamed =
    if_err_map r blamed (λ f blamed. subst (λ n. IsBlamed f (counts old input output errors) (counts n input_new output_new errors_new)) (sym same) (blamed old))

-- ---- lines

pub written_unless_failed : (bytes : List ℕ) (a b : ℕ) (old new : Option (List ℕ)) → IsWritten bytes a b old new → IsWrittenUnlessFailed bytes b old new
written_unless_failed bytes a b old new line = elim line [
  | inl whole ↦ inl whole
  | inr part ↦ inr (part.0, some_failed a b b refl part.1)
]
