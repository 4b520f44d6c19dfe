-- A single run: on null, and on the array of all inputs.
use Rattle.std.proofs.Common.{◌≡◌, inl, inr, ℕ, false, true, List, [], ◌∷◌, ◌++◌, length, Option, Some, None, Result, Ok, Err, IfOk, OnOk, OnErr, sym, ap, ◌∙◌, refl, subst, append-nil}
use Rattle.std.specs.Io.KnownBytes.{Appends}
use Rattle.std.specs.Prelude.{unwrap_or}
use Rattle.std.proofs.KnownBytes.{Appends-nil}
use Rattle.jv_data.specs.Value.{Value, null, array, items_of}
use Rattle.jv_text.specs.Stream.{Values, stream}
use Rattle.jv_text.specs.declared.faults.Fault.{Fault}
use Rattle.jv_text.specs.declared.printing.Style.{Style}
use Rattle.jq_meaning.specs.Runs.{Run, Item, none}
use Rattle.jq_engine.specs.Engine.{IsRest}
use Rattle.jq_engine.specs.declared.engines.Engine.{Engine}
use Rattle.jq_devices.proofs.shared.Writing.{first_longer, first_nothing}
use Rattle.jq_devices.specs.Writing.{AppendsFirst}
use Rattle.jq_devices.specs.declared.faults.StreamFault.{StreamFault}
use Rattle.jq_devices.specs.declared.faults.StreamFault.TheVariants.{Read}
use Rattle.jq_filters.specs.Outcomes.{Outcome, Mode, on_each, on_null, on_all, Job, runs_reported, first_halt, unless_halted, end_status, inputs_in, text_line, stream_outcome}
use Rattle.jq_filters.specs.Runner.{job_of}
use Rattle.jq_filters.specs.Running.{run_on}
use Rattle.jq_stream.specs.Streams.{Outputs, Streams, Writes, IsStreamRun, streams}
use Rattle.jq_stream.specs.Stopped.{WritesFirst, whole_texts, IsWriteStopped}
use Rattle.jq_filters.specs.Pieces.{last_of}
use Rattle.jq_stream.specs.private.Answering.{IsAnswered, IsAnsweredFirst, IsRestAnswered, IsRestAnsweredFirst, HasEmptyBuffers, IsFresh, IsWritten, IsWrittenFirst, IsEmptied}
use Rattle.jq_stream.specs.Texts.{EndsAs}
use Rattle.jq_stream.specs.private.Gathering.{IsGathered, stop_ending}
use Rattle.jq_filters.specs.Present.{present, run_count}
use Rattle.jq_stream.specs.private.Once.{IsRunOnce, run_outcome}
use Rattle.jq_stream.specs.private.Valued.{runs_by_mode}
use Rattle.jq_stream.specs.declared.answers.OutputBuffers.{OutputBuffers}
use Rattle.jq_filters.specs.declared.runner.Runner.{Runner}
use Rattle.jq_filters.specs.declared.settings.Settings.{Settings}
use Rattle.jq_stream.proofs.Answering.{buffers_written, first_buffers_written, first_of_answered, status_of_runs, whole_written}
use Rattle.jq_filters.proofs.shared.Halting.{made_outcome, nothing_more, one_made, outcome_made}
use Rattle.jq_stream.proofs.Known.{known, whole_known}

abbrev WritesTo : Outputs → Outputs → Outcome → Type 0
WritesTo o p outcome = Writes outcome o p

abbrev WritesFirstTo : Outputs → Outputs → Outcome → Type 0
WritesFirstTo o p outcome = WritesFirst outcome o p

-- ---- the run

once_made : (s : Settings) (r : Run Item) (halt : Option ℕ) → halt ≡ first_halt (r ∷ []) → run_outcome s r ≡ made_outcome s.style s.exit halt (r ∷ []) [] (λ status. status)
once_made s r halt e = outcome_made s.style s.exit (r ∷ []) [] (λ status. status) halt (r ∷ []) (one_made r) (sym e)

pub once_ran : (s : Settings) (r : Run Item) (a b c : OutputBuffers) (o p q : Outputs) (halt : Option ℕ) (status answer : ℕ) → HasEmptyBuffers a → IsFresh a → IsAnswered s.style (r ∷ []) a b o p
    → IsWritten b p q → IsEmptied b c → halt ≡ first_halt (r ∷ []) → status ≡ end_status s.exit c.failed (last_of c.last) → answer ≡ unwrap_or halt status → IsRunOnce s r answer o q
once_ran s r a b c o p q halt status answer empty fresh g flushed emptied halts is answered =
    let all = buffers_written s.style (r ∷ []) a b c o p q g flushed emptied in
    let written = whole_written s.style (r ∷ []) a c o q empty emptied.empty all in
    let made = once_made s r halt halts in
    let reports : runs_reported (r ∷ []) ++ unless_halted halt [] ≡ runs_reported (r ∷ []) = ap (λ l. runs_reported (r ∷ []) ++ l) (nothing_more halt) ∙ append-nil (runs_reported (r ∷ [])) in
    record {
      written = subst (WritesTo o q) (sym made) (record { output = written.0; errors = subst (Appends o.errors q.errors) (sym reports) written.1 });
      status = answered ∙ ap (unwrap_or halt) (status_of_runs s.exit s.style (r ∷ []) a c o q status fresh all is) ∙ ap (λ outcome. outcome.status) (sym made);
    }

pub once_stopped : (s : Settings) (r : Run Item) (a b : OutputBuffers) (o p q : Outputs) → HasEmptyBuffers a → IsAnsweredFirst s.style (r ∷ []) a b o p → IsWrittenFirst b p q
    → WritesFirst (run_outcome s r) o q
once_stopped s r a b o p q empty g flushed =
    let first = first_buffers_written s.style (r ∷ []) a b o p q empty g flushed in
    let halt = first_halt (r ∷ []) in
    subst (WritesFirstTo o q) (sym (once_made s r halt refl))
    (record { output = first.0; errors = first_longer o.errors q.errors (runs_reported (r ∷ [])) (unless_halted halt []) first.1 })

pub nothing_written : (outcome : Outcome) (o : Outputs) → WritesFirst outcome o o
nothing_written outcome o = record { output = first_nothing o.output _; errors = first_nothing o.errors _ }

-- the run was answered, or the first of its outputs
pub either_run : {A E : Type 0} (result : Result A E) (e : Engine) (style : Style) (a b : OutputBuffers) (o p : Outputs)
    → OnOk result (IsRestAnswered style e a b o p) → OnErr result (IsRestAnsweredFirst style e a b o p) → IsRestAnsweredFirst style e a b o p
either_run (Ok halt) e style a b o p ok err r is = first_of_answered style (r ∷ []) a b o p (ok r is)
either_run (Err f) e style a b o p ok err r is = err r is

-- ---- on null, without reading

pub null_unread : (s : Settings) (r : Runner) (inputs : Run Value) (mode : Mode) (old new : Streams) (answer : ℕ) → mode ≡ on_null false → inputs ≡ none
    → IsRunOnce s (run_on r inputs null) answer old.outputs new.outputs → IsStreamRun mode (job_of s r) old new answer
null_unread s r inputs mode old new answer e f ran =
    let alone : IsRunOnce s (run_on r none null) answer old.outputs new.outputs = subst (λ i. IsRunOnce s (run_on r i null) answer old.outputs new.outputs) f ran in
    subst (λ m. IsStreamRun m (job_of s r) old new answer) (sym e) (known old.remaining, whole_known old.remaining, alone.written, alone.status)

pub null_unread_stopped : (s : Settings) (r : Runner) (inputs : Run Value) (mode : Mode) (old new : Streams) → mode ≡ on_null false → inputs ≡ none
    → WritesFirst (run_outcome s (run_on r inputs null)) old.outputs new.outputs → IsWriteStopped mode (job_of s r) old new
null_unread_stopped s r inputs mode old new e f first =
    let alone : WritesFirst (run_outcome s (run_on r none null)) old.outputs new.outputs = subst (λ i. WritesFirst (run_outcome s (run_on r i null)) old.outputs new.outputs) f first in
    subst (λ m. IsWriteStopped m (job_of s r) old new) (sym e) (stream true (known old.remaining), inl (known old.remaining, whole_known old.remaining, refl), alone)

-- ---- on null, after all inputs were read

null_inputs : (found : Values) (values : List Value) (stop : Option Fault) → EndsAs found values stop → inputs_in found ≡ record { items = values; ending = stop_ending stop }
null_inputs found values (Some f) e = ap inputs_in e
null_inputs found values None e = elim e [ inl is ↦ ap inputs_in is | inr is ↦ ap inputs_in is ]

-- the first bytes of what one run on these inputs writes
abbrev NullWritesFirst : Settings → Runner → Outputs → Outputs → Run Value → Type 0
NullWritesFirst s r o p inputs = WritesFirst (run_outcome s (run_on r inputs null)) o p

pub null_stopped : (s : Settings) (r : Runner) (inputs : Run Value) (values : List Value) (stop : Option Fault) (old new : Streams) (middle : Option (List ℕ))
    → IsGathered (Ok stop) values old.remaining middle → inputs ≡ record { items = values; ending = stop_ending stop }
    → WritesFirst (run_outcome s (run_on r inputs null)) old.outputs new.outputs → IsWriteStopped (on_null true) (job_of s r) old new
null_stopped s r inputs values stop old new middle gathered e first =
    let same = e ∙ sym (null_inputs (stream true gathered.0) values stop gathered.2) in
    (stream true gathered.0, inl (gathered.0, gathered.1, refl), subst (NullWritesFirst s r old.outputs new.outputs) same first)

-- the inputs that were read before a read fault
left_inputs : (read : List ℕ) (values : List Value) (inputs : Run Value) → (stream false read).values ≡ values → inputs ≡ record { items = values; ending = stop_ending None } → inputs ≡ inputs_in (whole_texts read)
left_inputs read values inputs e f = f ∙ ap (λ vs. record { items = vs; ending = stop_ending None }) (sym e)

pub null_part_stopped : (s : Settings) (r : Runner) (inputs : Run Value) (values : List Value) (old new : Streams) → IsGathered (Err Read) values old.remaining new.remaining
    → inputs ≡ record { items = values; ending = stop_ending None } → WritesFirst (run_outcome s (run_on r inputs null)) old.outputs new.outputs → IsWriteStopped (on_null true) (job_of s r) old new
null_part_stopped s r inputs values old new gathered e first =
    (whole_texts gathered.0, inr (gathered.0, gathered.1, refl), subst (NullWritesFirst s r old.outputs new.outputs) (left_inputs gathered.0 values inputs gathered.2 e) first)

-- ---- on the array of all inputs

abbrev array_outcome : Settings → Runner → List Value → Outcome
array_outcome s r values = run_outcome s (run_on r none (array (items_of values)))

-- the outcome of this run is that of the stream, if no text is faulty
all_same : (s : Settings) (r : Runner) (found : Values) (values : List Value) → EndsAs found values None → stream_outcome on_all (job_of s r) found ≡ array_outcome s r values
all_same s r found values e = elim e [ inl is ↦ ap (stream_outcome on_all (job_of s r)) is | inr is ↦ ap (stream_outcome on_all (job_of s r)) is ]

pub all_stopped : (s : Settings) (r : Runner) (values : List Value) (old new : Streams) (middle : Option (List ℕ)) → IsGathered (Ok None) values old.remaining middle
    → WritesFirst (array_outcome s r values) old.outputs new.outputs → IsWriteStopped on_all (job_of s r) old new
all_stopped s r values old new middle gathered first =
    let same = all_same s r (stream true gathered.0) values gathered.2 in
    (stream true gathered.0, inl (gathered.0, gathered.1, refl), subst (WritesFirstTo old.outputs new.outputs) (sym same) first)

left_same : (s : Settings) (r : Runner) (read : List ℕ) (values : List Value) → (stream false read).values ≡ values → stream_outcome on_all (job_of s r) (whole_texts read) ≡ array_outcome s r values
left_same s r read values e = ap (array_outcome s r) e

pub all_part_stopped : (s : Settings) (r : Runner) (values : List Value) (old new : Streams) → IsGathered (Err Read) values old.remaining new.remaining
    → WritesFirst (array_outcome s r values) old.outputs new.outputs → IsWriteStopped on_all (job_of s r) old new
all_part_stopped s r values old new gathered first =
    (whole_texts gathered.0, inr (gathered.0, gathered.1, refl), subst (WritesFirstTo old.outputs new.outputs) (sym (left_same s r gathered.0 values gathered.2)) first)

-- ---- a faulty text, where all inputs are needed

fault_outcome : (s : Settings) (r : Runner) (found : Values) (values : List Value) (f : Fault) → EndsAs found values (Some f)
    → stream_outcome on_all (job_of s r) found ≡ record { output = []; errors = text_line f; status = 2 }
fault_outcome s r found values f e = ap (stream_outcome on_all (job_of s r)) e

pub all_faulted : (s : Settings) (r : Runner) (values : List Value) (f : Fault) (old : Streams) (errors remaining : Option (List ℕ)) (answer : ℕ) → IsGathered (Ok (Some f)) values old.remaining remaining
    → Appends old.outputs.errors errors (text_line f) → answer ≡ 2 → IsStreamRun on_all (job_of s r) old (streams remaining old.outputs.output errors) answer
all_faulted s r values f old errors remaining answer gathered reported status =
    let same = fault_outcome s r (stream true gathered.0) values f gathered.2 in
    let new : Outputs = record { output = old.outputs.output; errors = errors } in
    (gathered.0, gathered.1, subst (WritesTo old.outputs new) (sym same) (record { output = Appends-nil old.outputs.output; errors = reported }), status ∙ ap (λ o. o.status) (sym same))

pub all_fault_stopped : (s : Settings) (r : Runner) (values : List Value) (f : Fault) (old : Streams) (errors remaining : Option (List ℕ)) → IsGathered (Ok (Some f)) values old.remaining remaining
    → AppendsFirst old.outputs.errors errors (text_line f) → IsWriteStopped on_all (job_of s r) old (streams remaining old.outputs.output errors)
all_fault_stopped s r values f old errors remaining gathered first =
    let same = fault_outcome s r (stream true gathered.0) values f gathered.2 in
    let new : Outputs = record { output = old.outputs.output; errors = errors } in
    (stream true gathered.0, inl (gathered.0, gathered.1, refl), subst (WritesFirstTo old.outputs new) (sym same) (record { output = first_nothing old.outputs.output []; errors = first }))

pub all_reported : (result : Result ℕ StreamFault) (s : Settings) (r : Runner) (values : List Value) (f : Fault) (old : Streams) (errors remaining : Option (List ℕ)) → IsGathered (Ok (Some f)) values old.remaining remaining
    → IfOk result (λ status. status ≡ 2) → OnOk result (Appends old.outputs.errors errors (text_line f))
    → IfOk result (λ status. IsStreamRun on_all (job_of s r) old (streams remaining old.outputs.output errors) status)
all_reported (Ok status) s r values f old errors remaining gathered is reported = all_faulted s r values f old errors remaining status gathered reported is
all_reported (Err e) s r values f old errors remaining gathered is reported = tt

-- ---- the number of runs

pub counted_by_mode : (mode : Mode) (job : Job) (values : List Value) → run_count mode job values ≡ runs_by_mode mode job values
counted_by_mode on_each job values = refl
counted_by_mode (on_null true) job values = ap length (one_made (job.run (inputs_in (present values)) null))
counted_by_mode (on_null false) job values = ap length (one_made (job.run none null))
counted_by_mode on_all job values = ap length (one_made (job.run none (array (items_of values))))
