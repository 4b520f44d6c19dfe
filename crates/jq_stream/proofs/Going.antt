-- One run on each value of a stream.
use Rattle.std.proofs.Common.{◌≡◌, ◌≤◌, length, arith, ◌≢◌, Result, Ok, Err, IfOk, IfErr, OnOk, OnErr, inl, inr, ℕ, Bool, true, false, List, [], ◌++◌, Option, Some, None, sym, ap, ◌∙◌, refl, subst, append-nil}
use Rattle.std.specs.Io.KnownBytes.{Appends, Consumes, Keeps, IsAtEnd}
use Rattle.std.proofs.KnownBytes.{Appends-nil, Appends-trans, Consumes-nil, Consumes-trans, Consumes-kept}
use Rattle.jv_data.specs.Value.{Value}
use Rattle.jv_text.specs.Stream.{StreamEnd, Values, clean, fault, stream, left}
use Rattle.jv_text.specs.Cutting.{HasGiven, AllGiven, fault_of, rest_of, is_finished}
use Rattle.jv_text.specs.declared.faults.Fault.{Fault}
use Rattle.jv_text.specs.declared.cutting.Cutter.{Cutter}
use Rattle.jv_data.proofs.shared.Results.{if_err_both}
use Rattle.jq_devices.proofs.shared.Reading.{whole_read}
use Rattle.jq_devices.proofs.shared.Writing.{first_after, first_longer, first_nothing, first_whole}
use Rattle.jq_devices.specs.Writing.{AppendsFirst}
use Rattle.jq_devices.specs.declared.faults.StreamFault.{StreamFault}
use Rattle.jq_devices.specs.declared.faults.StreamFault.TheVariants.{Read, Write, NoMemory}
use Rattle.jq_filters.specs.Outcomes.{Outcome, Mode, on_each, Job, runs_printed, runs_reported, up_to_halt, first_halt, unless_halted, end_status, status_after, end_reported, text_line, stream_outcome}
use Rattle.jq_filters.specs.Present.{present}
use Rattle.jq_stream.specs.Streams.{Outputs, Streams, Writes, IsStreamRun, streams}
use Rattle.jq_stream.specs.Stopped.{WritesFirst, IsReadStopped, IsWriteStopped, IsStreamStopped, IsOnePass}
use Rattle.jq_filters.specs.Pieces.{last_of}
use Rattle.jq_filters.specs.private.Made.{EndsInHalt, MayBeMade}
use Rattle.jq_stream.specs.private.Answering.{IsAnswered, HasEmptyBuffers, IsFresh, runs_on}
use Rattle.jq_stream.specs.declared.answers.OutputBuffers.{OutputBuffers}
use Rattle.jq_stream.proofs.Answering.{FirstWritten, answered_none, halted_more, made_more, status_of_runs, unhalted_more, values_more, whole_written, runs_both, printed_both, reported_both}
use Rattle.jq_filters.proofs.shared.Halting.{cut_after, made_first, made_outcome, none_halts, outcome_made}
use Rattle.jq_stream.proofs.Giving.{nothing_given}
use Rattle.jq_stream.proofs.Known.{known, whole_known, consumed_whole, whole_input, faulted_input, part_read, part_values}

-- These bytes were read, their first values were given, no run on them halts, and the outputs and error lines of these runs were
-- written.
pub record Going (job : Job) (old new : Streams) (cutter : Cutter) (answers : OutputBuffers) (given : List Value) (fed : List ℕ) : Type 0 where
  pub has_given : HasGiven cutter given fed
  pub consumed : Consumes old.remaining new.remaining fed
  pub no_halt : first_halt (runs_on job given) ≡ None
  pub first : OutputBuffers
  pub first_empty : HasEmptyBuffers first
  pub fresh : IsFresh first
  pub answered : IsAnswered job.style (runs_on job given) first answers old.outputs new.outputs
  pub empty : HasEmptyBuffers answers

pub going_begun : (job : Job) (s : Streams) (cutter : Cutter) (a : OutputBuffers) → HasGiven cutter [] [] → HasEmptyBuffers a → IsFresh a → Going job s s cutter a [] []
going_begun job s cutter a has empty fresh = record {
  has_given = has;
  consumed = Consumes-nil s.remaining;
  no_halt = refl;
  first = a;
  first_empty = empty;
  fresh = fresh;
  answered = answered_none job.style a s.outputs;
  empty = empty;
}

-- a piece was read, and the values that were complete then were given and answered, without a halt
pub going_on : (job : Job) (old mid new : Streams) (cutter next : Cutter) (a b : OutputBuffers) (given values : List Value) (fed piece : List ℕ) → Going job old mid cutter a given fed
    → Consumes mid.remaining new.remaining piece → HasGiven next (given ++ values) (fed ++ piece) → first_halt (runs_on job values) ≡ None → IsAnswered job.style (runs_on job values) a b mid.outputs new.outputs → HasEmptyBuffers b
    → Going job old new next b (given ++ values) (fed ++ piece)
going_on job old mid new cutter next a b given values fed piece g consumed has no_halt answered empty = record {
  has_given = has;
  consumed = Consumes-trans old.remaining mid.remaining new.remaining fed piece g.consumed consumed;
  no_halt = unhalted_more job given values g.no_halt no_halt;
  first = g.first;
  first_empty = g.first_empty;
  fresh = g.fresh;
  answered = values_more job job.style given values g.first a b old.outputs mid.outputs new.outputs g.answered answered;
  empty = empty;
}

abbrev WritesTo : Outputs → Outputs → Outcome → Type 0
WritesTo o p outcome = Writes outcome o p

abbrev WritesFirstTo : Outputs → Outputs → Outcome → Type 0
WritesFirstTo o p outcome = WritesFirst outcome o p

-- what was written so far
going_written : (job : Job) (old new : Streams) (cutter : Cutter) (a : OutputBuffers) (given : List Value) (fed : List ℕ) → Going job old new cutter a given fed
    → Appends old.outputs.output new.outputs.output (runs_printed job.style (runs_on job given)) × Appends old.outputs.errors new.outputs.errors (runs_reported (runs_on job given))
going_written job old new cutter a given fed g = whole_written job.style (runs_on job given) g.first a old.outputs new.outputs g.first_empty g.empty g.answered

going_first : (job : Job) (old new : Streams) (cutter : Cutter) (a : OutputBuffers) (given : List Value) (fed : List ℕ) → Going job old new cutter a given fed
    → FirstWritten job.style (runs_on job given) old.outputs new.outputs
going_first job old new cutter a given fed g =
    let written = going_written job old new cutter a given fed g in
    (first_whole _ _ _ written.0, first_whole _ _ _ written.1)

-- no run halted, so these are the runs that were made
going_outcome : (job : Job) (old new : Streams) (cutter : Cutter) (a : OutputBuffers) (given : List Value) (fed : List ℕ) (end : StreamEnd) → Going job old new cutter a given fed
    → stream_outcome on_each job (record { values = given; end = end }) ≡ made_outcome job.style job.exit None (runs_on job given) (end_reported end) (status_after end)
going_outcome job old new cutter a given fed end g = outcome_made job.style job.exit (runs_on job given) (end_reported end) (status_after end) None (runs_on job given) (none_halts (runs_on job given) g.no_halt) g.no_halt

-- ---- the stream ended well

-- what was written and answered
abbrev RanAs : Outputs → Outputs → ℕ → Outcome → Type 0
RanAs o p answer outcome = Writes outcome o p × (answer ≡ outcome.status)

-- the same for what was found in the input
abbrev Ran : Job → Outputs → Outputs → ℕ → Values → Type 0
Ran job o p answer found = RanAs o p answer (stream_outcome on_each job found)

run_written : (job : Job) (old new : Streams) (cutter : Cutter) (a : OutputBuffers) (given : List Value) (fed : List ℕ) (answer : ℕ) → Going job old new cutter a given fed
    → answer ≡ end_status job.exit a.failed (last_of a.last) → Ran job old.outputs new.outputs answer (record { values = given; end = clean })
run_written job old new cutter a given fed answer g e =
    let written = going_written job old new cutter a given fed g in
    let errors = subst (Appends old.outputs.errors new.outputs.errors) (sym (append-nil (runs_reported (runs_on job given)))) written.1 in
    subst (RanAs old.outputs new.outputs answer) (sym (going_outcome job old new cutter a given fed clean g))
    (record { output = written.0; errors = errors }, status_of_runs job.exit job.style (runs_on job given) g.first a old.outputs new.outputs answer g.fresh g.answered e)

pub each_ended : (job : Job) (old new : Streams) (cutter : Cutter) (a : OutputBuffers) (given : List Value) (fed : List ℕ) (answer : ℕ) → Going job old new cutter a given fed → IsAtEnd new.remaining
    → is_finished cutter ≡ true → AllGiven (is_finished cutter) given fed → answer ≡ end_status job.exit a.failed (last_of a.last) → IsStreamRun on_each job old new answer
each_ended job old new cutter a given fed answer g end finished all e =
    let whole = whole_read old.remaining new.remaining fed g.consumed end in
    let ran = run_written job old new cutter a given fed answer g e in
    elim all [
      | inl is ↦ (let found = subst (Ran job old.outputs new.outputs answer) (sym (ap (λ b. stream b fed) (sym finished) ∙ is)) ran in (fed, whole, found.0, found.1))
      | inr is ↦ (let found = subst (Ran job old.outputs new.outputs answer) (sym (ap (λ b. stream b fed) (sym finished) ∙ is)) (record { output = ran.0.output; errors = ran.0.errors }, ran.1) in (fed, whole, found.0, found.1))
    ]

-- ---- the stream ended at a text's fault, which was reported

pub each_faulted : (job : Job) (old mid : Streams) (errors : Option (List ℕ)) (cutter : Cutter) (a : OutputBuffers) (given : List Value) (fed : List ℕ) (f : Fault) (answer : ℕ) → Going job old mid cutter a given fed
    → fault_of cutter ≡ Some f → (is_finished cutter ≡ true → IsAtEnd mid.remaining) → Appends mid.outputs.errors errors (text_line f) → answer ≡ 2
    → IsStreamRun on_each job old (streams mid.remaining mid.outputs.output errors) answer
each_faulted job old mid errors cutter a given fed f answer g met end reported status =
    let written = going_written job old mid cutter a given fed g in
    let new : Outputs = record { output = mid.outputs.output; errors = errors } in
    let ran : Ran job old.outputs new answer (record { values = given; end = fault f }) =
    subst (RanAs old.outputs new answer) (sym (going_outcome job old mid cutter a given fed (fault f) g))
    (record { output = written.0; errors = Appends-trans old.outputs.errors mid.outputs.errors errors (runs_reported (runs_on job given)) (text_line f) written.1 reported }, status) in
    let found = subst (Ran job old.outputs new answer) (sym (faulted_input cutter given fed mid.remaining f g.has_given end met)) ran in
    (fed ++ known mid.remaining, consumed_whole old.remaining mid.remaining fed g.consumed, found.0, found.1)

-- ---- a run halted

-- the values after these change nothing
halted_outcome : (job : Job) (given more : List Value) (end : StreamEnd) (status : ℕ) → EndsInHalt status (runs_on job given)
    → stream_outcome on_each job (record { values = given ++ more; end = end }) ≡ made_outcome job.style job.exit (Some status) (runs_on job given) (end_reported end) (status_after end)
halted_outcome job given more end status h =
    outcome_made job.style job.exit (runs_on job (given ++ more)) (end_reported end) (status_after end) (Some status) (runs_on job given)
    (ap up_to_halt (runs_both job given more) ∙ cut_after (runs_on job given) (runs_on job more) status h) h.halts

pub each_halted : (job : Job) (old mid new : Streams) (cutter next : Cutter) (a b : OutputBuffers) (given values : List Value) (fed piece : List ℕ) (status : ℕ) → Going job old mid cutter a given fed
    → Consumes mid.remaining new.remaining piece → HasGiven next (given ++ values) (fed ++ piece) → EndsInHalt status (runs_on job values)
    → IsAnswered job.style (runs_on job values) a b mid.outputs new.outputs → HasEmptyBuffers b → (is_finished next ≡ true → IsAtEnd new.remaining) → IsStreamRun on_each job old new status
each_halted job old mid new cutter next a b given values fed piece status g consumed has halts answered empty end =
    let all = given ++ values in
    let rest : Values = left (fault_of next) (rest_of next) (known new.remaining) true in
    let read = Consumes-trans old.remaining mid.remaining new.remaining fed piece g.consumed consumed in
    let more = values_more job job.style given values g.first a b old.outputs mid.outputs new.outputs g.answered answered in
    let written = whole_written job.style (runs_on job all) g.first b old.outputs new.outputs g.first_empty empty more in
    let errors = subst (Appends old.outputs.errors new.outputs.errors) (sym (append-nil (runs_reported (runs_on job all)))) written.1 in
    let made = halted_outcome job all rest.values rest.end status (halted_more job given values status g.no_halt halts) in
    let ran : Ran job old.outputs new.outputs status (record { values = all ++ rest.values; end = rest.end }) =
    subst (RanAs old.outputs new.outputs status) (sym made) (record { output = written.0; errors = errors }, refl) in
    let found = subst (Ran job old.outputs new.outputs status) (sym (whole_input next all (fed ++ piece) new.remaining has end)) ran in
    ((fed ++ piece) ++ known new.remaining, consumed_whole old.remaining new.remaining (fed ++ piece) read, found.0, found.1)

-- ---- the stream was stopped

-- the first bytes of what the runs on all values of an input write are those of the runs on its first values
first_of_runs : (job : Job) (o p : Outputs) (given more : List Value) (end : StreamEnd) → MayBeMade (runs_on job given) → FirstWritten job.style (runs_on job given) o p
    → WritesFirst (stream_outcome on_each job (record { values = given ++ more; end = end })) o p
first_of_runs job o p given more end made first =
    let rs = up_to_halt (runs_on job (given ++ more)) in
    let begun = made_first (runs_on job given) (runs_on job more) made in
    let all : rs ≡ runs_on job given ++ begun.0 = ap up_to_halt (runs_both job given more) ∙ begun.1 in
    let printed = ap (runs_printed job.style) all ∙ printed_both job.style (runs_on job given) begun.0 in
    let reported = ap runs_reported all ∙ reported_both (runs_on job given) begun.0 in
    record {
      output = subst (AppendsFirst o.output p.output) (sym printed) (first_longer o.output p.output (runs_printed job.style (runs_on job given)) (runs_printed job.style begun.0) first.0);
      errors =
          first_longer o.errors p.errors (runs_reported rs) (unless_halted (first_halt rs) (end_reported end))
          (subst (AppendsFirst o.errors p.errors) (sym reported) (first_longer o.errors p.errors (runs_reported (runs_on job given)) (runs_reported begun.0) first.1));
    }

pub part_written : (job : Job) (old new : Streams) (rn : Option (List ℕ)) (cutter : Cutter) (given : List Value) (fed : List ℕ) → HasGiven cutter given fed → Consumes old.remaining rn fed
    → (is_finished cutter ≡ true → IsAtEnd rn) → MayBeMade (runs_on job given) → FirstWritten job.style (runs_on job given) old.outputs new.outputs → IsWriteStopped on_each job old new
part_written job old new rn cutter given fed has consumed end made first =
    let rest : Values = left (fault_of cutter) (rest_of cutter) (known rn) true in (
      record { values = given ++ rest.values; end = rest.end },
      inl (fed ++ known rn, consumed_whole old.remaining rn fed consumed, sym (whole_input cutter given fed rn has end)),
      first_of_runs job old.outputs new.outputs given rest.values rest.end made first,
    )

-- except for read faults
pub not_read : (f : StreamFault) (mode : Mode) (job : Job) (old new : Streams) → (f ≡ Read → ⊥) → IsWriteStopped mode job old new → IsStreamStopped f mode job old new
not_read Read mode job old new other part = absurd (other refl)
not_read Write mode job old new other part = part
not_read NoMemory mode job old new other part = part

-- an error of a call that writes
pub stopped_by : {A : Type 0} (r : Result A StreamFault) (mode : Mode) (job : Job) (old new : Streams) {P : Type 0} → IfErr r (λ f. f ≢ Read) → OnErr r P → (P → IsWriteStopped mode job old new)
    → IfErr r (λ f. IsStreamStopped f mode job old new)
stopped_by r mode job old new other first part = if_err_both r other first (λ f other first. not_read f mode job old new other (part first))

-- nothing was written yet
pub unbegun : (mode : Mode) (job : Job) (s : Streams) (remaining : Option (List ℕ)) → IsWriteStopped mode job s (record { remaining = remaining; outputs = s.outputs })
unbegun mode job s remaining =
    (stream true (known s.remaining), inl (known s.remaining, whole_known s.remaining, refl), record { output = first_nothing s.outputs.output _; errors = first_nothing s.outputs.errors _ })

-- the next read of the input failed
pub read_stopped : (job : Job) (old new : Streams) (later : Option (List ℕ)) (cutter : Cutter) (a : OutputBuffers) (given : List Value) (fed : List ℕ) → Going job old new cutter a given fed
    → AllGiven false given fed → Keeps new.remaining later → IsReadStopped on_each job old (record { remaining = later; outputs = new.outputs })
read_stopped job old new later cutter a given fed g all kept =
    let written = going_written job old new cutter a given fed g in
    let errors = subst (Appends old.outputs.errors new.outputs.errors) (sym (append-nil (runs_reported (runs_on job given)))) written.1 in
    let all_written : Writes (stream_outcome on_each job (present given)) old.outputs new.outputs =
    subst (WritesTo old.outputs new.outputs) (sym (going_outcome job old new cutter a given fed clean g)) (record { output = written.0; errors = errors }) in (
      fed,
      part_read given fed old.remaining later (Consumes-kept old.remaining new.remaining later fed g.consumed kept) all,
      subst (λ vs. Writes (stream_outcome on_each job (present vs)) old.outputs new.outputs) (sym (part_values given fed all)) all_written,
      λ each. subst (λ vs. first_halt (runs_on job vs) ≡ None) (sym (part_values given fed all)) g.no_halt,
    )

unfinished : (ended : Bool) (rn : Option (List ℕ)) → ended ≡ false → ended ≡ true → IsAtEnd rn
unfinished ended rn unended e = let both : true ≡ false = sym e ∙ unended in cc

-- the next piece could not be read or fed
pub piece_stopped : (f : StreamFault) (job : Job) (old mid : Streams) (later : Option (List ℕ)) (cutter : Cutter) (a : OutputBuffers) (given : List Value) (fed : List ℕ) → Going job old mid cutter a given fed
    → AllGiven false given fed → is_finished cutter ≡ false → (f ≡ Read → Keeps mid.remaining later) → IsStreamStopped f on_each job old (record { remaining = later; outputs = mid.outputs })
piece_stopped Read job old mid later cutter a given fed g all unended kept = read_stopped job old mid later cutter a given fed g all (kept refl)
piece_stopped Write job old mid later cutter a given fed g all unended kept =
    part_written job old _ mid.remaining cutter given fed g.has_given g.consumed (unfinished _ mid.remaining unended) (none_halts (runs_on job given) g.no_halt) (going_first job old mid cutter a given fed g)
piece_stopped NoMemory job old mid later cutter a given fed g all unended kept =
    part_written job old _ mid.remaining cutter given fed g.has_given g.consumed (unfinished _ mid.remaining unended) (none_halts (runs_on job given) g.no_halt) (going_first job old mid cutter a given fed g)

-- the values that were complete were not all answered and written
pub answers_stopped : (f : StreamFault) (job : Job) (old mid new : Streams) (cutter next : Cutter) (a : OutputBuffers) (given values : List Value) (fed piece : List ℕ) → Going job old mid cutter a given fed
    → Consumes mid.remaining new.remaining piece → HasGiven next (given ++ values) (fed ++ piece) → MayBeMade (runs_on job values) → FirstWritten job.style (runs_on job values) mid.outputs new.outputs
    → (is_finished next ≡ true → IsAtEnd new.remaining) → f ≢ Read → IsStreamStopped f on_each job old new
answers_stopped f job old mid new cutter next a given values fed piece g consumed has made first end other =
    let written = going_written job old mid cutter a given fed g in
    let printed = ap (runs_printed job.style) (runs_both job given values) ∙ printed_both job.style (runs_on job given) (runs_on job values) in
    let reported = ap runs_reported (runs_both job given values) ∙ reported_both (runs_on job given) (runs_on job values) in
    not_read f on_each job old new other
    (part_written job old new new.remaining next (given ++ values) (fed ++ piece) has (Consumes-trans old.remaining mid.remaining new.remaining fed piece g.consumed consumed) end
    (made_more job given values g.no_halt made) (
      subst (AppendsFirst old.outputs.output new.outputs.output) (sym printed) (first_after old.outputs.output mid.outputs.output new.outputs.output _ _ written.0 first.0),
      subst (AppendsFirst old.outputs.errors new.outputs.errors) (sym reported) (first_after old.outputs.errors mid.outputs.errors new.outputs.errors _ _ written.1 first.1),
    ))

-- ---- a text's fault was reported completely, or only in part

pub each_reported : (r : Result ℕ StreamFault) (job : Job) (old mid : Streams) (errors : Option (List ℕ)) (cutter : Cutter) (a : OutputBuffers) (given : List Value) (fed : List ℕ) (f : Fault)
    → Going job old mid cutter a given fed → fault_of cutter ≡ Some f → (is_finished cutter ≡ true → IsAtEnd mid.remaining) → IfOk r (λ status. status ≡ 2)
    → OnOk r (Appends mid.outputs.errors errors (text_line f)) → IfOk r (λ status. IsStreamRun on_each job old (streams mid.remaining mid.outputs.output errors) status)
each_reported (Ok status) job old mid errors cutter a given fed f g met end is reported = each_faulted job old mid errors cutter a given fed f status g met end reported is
each_reported (Err e) job old mid errors cutter a given fed f g met end is reported = tt

line_part : (job : Job) (old mid : Streams) (errors : Option (List ℕ)) (cutter : Cutter) (a : OutputBuffers) (given : List Value) (fed : List ℕ) (f : Fault) → Going job old mid cutter a given fed
    → fault_of cutter ≡ Some f → (is_finished cutter ≡ true → IsAtEnd mid.remaining) → AppendsFirst mid.outputs.errors errors (text_line f)
    → IsWriteStopped on_each job old (streams mid.remaining mid.outputs.output errors)
line_part job old mid errors cutter a given fed f g met end first =
    let written = going_written job old mid cutter a given fed g in
    let new : Outputs = record { output = mid.outputs.output; errors = errors } in (
      record { values = given; end = fault f },
      inl (fed ++ known mid.remaining, consumed_whole old.remaining mid.remaining fed g.consumed, sym (faulted_input cutter given fed mid.remaining f g.has_given end met)),
      subst (WritesFirstTo old.outputs new) (sym (going_outcome job old mid cutter a given fed (fault f) g))
          (record { output = first_whole _ _ _ written.0; errors = first_after old.outputs.errors mid.outputs.errors errors _ _ written.1 first }),
    )

pub line_stopped : (r : Result ℕ StreamFault) (job : Job) (old mid : Streams) (errors : Option (List ℕ)) (cutter : Cutter) (a : OutputBuffers) (given : List Value) (fed : List ℕ) (f : Fault)
    → Going job old mid cutter a given fed → fault_of cutter ≡ Some f → (is_finished cutter ≡ true → IsAtEnd mid.remaining) → OnErr r (AppendsFirst mid.outputs.errors errors (text_line f))
    → IfErr r (λ e. e ≢ Read) → IfErr r (λ e. IsStreamStopped e on_each job old (streams mid.remaining mid.outputs.output errors))
line_stopped r job old mid errors cutter a given fed f g met end first other =
    stopped_by r on_each job old (streams mid.remaining mid.outputs.output errors) other first (line_part job old mid errors cutter a given fed f g met end)

-- ---- one pass

-- the outputs and error lines of the runs on the complete texts before the last piece were written, and then these bytes
pub one_pass : (job : Job) (old mid : Streams) (remaining output errors : Option (List ℕ)) (cutter : Cutter) (a : OutputBuffers) (given : List Value) (fed piece printed reported : List ℕ)
    → Going job old mid cutter a given fed → AllGiven false given fed → Consumes mid.remaining remaining piece → length piece ≤ 65536 → Appends mid.outputs.output output printed
    → Appends mid.outputs.errors errors reported → IsOnePass job old (streams remaining output errors)
one_pass job old mid remaining output errors cutter a given fed piece printed reported g all consumed small more_printed more_reported =
    let written = going_written job old mid cutter a given fed g in
    let values = sym (part_values given fed all) in
    record {
      answered = fed;
      piece = piece;
      consumed = Consumes-trans old.remaining mid.remaining remaining fed piece g.consumed consumed;
      small = small;
      no_fault = (part_read given fed old.remaining mid.remaining g.consumed all).no_fault;
      no_halt = subst (λ vs. first_halt (runs_on job vs) ≡ None) values g.no_halt;
      output = (
        printed,
        subst (λ vs. Appends old.outputs.output output (runs_printed job.style (runs_on job vs) ++ printed)) values
            (Appends-trans old.outputs.output mid.outputs.output output _ printed written.0 more_printed),
      );
      errors = (
        reported,
        subst (λ vs. Appends old.outputs.errors errors (runs_reported (runs_on job vs) ++ reported)) values
            (Appends-trans old.outputs.errors mid.outputs.errors errors _ reported written.1 more_reported),
      );
    }

-- nothing was read or written yet
pub one_pass_begun : (job : Job) (s : Streams) → IsOnePass job s s
one_pass_begun job s =
    let values = sym (part_values [] [] nothing_given) in
    record {
      answered = [];
      piece = [];
      consumed = Consumes-nil s.remaining;
      small = omega arith;
      no_fault = (part_read [] [] s.remaining s.remaining (Consumes-nil s.remaining) nothing_given).no_fault;
      no_halt = subst (λ vs. first_halt (runs_on job vs) ≡ None) values refl;
      output = ([], subst (λ vs. Appends s.outputs.output s.outputs.output (runs_printed job.style (runs_on job vs) ++ [])) values (Appends-nil s.outputs.output));
      errors = ([], subst (λ vs. Appends s.outputs.errors s.outputs.errors (runs_reported (runs_on job vs) ++ [])) values (Appends-nil s.outputs.errors));
    }

-- the next piece was not fed
pub one_pass_unfed : (job : Job) (old mid : Streams) (later : Option (List ℕ)) (cutter : Cutter) (a : OutputBuffers) (given : List Value) (fed piece : List ℕ) → Going job old mid cutter a given fed
    → AllGiven false given fed → Consumes mid.remaining later piece → length piece ≤ 65536 → IsOnePass job old (record { remaining = later; outputs = mid.outputs })
one_pass_unfed job old mid later cutter a given fed piece g all consumed small =
    one_pass job old mid later mid.outputs.output mid.outputs.errors cutter a given fed piece [] [] g all consumed small (Appends-nil mid.outputs.output) (Appends-nil mid.outputs.errors)

-- the values of the piece were answered
pub one_pass_answered : (job : Job) (old mid new : Streams) (cutter : Cutter) (a b : OutputBuffers) (given values : List Value) (fed piece : List ℕ) → Going job old mid cutter a given fed → AllGiven false given fed
    → Consumes mid.remaining new.remaining piece → length piece ≤ 65536 → IsAnswered job.style (runs_on job values) a b mid.outputs new.outputs → HasEmptyBuffers b → IsOnePass job old new
one_pass_answered job old mid new cutter a b given values fed piece g all consumed small answered empty =
    let written = whole_written job.style (runs_on job values) a b mid.outputs new.outputs g.empty empty answered in
    one_pass job old mid new.remaining new.outputs.output new.outputs.errors cutter a given fed piece _ _ g all consumed small written.0 written.1

-- a fault of the piece was reported, perhaps not completely
pub one_pass_reported : (job : Job) (old mid new : Streams) (errors : Option (List ℕ)) (cutter : Cutter) (a b : OutputBuffers) (given values : List Value) (fed piece line : List ℕ) → Going job old mid cutter a given fed
    → AllGiven false given fed → Consumes mid.remaining new.remaining piece → length piece ≤ 65536 → IsAnswered job.style (runs_on job values) a b mid.outputs new.outputs → HasEmptyBuffers b
    → AppendsFirst new.outputs.errors errors line → IsOnePass job old (streams new.remaining new.outputs.output errors)
one_pass_reported job old mid new errors cutter a b given values fed piece line g all consumed small answered empty first =
    let written = whole_written job.style (runs_on job values) a b mid.outputs new.outputs g.empty empty answered in
    one_pass job old mid new.remaining new.outputs.output errors cutter a given fed piece _ _ g all consumed small written.0
    (Appends-trans mid.outputs.errors new.outputs.errors errors (runs_reported (runs_on job values)) first.0 written.1 first.3)
