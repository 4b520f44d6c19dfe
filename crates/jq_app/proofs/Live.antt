-- What a session did, or why no session was served.
use Rattle.std.proofs.Common.{◌≡◌, ◌≢◌, ◌∙◌, ◌≤◌, ◌<◌, ◌+◌, arith, inl, inr, ℕ, Bool, List, [], Option, Some, None, Result, Ok, Err, IfOk, IfErr, OnOk, OnErr, length, map, true, if◌then◌else◌, ap, sym, subst, refl}
use Rattle.std.proofs.KnownBytes.{Appends-nil}
use Rattle.std.proofs.lemmas.Bool.{lt-ltb, le-ltb}
use Rattle.std.specs.Io.KnownBytes.{Appends}
use Rattle.std.proofs.lemmas.List.{length-map}
use Rattle.jv_data.specs.Value.{Value}
use Rattle.jv_data.specs.View.{view}
use Rattle.jv_data.specs.declared.values.Val.{Val}
use Rattle.jq_session.specs.Sessions.{IsStartRefusal}
use Rattle.jq_session.specs.declared.refusals.Refusal.{Refusal}
use Rattle.jq_session.specs.declared.refusals.Refusal.TheVariants as refusal
use Rattle.jv_text.specs.Stream.{Values, stream}
use Rattle.jv_text.specs.declared.faults.Fault.{Fault}
use Rattle.jq_syntax.specs.Chosen.{Chosen}
use Rattle.jv_data.proofs.shared.Results.{if_err_map, if_ok_map}
use Rattle.jq_devices.proofs.shared.Writing.{first_nothing}
use Rattle.jq_devices.specs.Writing.{AppendsFirst}
use Rattle.jq_devices.specs.declared.faults.StreamFault.{StreamFault}
use Rattle.jq_devices.specs.declared.faults.StreamFault.TheVariants as stream_fault
use Rattle.jq_filters.specs.Filters.{IsFilterOf, filter_job, filter_mode}
use Rattle.jq_filters.specs.Outcomes.{text_line}
use Rattle.jq_filters.specs.declared.filters.Filter.{Filter}
use Rattle.jq_devices.specs.Reading.{IsWhole}
use Rattle.jq_stream.specs.Streams.{Streams, streams}
use Rattle.jq_stream.specs.Texts.{EndsAs}
use Rattle.jq_pages.specs.Edits.{most_inputs}
use Rattle.jq_session.specs.Starts.{IsFirstRun}
use Rattle.jq_session.specs.States.{State, filter_plan, state_in}
use Rattle.jq_script.specs.Script.{Point, point}
use Rattle.jq_session.specs.laws.Plans.{PlansAreByTheTree}
use Rattle.jq_script.specs.Serving.{Serving, serving}
use Rattle.jq_script.specs.Serving as script
use Rattle.jq_app.specs.Sessions.{IsSessionStopped, IsSessionDone, IsUnserved, RunsOut, Serves, if_room, no_start, too_many}
use Rattle.jq_app.specs.Stages.{Stage, stage}
use Rattle.jq_run.specs.Reports.{IsReport}
use Rattle.jq_app.specs.private.Served.{IsAnswered, IsCutOff}
use Rattle.jq_app.specs.private.Texts.{HaveTexts}
use Rattle.jq_run.proofs.shared.FilterRefusals.{memory_is_no_write, write_is_no_read}

-- ---- the texts of the files

room_for : (values : List Value) → length values ≤ most_inputs → if_room values ≡ None
room_for values low = ap (λ b. if b then Some too_many else None) (le-ltb most_inputs (length values) low)

no_room : (values : List Value) → most_inputs < length values → if_room values ≡ Some too_many
no_room values high = ap (λ b. if b then Some too_many else None) (lt-ltb most_inputs (length values) high)

unfaulted_start : (found : Values) (values : List Value) → EndsAs found values None → no_start found.values found.end ≡ if_room values
unfaulted_start found values e = elim e [ inl is ↦ ap (λ v. no_start v.values v.end) is | inr is ↦ ap (λ v. no_start v.values v.end) is ]

unfaulted_values : (found : Values) (values : List Value) → EndsAs found values None → found.values ≡ values
unfaulted_values found values e = elim e [ inl is ↦ ap (λ v. v.values) is | inr is ↦ ap (λ v. v.values) is ]

-- one of the texts can't be read
pub faulted : (files : Option (List ℕ)) (o : Chosen) (p : Filter) (text bytes : List ℕ) (values : List Value) (f : Fault) → IsFilterOf o text p → IsWhole bytes files
    → EndsAs (stream true bytes) values (Some f) → IsUnserved files o text (record { output = []; errors = text_line f; status = 2 })
faulted files o p text bytes values f h whole e =
    inr (filter_mode p, filter_job p, stream true bytes, record { accepts = h.accepted.accepts; bytes = bytes; whole = whole; texts = refl }, ap (λ v. no_start v.values v.end) e)

-- there are too many texts
pub overfull : (files : Option (List ℕ)) (o : Chosen) (p : Filter) (text bytes : List ℕ) (values : List Value) → IsFilterOf o text p → IsWhole bytes files
    → EndsAs (stream true bytes) values None → most_inputs < length values → IsUnserved files o text too_many
overfull files o p text bytes values h whole e high =
    inr (filter_mode p, filter_job p, stream true bytes, record { accepts = h.accepted.accepts; bytes = bytes; whole = whole; texts = refl }, unfaulted_start (stream true bytes) values e ∙ no_room values high)

-- ---- the session

-- other filters may start as often as before
pub shifted : (first : State) (a b spare : ℕ) → IsFirstRun first a b → IsFirstRun first (a + spare) (b + spare)
shifted first a b spare h = record { low = omega (arith, h.low); high = omega (arith, h.high) }

-- a session that came to a point with so many starts
pub serves : (files : Option (List ℕ)) (o : Chosen) (text : List ℕ) (values : List Value) (stop : Option Fault) (old : Stage) (new : Streams) (p : Filter) (begun : ℕ) (first : State) (at last : Point) (counted : ℕ)
    (Served : Serving → Serving → Type 0) → PlansAreByTheTree → IsFilterOf o text p → first ≡ state_in p values → IsFirstRun (state_in p values) old.starts begun → HaveTexts files values stop
    → stop ≡ None → length values ≤ most_inputs → old.streams.outputs.errors ≡ new.outputs.errors → at ≡ point o first begun → last.starts ≡ counted
    → Served (serving old.streams.remaining old.streams.outputs.output at) (serving new.remaining new.outputs.output last) → Serves files o text old (stage new counted) Served
serves files o text values stop old new p begun first at last counted Served plans h is run texts none low unreported began ended served =
    let bytes = texts.0 in
    let found = stream true bytes in
    let e = subst (EndsAs found values) none texts.2 in
    let are : values ≡ found.values = sym (unfaulted_values found values e) in
    let same : first ≡ state_in p found.values = is ∙ ap (state_in p) are in
    let by_point = subst (λ q. Served (serving old.streams.remaining old.streams.outputs.output q) (serving new.remaining new.outputs.output last)) began served in
    record {
      mode = filter_mode p;
      job = filter_job p;
      found = found;
      opens = record { accepts = h.accepted.accepts; bytes = bytes; whole = texts.1; texts = refl };
      plan = filter_plan p;
      planned = plans o text p h;
      starts = unfaulted_start found values e ∙ room_for values low;
      begun = begun;
      first_run = subst (λ vs. IsFirstRun (state_in p vs) old.starts begun) are run;
      last = last;
      counted = ended;
      served = subst (λ s. Served (serving old.streams.remaining old.streams.outputs.output (point o s begun)) (serving new.remaining new.outputs.output last)) same by_point;
      unreported = unreported;
    }

-- memory ran out in its first runs
pub runs_out : (files : Option (List ℕ)) (o : Chosen) (text : List ℕ) (values : List Value) (stop : Option Fault) (p : Filter) (before after : ℕ) → PlansAreByTheTree → IsFilterOf o text p
    → IsFirstRun (state_in p values) before after → HaveTexts files values stop → stop ≡ None → length values ≤ most_inputs → RunsOut files o text before after
runs_out files o text values stop p before after plans h run texts none low =
    let bytes = texts.0 in
    let found = stream true bytes in
    let e = subst (EndsAs found values) none texts.2 in
    record {
      mode = filter_mode p;
      job = filter_job p;
      found = found;
      opens = record { accepts = h.accepted.accepts; bytes = bytes; whole = texts.1; texts = refl };
      plan = filter_plan p;
      planned = plans o text p h;
      starts = unfaulted_start found values e ∙ room_for values low;
      first_run = subst (λ vs. IsFirstRun (state_in p vs) before after) (sym (unfaulted_values found values e)) run;
    }

-- ---- the room

pub room_in : (vs : List Val) → length vs ≤ most_inputs → length (map view vs) ≤ most_inputs
room_in vs h = subst (λ n. n ≤ most_inputs) (sym (length-map vs view)) h

pub full_in : (r : Refusal) (vs : List Val) → IsStartRefusal r (length vs) → r ≡ refusal.Full → most_inputs < length (map view vs)
full_in r vs h e = subst (λ n. most_inputs < n) (sym (length-map vs view)) (subst (λ y. IsStartRefusal y (length vs)) e h)

-- ---- what the command did

-- a text that can't be read was reported
pub fault_reported : (r : Result ℕ StreamFault) (k : Chosen) (p : Filter) (values : List Value) (stop : Option Fault) (f : Fault) (follow : Bool) (remaining output old new : Option (List ℕ)) (starts : ℕ)
    → stop ≡ Some f → IfOk r (λ status. status ≡ 2) → OnOk r (Appends old new (text_line f))
    → IfOk r (λ answer. (files : Option (List ℕ)) (o : Chosen) (text : List ℕ) → HaveTexts files values stop → IsFilterOf o text p → k ≡ o
    → IsSessionDone files follow o text (stage (streams remaining output old) starts) (stage (streams remaining output new) starts) answer)
fault_reported (Ok answer) k p values stop f follow remaining output old new starts is status written = λ files o text texts h chose.
    inr (
      (refl, refl),
      record { output = []; errors = text_line f; status = 2 },
      faulted files o p text texts.0 values f h texts.1 (subst (EndsAs (stream true texts.0) values) is texts.2),
      (record { output = Appends-nil output; errors = written }, status),
    )
fault_reported (Err x) k p values stop f follow remaining output old new starts is status written = tt

pub fault_report_stopped : (r : Result ℕ StreamFault) (k : Chosen) (p : Filter) (values : List Value) (stop : Option Fault) (f : Fault) (follow : Bool) (remaining output old new : Option (List ℕ)) (starts : ℕ)
    → stop ≡ Some f → OnErr r (AppendsFirst old new (text_line f)) → IfErr r (λ x. x ≢ stream_fault.Read)
    → IfErr r (λ x. (files : Option (List ℕ)) (o : Chosen) (text : List ℕ) → HaveTexts files values stop → IsFilterOf o text p → k ≡ o
    → IsSessionStopped x files follow o text (stage (streams remaining output old) starts) (stage (streams remaining output new) starts))
fault_report_stopped (Ok answer) k p values stop f follow remaining output old new starts is written unread = tt
fault_report_stopped (Err x) k p values stop f follow remaining output old new starts is written unread = λ files o text texts h chose.
    inr (inl (
      (refl, refl),
      record { output = []; errors = text_line f; status = 2 },
      faulted files o p text texts.0 values f h texts.1 (subst (EndsAs (stream true texts.0) values) is texts.2),
      record { output = first_nothing output []; errors = written },
      unread,
    ))

-- A session did not start: there are too many texts, or memory ran out.
abbrev pub IsRefusedStart : Refusal → Result ℕ StreamFault → (old new : Option (List ℕ)) → Type 0
IsRefusedStart f r old new = (f ≡ refusal.Full → IsReport r too_many.errors 2 old new) × (f ≢ refusal.Full → (r ≡ Err stream_fault.NoMemory) × (new ≡ old))

-- the count is the same if there are too many
abbrev pub IsCounted : Filter → List Val → (before after : ℕ) → Type 0
IsCounted p vs before after = IsFirstRun (state_in p (map view vs)) before after × (most_inputs < length vs → after ≡ before)

full_done : (r : Result ℕ StreamFault) (k : Chosen) (p : Filter) (values : List Value) (stop : Option Fault) (follow : Bool) (remaining output old new : Option (List ℕ)) (before after : ℕ)
    → stop ≡ None → most_inputs < length values → after ≡ before → IsReport r too_many.errors 2 old new
    → IfOk r (λ answer. (files : Option (List ℕ)) (o : Chosen) (text : List ℕ) → HaveTexts files values stop → IsFilterOf o text p → k ≡ o
    → IsSessionDone files follow o text (stage (streams remaining output old) before) (stage (streams remaining output new) after) answer)
full_done (Ok answer) k p values stop follow remaining output old new before after is high same report = λ files o text texts h chose.
    inr (
      (refl, sym same),
      too_many,
      overfull files o p text texts.0 values h texts.1 (subst (EndsAs (stream true texts.0) values) is texts.2) high,
      (record { output = Appends-nil output; errors = report.0 }, report.1),
    )
full_done (Err x) k p values stop follow remaining output old new before after is high same report = tt

full_stopped : (r : Result ℕ StreamFault) (k : Chosen) (p : Filter) (values : List Value) (stop : Option Fault) (follow : Bool) (remaining output old new : Option (List ℕ)) (before after : ℕ)
    → stop ≡ None → most_inputs < length values → after ≡ before → IsReport r too_many.errors 2 old new
    → IfErr r (λ x. (files : Option (List ℕ)) (o : Chosen) (text : List ℕ) → HaveTexts files values stop → IsFilterOf o text p → k ≡ o
    → IsSessionStopped x files follow o text (stage (streams remaining output old) before) (stage (streams remaining output new) after))
full_stopped (Ok answer) k p values stop follow remaining output old new before after is high same report = tt
full_stopped (Err x) k p values stop follow remaining output old new before after is high same report = λ files o text texts h chose.
    let why = overfull files o p text texts.0 values h texts.1 (subst (EndsAs (stream true texts.0) values) is texts.2) high in
    elim report [
      | inl write ↦ inr (inl ((refl, sym same), too_many, why, record { output = first_nothing output []; errors = write.1 }, write_is_no_read x write.0))
      | inr none ↦ inr (inr (inl ((refl, sym same), (Appends-nil output, none.1), memory_is_no_write x none.0)))
    ]

memory_done : (r : Result ℕ StreamFault) (P : ℕ → Type 0) → r ≡ Err stream_fault.NoMemory → IfOk r P
memory_done r P is = subst (λ q. IfOk q P) (sym is) tt

memory_stopped : (r : Result ℕ StreamFault) (k : Chosen) (p : Filter) (values : List Value) (stop : Option Fault) (follow : Bool) (remaining output old new : Option (List ℕ)) (before after : ℕ)
    → PlansAreByTheTree → stop ≡ None → length values ≤ most_inputs → IsFirstRun (state_in p values) before after → (r ≡ Err stream_fault.NoMemory) → new ≡ old
    → IfErr r (λ x. (files : Option (List ℕ)) (o : Chosen) (text : List ℕ) → HaveTexts files values stop → IsFilterOf o text p → k ≡ o
    → IsSessionStopped x files follow o text (stage (streams remaining output old) before) (stage (streams remaining output new) after))
memory_stopped r k p values stop follow remaining output old new before after plans is low run fault same =
    let kept : Appends old new [] = subst (λ e. Appends old e []) (sym same) (Appends-nil old) in
    subst (λ q. IfErr q (λ x. (files : Option (List ℕ)) (o : Chosen) (text : List ℕ) → HaveTexts files values stop → IsFilterOf o text p → k ≡ o
    → IsSessionStopped x files follow o text (stage (streams remaining output old) before) (stage (streams remaining output new) after))) (sym fault)
    (λ files o text texts h chose. inr (inr (inr (refl, runs_out files o text values stop p before after plans h run texts is low, (Appends-nil output, kept), refl))))

-- what was refused for each reason
pub start_refused : (f : Refusal) (r : Result ℕ StreamFault) (k : Chosen) (p : Filter) (vs : List Val) (stop : Option Fault) (follow : Bool) (remaining output old new : Option (List ℕ)) (before after : ℕ)
    → stop ≡ None → IsStartRefusal f (length vs) → IsCounted p vs before after → IsRefusedStart f r old new
    → IfOk r (λ answer. (files : Option (List ℕ)) (o : Chosen) (text : List ℕ) → HaveTexts files (map view vs) stop → IsFilterOf o text p → k ≡ o
    → IsSessionDone files follow o text (stage (streams remaining output old) before) (stage (streams remaining output new) after) answer)
start_refused refusal.Full r k p vs stop follow remaining output old new before after is refused count report =
    full_done r k p (map view vs) stop follow remaining output old new before after is (full_in refusal.Full vs refused refl) (count.1 refused) (report.0 refl)
start_refused refusal.NoPlace r k p vs stop follow remaining output old new before after is refused count report = absurd refused
start_refused refusal.Write r k p vs stop follow remaining output old new before after is refused count report = absurd refused
start_refused refusal.NoMemory r k p vs stop follow remaining output old new before after is refused count report = memory_done r _ (report.1 (λ e. cc)).0

pub start_stopped : (f : Refusal) (r : Result ℕ StreamFault) (k : Chosen) (p : Filter) (vs : List Val) (stop : Option Fault) (follow : Bool) (remaining output old new : Option (List ℕ)) (before after : ℕ)
    → PlansAreByTheTree → stop ≡ None → IsStartRefusal f (length vs) → IsCounted p vs before after → IsRefusedStart f r old new
    → IfErr r (λ x. (files : Option (List ℕ)) (o : Chosen) (text : List ℕ) → HaveTexts files (map view vs) stop → IsFilterOf o text p → k ≡ o
    → IsSessionStopped x files follow o text (stage (streams remaining output old) before) (stage (streams remaining output new) after))
start_stopped refusal.Full r k p vs stop follow remaining output old new before after plans is refused count report =
    full_stopped r k p (map view vs) stop follow remaining output old new before after is (full_in refusal.Full vs refused refl) (count.1 refused) (report.0 refl)
start_stopped refusal.NoPlace r k p vs stop follow remaining output old new before after plans is refused count report = absurd refused
start_stopped refusal.Write r k p vs stop follow remaining output old new before after plans is refused count report = absurd refused
start_stopped refusal.NoMemory r k p vs stop follow remaining output old new before after plans is refused count report =
    let memory = report.1 (λ e. cc) in
    memory_stopped r k p (map view vs) stop follow remaining output old new before after plans is (room_in vs refused) count.0 memory.0 memory.1

-- ---- a session that was served

pub session_served : (r : Result ℕ StreamFault) (k : Chosen) (p : Filter) (vs : List Val) (stop : Option Fault) (follow : Bool) (remaining output errors remaining_new output_new : Option (List ℕ)) (before begun spare counted : ℕ)
    (options : Chosen) (first : State) (at : Point) → PlansAreByTheTree → stop ≡ None → first ≡ state_in p (map view vs) → length vs ≤ most_inputs → IsFirstRun (state_in p (map view vs)) before begun → options ≡ k
    → at ≡ point options first (begun + spare) → IfOk r (λ answer. IsAnswered follow answer (serving remaining output at) remaining_new output_new counted)
    → IfOk r (λ answer. (files : Option (List ℕ)) (o : Chosen) (text : List ℕ) → HaveTexts files (map view vs) stop → IsFilterOf o text p → k ≡ o
    → IsSessionDone files follow o text (stage (streams remaining output errors) (before + spare)) (stage (streams remaining_new output_new errors) counted) answer)
session_served r k p vs stop follow remaining output errors remaining_new output_new before begun spare counted options first at plans is same low run chose began h = if_ok_map r h (λ answer answered files o text texts i chosen. inl (
  serves files o text (map view vs) stop (stage (streams remaining output errors) (before + spare)) (streams remaining_new output_new errors) p (begun + spare) first at answered.1 counted (script.IsServed follow) plans i same
      (shifted (state_in p (map view vs)) before begun spare run) texts is (room_in vs low) refl (began ∙ ap (λ c. point c first (begun + spare)) (chose ∙ chosen)) answered.2 answered.3,
  answered.0,
))

pub session_cut_off : (r : Result ℕ StreamFault) (k : Chosen) (p : Filter) (vs : List Val) (stop : Option Fault) (follow : Bool) (remaining output errors remaining_new output_new : Option (List ℕ)) (before begun spare counted : ℕ)
    (options : Chosen) (first : State) (at : Point) → PlansAreByTheTree → stop ≡ None → first ≡ state_in p (map view vs) → length vs ≤ most_inputs → IsFirstRun (state_in p (map view vs)) before begun → options ≡ k
    → at ≡ point options first (begun + spare) → IfErr r (λ f. IsCutOff follow f (serving remaining output at) remaining_new output_new counted)
    → IfErr r (λ f. (files : Option (List ℕ)) (o : Chosen) (text : List ℕ) → HaveTexts files (map view vs) stop → IsFilterOf o text p → k ≡ o
    → IsSessionStopped f files follow o text (stage (streams remaining output errors) (before + spare)) (stage (streams remaining_new output_new errors) counted))
session_cut_off r k p vs stop follow remaining output errors remaining_new output_new before begun spare counted options first at plans is same low run chose began h = if_err_map r h (λ f stopped files o text texts i chosen. inl (
    serves files o text (map view vs) stop (stage (streams remaining output errors) (before + spare)) (streams remaining_new output_new errors) p (begun + spare) first at stopped.0 counted
    (λ a b. script.IsStopped follow f a b × script.IsOnePass follow a b) plans i same
    (shifted (state_in p (map view vs)) before begun spare run) texts is (room_in vs low) refl (began ∙ ap (λ c. point c first (begun + spare)) (chose ∙ chosen)) stopped.1 (stopped.2, stopped.3)
    ))

-- ---- the status of a session

pub ok_status : {A : Type 0} (served : Result A StreamFault) (r : Result ℕ StreamFault) (P : Type 0) (Q : ℕ → Type 0) → OnOk served (r ≡ Ok 0) → IfErr served (λ f. r ≡ Err f) → OnOk served P → (P → Q 0) → IfOk r Q
ok_status (Ok a) r P Q ok err h q = subst (λ x. IfOk x Q) (sym ok) (q h)
ok_status (Err f) r P Q ok err h q = subst (λ x. IfOk x Q) (sym err) tt

pub err_status : {A : Type 0} (served : Result A StreamFault) (r : Result ℕ StreamFault) (Q : StreamFault → Type 0) → OnOk served (r ≡ Ok 0) → IfErr served (λ f. r ≡ Err f) → IfErr served Q → IfErr r Q
err_status (Ok a) r Q ok err h = subst (λ x. IfErr x Q) (sym ok) tt
err_status (Err f) r Q ok err h = subst (λ x. IfErr x Q) (sym err) h

-- from a clause on each fault and one on any
pub cut_off : {A : Type 0} (served : Result A StreamFault) (P R : StreamFault → Type 0) (Q : Type 0) → IfErr served P → OnErr served Q → ((f : StreamFault) → P f → Q → R f) → IfErr served R
cut_off (Ok a) P R Q h k both = tt
cut_off (Err f) P R Q h k both = both f h k

-- nothing was written before a fault other than a write fault
pub stopped_before : (f : StreamFault) (files : Option (List ℕ)) (follow : Bool) (o : Chosen) (text : List ℕ) (s : Stage) → f ≢ stream_fault.Write → IsSessionStopped f files follow o text s s
stopped_before f files follow o text s unwritten = inr (inr (inl ((refl, refl), (Appends-nil s.streams.outputs.output, Appends-nil s.streams.outputs.errors), unwritten)))
