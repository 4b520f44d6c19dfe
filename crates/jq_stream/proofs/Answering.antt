-- The outputs of runs, one run after the other.
use mathlib.Core.Bool.{or-false}
use Rattle.std.proofs.Common.{◌≡◌, ℕ, Bool, ◌||◌, List, [], ◌∷◌, ◌++◌, Option, Some, None, Result, Ok, Err, IfOk, OnErr, sym, ap, ◌∙◌, refl, subst, append-nil}
use Rattle.std.specs.Io.KnownBytes.{Appends}
use Rattle.std.proofs.KnownBytes.{Appends-nil}
use Rattle.std.proofs.Math.Bool.{or_assoc}
use Rattle.std.proofs.lemmas.Grind.{flat_map-append}
use Rattle.std.proofs.lemmas.List.{map-append}
use Rattle.std.proofs.lemmas.List.Folds.{list_any-append}
use Rattle.jv_data.specs.Value.{Value}
use Rattle.jv_text.specs.declared.cutting.Cutter.{Cutter}
use Rattle.jv_text.specs.declared.printing.Style.{Style}
use Rattle.jq_meaning.specs.Runs.{Run, Item, none}
use Rattle.jq_devices.proofs.shared.Writing.{first_whole}
use Rattle.jq_devices.specs.Writing.{AppendsFirst}
use Rattle.jq_filters.specs.Outcomes.{Job, Last, runs_printed, runs_reported, any_failure, last_output, first_halt, end_status}
use Rattle.jq_stream.specs.Streams.{Outputs}
use Rattle.jq_filters.specs.Pieces.{last_of}
use Rattle.jq_filters.specs.Runner.{job_of}
use Rattle.jq_filters.specs.declared.runner.Runner.{Runner}
use Rattle.jq_filters.specs.declared.settings.Settings.{Settings}
use Rattle.jq_filters.specs.private.Made.{EndsInHalt, MayBeMade}
use Rattle.jq_stream.specs.private.Answering.{IsAnswered, IsAnsweredFirst, IsPrinted, IsPrintedFirst, HasEmptyBuffers, IsFresh, IsWritten, IsWrittenFirst, IsEmptied, last_after, last_after_items, runs_on}
use Rattle.jq_stream.specs.private.Cutting.{IsReached}
use Rattle.jq_stream.specs.private.Ready.{AnswersUpTo, AnswersFirst}
use Rattle.jq_stream.specs.private.Sending.{IsSent, IsSentFirst}
use Rattle.jq_stream.specs.declared.answers.OutputBuffers.{OutputBuffers}
use Rattle.jq_stream.specs.declared.answers.Reached.{Reached}
use Rattle.jq_stream.specs.declared.answers.Reached.TheVariants as reached
use Rattle.jq_filters.proofs.shared.Halting.{none_halts, made_after, one_made, still_unhalted, halts_after}
use Rattle.jq_stream.proofs.LastOutputs.{last_from_none}
use Rattle.jq_stream.proofs.Sending.{sent_none, sent_more, sent_then_first, first_of_sent, first_sent, all_written, first_written}

-- ---- runs and more runs

pub printed_both : (style : Style) (rs ss : List (Run Item)) → runs_printed style (rs ++ ss) ≡ runs_printed style rs ++ runs_printed style ss
printed_both style rs ss = flat_map-append _ rs ss

pub reported_both : (rs ss : List (Run Item)) → runs_reported (rs ++ ss) ≡ runs_reported rs ++ runs_reported ss
reported_both rs ss = flat_map-append _ rs ss

pub failure_both : (rs ss : List (Run Item)) → any_failure (rs ++ ss) ≡ (any_failure rs || any_failure ss)
failure_both rs ss = list_any-append _ rs ss

pub last_both : (last : Last) (rs ss : List (Run Item)) → last_after last (rs ++ ss) ≡ last_after (last_after last rs) ss
last_both last [] ss = refl
last_both last (r ∷ rs) ss = last_both (last_after_items last r.items) rs ss

pub runs_both : (job : Job) (values more : List Value) → runs_on job (values ++ more) ≡ runs_on job values ++ runs_on job more
runs_both job values more = map-append (job.run none) values more

-- ---- what was answered

-- what was printed, and what was reported, between these states
abbrev IsSentTo : OutputBuffers → OutputBuffers → Outputs → Outputs → List ℕ → Type 0
IsSentTo a b o p bytes = IsSent a.printed.items b.printed.items o.output p.output bytes

abbrev IsReportedTo : OutputBuffers → OutputBuffers → Outputs → Outputs → List ℕ → Type 0
IsReportedTo a b o p bytes = IsSent a.reported.items b.reported.items o.errors p.errors bytes

abbrev IsSentFirstTo : OutputBuffers → OutputBuffers → Outputs → Outputs → List ℕ → Type 0
IsSentFirstTo a b o p bytes = IsSentFirst a.printed.items b.printed.items o.output p.output bytes

abbrev IsReportedFirstTo : OutputBuffers → OutputBuffers → Outputs → Outputs → List ℕ → Type 0
IsReportedFirstTo a b o p bytes = IsSentFirst a.reported.items b.reported.items o.errors p.errors bytes

pub answered_none : (style : Style) (a : OutputBuffers) (o : Outputs) → IsAnswered style [] a a o o
answered_none style a o = record {
  output = sent_none a.printed.items o.output;
  errors = sent_none a.reported.items o.errors;
  failed = sym (or-false a.failed);
  last = refl;
}

pub answered_more : (style : Style) (rs ss : List (Run Item)) (a b c : OutputBuffers) (o p q : Outputs) → IsAnswered style rs a b o p → IsAnswered style ss b c p q → IsAnswered style (rs ++ ss) a c o q
answered_more style rs ss a b c o p q g h = record {
  output = subst (IsSentTo a c o q) (sym (printed_both style rs ss)) (sent_more _ _ _ _ _ _ _ _ g.output h.output);
  errors = subst (IsReportedTo a c o q) (sym (reported_both rs ss)) (sent_more _ _ _ _ _ _ _ _ g.errors h.errors);
  failed = h.failed ∙ ap (λ f. f || any_failure ss) g.failed ∙ or_assoc a.failed (any_failure rs) (any_failure ss) ∙ ap (λ f. a.failed || f) (sym (failure_both rs ss));
  last = h.last ∙ ap (λ l. last_after l ss) g.last ∙ sym (last_both _ rs ss);
}

pub answered_then_first : (style : Style) (rs ss : List (Run Item)) (a b c : OutputBuffers) (o p q : Outputs) → IsAnswered style rs a b o p → IsAnsweredFirst style ss b c p q → IsAnsweredFirst style (rs ++ ss) a c o q
answered_then_first style rs ss a b c o p q g h = record {
  output = subst (IsSentFirstTo a c o q) (sym (printed_both style rs ss)) (sent_then_first _ _ _ _ _ _ _ _ g.output h.output);
  errors = subst (IsReportedFirstTo a c o q) (sym (reported_both rs ss)) (sent_then_first _ _ _ _ _ _ _ _ g.errors h.errors);
}

pub first_of_answered : (style : Style) (rs : List (Run Item)) (a b : OutputBuffers) (o p : Outputs) → IsAnswered style rs a b o p → IsAnsweredFirst style rs a b o p
first_of_answered style rs a b o p g = record { output = first_of_sent _ _ _ _ _ g.output; errors = first_of_sent _ _ _ _ _ g.errors }

-- the buffers were perhaps written afterwards
pub answered_sent : (style : Style) (rs : List (Run Item)) (a b c : OutputBuffers) (o p q : Outputs) → IsPrinted [] b c p q → c.last ≡ b.last → IsAnswered style rs a b o p → IsAnswered style rs a c o q
answered_sent style rs a b c o p q h last g = record {
  output = subst (IsSentTo a c o q) (append-nil (runs_printed style rs)) (sent_more _ _ _ _ _ _ _ _ g.output h.output);
  errors = subst (IsReportedTo a c o q) (append-nil (runs_reported rs)) (sent_more _ _ _ _ _ _ _ _ g.errors h.errors);
  failed = h.failed ∙ g.failed;
  last = ap last_of last ∙ g.last;
}

pub answered_sent_first : (style : Style) (rs : List (Run Item)) (a b c : OutputBuffers) (o p q : Outputs) → IsPrintedFirst [] b c p q → IsAnswered style rs a b o p → IsAnsweredFirst style rs a c o q
answered_sent_first style rs a b c o p q h g = record {
  output = subst (IsSentFirstTo a c o q) (append-nil (runs_printed style rs)) (sent_then_first _ _ _ _ _ _ _ _ g.output h.output);
  errors = subst (IsReportedFirstTo a c o q) (append-nil (runs_reported rs)) (sent_then_first _ _ _ _ _ _ _ _ g.errors h.errors);
}

-- ---- the runs on values

pub values_more : (job : Job) (style : Style) (values more : List Value) (a b c : OutputBuffers) (o p q : Outputs)
    → IsAnswered style (runs_on job values) a b o p → IsAnswered style (runs_on job more) b c p q → IsAnswered style (runs_on job (values ++ more)) a c o q
values_more job style values more a b c o p q g h =
    subst (λ rs. IsAnswered style rs a c o q) (sym (runs_both job values more)) (answered_more style (runs_on job values) (runs_on job more) a b c o p q g h)

pub values_then_first : (job : Job) (style : Style) (values more : List Value) (a b c : OutputBuffers) (o p q : Outputs)
    → IsAnswered style (runs_on job values) a b o p → IsAnsweredFirst style (runs_on job more) b c p q → IsAnsweredFirst style (runs_on job (values ++ more)) a c o q
values_then_first job style values more a b c o p q g h =
    subst (λ rs. IsAnsweredFirst style rs a c o q) (sym (runs_both job values more)) (answered_then_first style (runs_on job values) (runs_on job more) a b c o p q g h)

-- ---- nothing was answered yet

pub stopped_before : (style : Style) (rs : List (Run Item)) (a : OutputBuffers) (o : Outputs) → IsAnsweredFirst style rs a a o o
stopped_before style rs a o = record { output = first_sent _ _ _ _ [] (runs_printed style rs) (sent_none a.printed.items o.output); errors = first_sent _ _ _ _ [] (runs_reported rs) (sent_none a.reported.items o.errors) }

-- ---- the buffers are written

-- they were written, and are empty now
buffer_written : (w v : List ℕ) (r s : Option (List ℕ)) → Appends r s w → v ≡ [] → IsSent w v r s []
buffer_written w v r s written none = record { front = w; parts = ap (λ l. w ++ l) (sym none); written = written }

pub buffers_written : (style : Style) (rs : List (Run Item)) (a b c : OutputBuffers) (o p q : Outputs) → IsAnswered style rs a b o p → IsWritten b p q → IsEmptied b c
    → IsAnswered style rs a c o q
buffers_written style rs a b c o p q g flushed emptied = record {
  output =
      subst (IsSentTo a c o q) (append-nil (runs_printed style rs))
      (sent_more _ _ _ _ _ _ _ _ g.output (buffer_written b.printed.items c.printed.items p.output q.output flushed.output emptied.empty.printed));
  errors =
      subst (IsReportedTo a c o q) (append-nil (runs_reported rs))
      (sent_more _ _ _ _ _ _ _ _ g.errors (buffer_written b.reported.items c.reported.items p.errors q.errors flushed.errors emptied.empty.reported));
  failed = emptied.failed ∙ g.failed;
  last = ap last_of emptied.last ∙ g.last;
}

-- the buffers were empty before, and are empty now
pub whole_written : (style : Style) (rs : List (Run Item)) (a b : OutputBuffers) (o p : Outputs) → HasEmptyBuffers a → HasEmptyBuffers b → IsAnswered style rs a b o p
    → Appends o.output p.output (runs_printed style rs) × Appends o.errors p.errors (runs_reported rs)
whole_written style rs a b o p before after g = (
  all_written _ _ _ _ _ (runs_printed style rs) before.printed g.output (subst (Appends p.output p.output) (sym after.printed) (Appends-nil p.output)),
  all_written _ _ _ _ _ (runs_reported rs) before.reported g.errors (subst (Appends p.errors p.errors) (sym after.reported) (Appends-nil p.errors)),
)

-- the first bytes of both
abbrev pub FirstWritten : Style → List (Run Item) → Outputs → Outputs → Type 0
FirstWritten style rs o p = AppendsFirst o.output p.output (runs_printed style rs) × AppendsFirst o.errors p.errors (runs_reported rs)

pub first_buffers_written : (style : Style) (rs : List (Run Item)) (a b : OutputBuffers) (o p q : Outputs) → HasEmptyBuffers a → IsAnsweredFirst style rs a b o p → IsWrittenFirst b p q
    → FirstWritten style rs o q
first_buffers_written style rs a b o p q before g first =
    (first_written _ _ _ _ _ (runs_printed style rs) before.printed g.output first.output, first_written _ _ _ _ _ (runs_reported rs) before.reported g.errors first.errors)

pub first_of_written : (b : OutputBuffers) (p q : Outputs) → IsWritten b p q → IsWrittenFirst b p q
first_of_written b p q written = record { output = first_whole _ _ _ written.output; errors = first_whole _ _ _ written.errors }

-- ---- the status

-- no run was made before these
pub status_of_runs : (exit : Bool) (style : Style) (rs : List (Run Item)) (a b : OutputBuffers) (o p : Outputs) (answer : ℕ) → IsFresh a → IsAnswered style rs a b o p
    → answer ≡ end_status exit b.failed (last_of b.last) → answer ≡ end_status exit (any_failure rs) (last_output rs)
status_of_runs exit style rs a b o p answer fresh g e =
    let failed : b.failed ≡ any_failure rs = g.failed ∙ ap (λ f. f || any_failure rs) fresh.failed in
    let last : last_of b.last ≡ last_output rs = g.last ∙ ap (λ l. last_after l rs) fresh.last ∙ last_from_none rs in
    e ∙ ap (λ f. end_status exit f (last_of b.last)) failed ∙ ap (end_status exit (any_failure rs)) last

-- ---- values up to one whose run halts

pub runs_made : (r : Reached) (rs : List (Run Item)) (cutter : Cutter) (given : List Value) (fed : List ℕ) → IsReached r rs cutter given fed → MayBeMade rs
runs_made reached.All rs cutter given fed e = none_halts rs e.1
runs_made (reached.Fault f) rs cutter given fed e = none_halts rs e.1
runs_made (reached.Halt status) rs cutter given fed e = e.made

-- no run on these values halts, and perhaps the run on the next one
pub unhalted_more : (job : Job) (values more : List Value) → first_halt (runs_on job values) ≡ None → first_halt (runs_on job more) ≡ None → first_halt (runs_on job (values ++ more)) ≡ None
unhalted_more job values more e f = ap first_halt (runs_both job values more) ∙ still_unhalted (runs_on job values) (runs_on job more) e f

pub made_more : (job : Job) (values more : List Value) → first_halt (runs_on job values) ≡ None → MayBeMade (runs_on job more) → MayBeMade (runs_on job (values ++ more))
made_more job values more e made = subst MayBeMade (sym (runs_both job values more)) (made_after (runs_on job values) (runs_on job more) e made)

pub halted_more : (job : Job) (values more : List Value) (status : ℕ) → first_halt (runs_on job values) ≡ None → EndsInHalt status (runs_on job more) → EndsInHalt status (runs_on job (values ++ more))
halted_more job values more status e h = subst (EndsInHalt status) (sym (runs_both job values more)) (halts_after (runs_on job values) (runs_on job more) status e h)

pub one_more_made : (job : Job) (values : List Value) (v : Value) → first_halt (runs_on job values) ≡ None → MayBeMade (runs_on job (values ++ v ∷ []))
one_more_made job values v e = made_more job values (v ∷ []) e (one_made (job.run none v))

pub one_halts : (job : Job) (v : Value) (halt : Option ℕ) (status : ℕ) → halt ≡ first_halt (runs_on job (v ∷ [])) → halt ≡ Some status → EndsInHalt status (runs_on job (v ∷ []))
one_halts job v halt status e f = record { made = one_made (job.run none v); halts = sym e ∙ f }

-- ---- values that are complete so far

-- all values that were complete were answered, or the first of them
pub either_answered : {E : Type 0} (r : Result Reached E) (s : Settings) (runner : Runner) (before after : Cutter) (a b : OutputBuffers) (o p : Outputs)
    → IfOk r (λ up_to. AnswersUpTo up_to s runner before after a b o p) → OnErr r (AnswersFirst s runner before after a b o p) → AnswersFirst s runner before after a b o p
either_answered (Ok reached) s runner before after a b o p ok err given fed has =
    let ready = ok given fed has in
    let runs = runs_on (job_of s runner) ready.0 in
    (ready.0, ready.1.has_given, runs_made reached runs after (given ++ ready.0) fed ready.1.up_to, first_of_answered s.style runs a b o p ready.2)
either_answered (Err e) s runner before after a b o p ok err given fed has = err given fed has
