-- One run, one output after the other.
use mathlib.Core.Bool.{or-false}
use Rattle.std.proofs.Common.{◌≡◌, ℕ, ◌||◌, List, [], ◌∷◌, ◌++◌, sym, ap, ◌∙◌, refl, subst, append-nil, append_assoc}
use Rattle.std.specs.List.{flat_map}
use Rattle.std.proofs.lemmas.Grind.{flat_map-append}
use Rattle.jv_data.specs.Value.{Value}
use Rattle.jv_text.specs.Printed.{printed}
use Rattle.jv_text.specs.declared.printing.Style.{Style}
use Rattle.jq_natives.specs.Answers.{is_true}
use Rattle.jq_meaning.specs.Runs.{Run, Item, value_in, before, ended}
use Rattle.jq_meaning.specs.Runs as runs
use Rattle.jq_filters.specs.Outcomes.{Last, last_by, runs_printed, runs_reported, ending_report, is_failure, first_halt, halt_status}
use Rattle.jq_stream.specs.Streams.{Outputs}
use Rattle.jq_stream.specs.private.Sending.{IsSent, IsSentFirst}
use Rattle.jq_filters.specs.Pieces.{last_of}
use Rattle.jq_stream.specs.private.Answering.{IsAnswered, IsAnsweredFirst, IsPrinted, IsPrintedFirst, last_after_items}
use Rattle.jq_stream.specs.declared.answers.OutputBuffers.{OutputBuffers}
use Rattle.jq_filters.proofs.shared.Halting.{one_halt}
use Rattle.jq_stream.proofs.Sending.{sent_none, sent_added, sent_more, sent_then_first, sent_longer, first_of_sent, first_sent}

abbrev pub items_printed : Style → List Item → List ℕ
items_printed style xs = flat_map (λ x. printed style (value_in x)) xs

-- These items of a run were printed.
pub record IsTurning (style : Style) (done : List Item) (old new : OutputBuffers) (o p : Outputs) : Type 0 where
  pub output : IsSent old.printed.items new.printed.items o.output p.output (items_printed style done)
  pub errors : IsSent old.reported.items new.reported.items o.errors p.errors []
  pub failed : new.failed ≡ old.failed
  pub last : last_of new.last ≡ last_after_items (last_of old.last) done

pub turning_none : (style : Style) (a : OutputBuffers) (o : Outputs) → IsTurning style [] a a o o
turning_none style a o = record { output = sent_none a.printed.items o.output; errors = sent_none a.reported.items o.errors; failed = refl; last = refl }

one_more : (style : Style) (done : List Item) (x : Item) → items_printed style (done ++ x ∷ []) ≡ items_printed style done ++ printed style (value_in x)
one_more style done x = flat_map-append _ done (x ∷ []) ∙ ap (λ l. items_printed style done ++ l) (append-nil (printed style (value_in x)))

last_more : (last : Last) (done : List Item) (x : Item) → last_after_items last (done ++ x ∷ []) ≡ last_by (is_true (value_in x))
last_more last [] x = refl
last_more last (y ∷ done) x = last_more (last_by (is_true (value_in y))) done x

pub turning_on : (style : Style) (done : List Item) (x : Item) (v : Value) (a b c : OutputBuffers) (o p q : Outputs) → value_in x ≡ v → IsTurning style done a b o p
    → IsPrinted (printed style v) b c p q → last_of c.last ≡ last_by (is_true v) → IsTurning style (done ++ x ∷ []) a c o q
turning_on style done x v a b c o p q is g h last = record {
  output =
      subst (IsSent a.printed.items c.printed.items o.output q.output) (ap (λ w. items_printed style done ++ printed style w) (sym is) ∙ sym (one_more style done x))
      (sent_more _ _ _ _ _ _ _ _ g.output h.output);
  errors = sent_more _ _ _ _ _ _ [] [] g.errors h.errors;
  failed = h.failed ∙ g.failed;
  last = last ∙ ap (λ w. last_by (is_true w)) (sym is) ∙ sym (last_more (last_of a.last) done x);
}

-- ---- the run as its first items and the rest

-- after one more item
pub before_more : (r rest q : Run Item) (done : List Item) (x : Item) → r ≡ before done rest → rest ≡ before (x ∷ []) q → r ≡ before (done ++ x ∷ []) q
before_more r rest q done x e f = e ∙ ap (before done) f ∙ ap (λ xs. record { items = xs; ending = q.ending }) (sym (append_assoc done (x ∷ []) q.items))

run_printed : (style : Style) (done : List Item) (rest : Run Item) → runs_printed style (before done rest ∷ []) ≡ items_printed style done ++ items_printed style rest.items
run_printed style done rest = append-nil (items_printed style (done ++ rest.items)) ∙ flat_map-append _ done rest.items

-- ---- a run that was stopped

first_items : (style : Style) (done : List Item) (r rest : Run Item) (u v : List ℕ) (o p : Outputs) → r ≡ before done rest
    → IsSentFirst u v o.output p.output (items_printed style done) → IsSentFirst u v o.output p.output (runs_printed style (r ∷ []))
first_items style done r rest u v o p e g =
    subst (IsSentFirst u v o.output p.output) (sym (ap (λ s. runs_printed style (s ∷ [])) e ∙ run_printed style done rest))
    (sent_longer u v o.output p.output (items_printed style done) (items_printed style rest.items) g)

pub turning_stopped : (style : Style) (done : List Item) (r rest : Run Item) (a b : OutputBuffers) (o p : Outputs) → r ≡ before done rest → IsTurning style done a b o p → IsAnsweredFirst style (r ∷ []) a b o p
turning_stopped style done r rest a b o p e g = record {
  output = first_items style done r rest a.printed.items b.printed.items o p e (first_of_sent _ _ _ _ _ g.output);
  errors = first_sent _ _ _ _ [] (runs_reported (r ∷ [])) g.errors;
}

-- an output was not printed completely
pub print_stopped : (style : Style) (done : List Item) (x : Item) (v : Value) (r rest : Run Item) (a b c : OutputBuffers) (o p q : Outputs) → value_in x ≡ v → r ≡ before (done ++ x ∷ []) rest
    → IsTurning style done a b o p → IsPrintedFirst (printed style v) b c p q → IsAnsweredFirst style (r ∷ []) a c o q
print_stopped style done x v r rest a b c o p q is e g h = record {
  output =
      first_items style (done ++ x ∷ []) r rest a.printed.items c.printed.items o q e
      (subst (IsSentFirst a.printed.items c.printed.items o.output q.output) (ap (λ w. items_printed style done ++ printed style w) (sym is) ∙ sym (one_more style done x))
      (sent_then_first _ _ _ _ _ _ _ _ g.output h.output));
  errors = sent_longer _ _ _ _ [] (runs_reported (r ∷ [])) (sent_then_first _ _ _ _ _ _ [] [] g.errors h.errors);
}

-- the run ended, and its ending was not reported
pub report_stopped : (style : Style) (done : List Item) (r rest : Run Item) (a b c : OutputBuffers) (o p : Outputs) → r ≡ before done rest → IsTurning style done a b o p
    → c.printed.items ≡ b.printed.items → c.reported.items ≡ b.reported.items → IsAnsweredFirst style (r ∷ []) a c o p
report_stopped style done r rest a b c o p e g printed reported =
    let first = turning_stopped style done r rest a b o p e g in record {
      output = subst (λ w. IsSentFirst a.printed.items w o.output p.output (runs_printed style (r ∷ []))) (sym printed) first.output;
      errors = subst (λ w. IsSentFirst a.reported.items w o.errors p.errors (runs_reported (r ∷ []))) (sym reported) first.errors;
    }

-- ---- a run that ended

ended_answered : (style : Style) (done : List Item) (e : runs.Ending) (a b c : OutputBuffers) (o p : Outputs) → IsTurning style done a b o p → c.printed.items ≡ b.printed.items → c.last ≡ b.last
    → c.reported.items ≡ b.reported.items ++ ending_report e → c.failed ≡ (b.failed || is_failure e) → IsAnswered style (before done (ended e) ∷ []) a c o p
ended_answered style done e a b c o p g printed last reported failed = record {
  output =
      subst (IsSent a.printed.items c.printed.items o.output p.output) (sym (run_printed style done (ended e) ∙ append-nil (items_printed style done)))
      (subst (λ w. IsSent a.printed.items w o.output p.output (items_printed style done)) (sym printed) g.output);
  errors =
      subst (IsSent a.reported.items c.reported.items o.errors p.errors) (sym (append-nil (ending_report e)))
      (sent_more _ _ _ _ _ _ [] (ending_report e) g.errors (sent_added b.reported.items c.reported.items (ending_report e) p.errors reported));
  failed = failed ∙ ap (λ f. f || is_failure e) g.failed ∙ ap (λ f. a.failed || f) (sym (or-false (is_failure e)));
  last = ap last_of last ∙ g.last ∙ ap (last_after_items (last_of a.last)) (sym (append-nil done));
}

pub run_ended : (style : Style) (done : List Item) (e : runs.Ending) (r rest : Run Item) (a b c : OutputBuffers) (o p : Outputs) → r ≡ before done rest → rest ≡ ended e → IsTurning style done a b o p
    → c.printed.items ≡ b.printed.items → c.last ≡ b.last → c.reported.items ≡ b.reported.items ++ ending_report e → c.failed ≡ (b.failed || is_failure e)
    → IsAnswered style (r ∷ []) a c o p
run_ended style done e r rest a b c o p begun end g printed last reported failed =
    subst (λ s. IsAnswered style (s ∷ []) a c o p) (sym (begun ∙ ap (before done) end)) (ended_answered style done e a b c o p g printed last reported failed)

-- the status of its halt
pub halt_of_rest : (r rest : Run Item) (done : List Item) (e : runs.Ending) → r ≡ before done rest → rest ≡ ended e → first_halt (r ∷ []) ≡ halt_status e
halt_of_rest r rest done e begun end = one_halt r ∙ ap (λ (s : Run Item). halt_status s.ending) (begun ∙ ap (before done) end)
