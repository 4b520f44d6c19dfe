-- Runs on copies of values, one after the other.
use Rattle.std.proofs.Common.{◌≡◌, ℕ, ◌+◌, ◌<◌, ◌≤◌, List, [], ◌∷◌, ◌++◌, length, get_or, take, drop, map, Option, Some, None, sym, ap, ◌∙◌, subst, append-nil, append_assoc, arith}
use Rattle.std.specs.Io.KnownBytes.{Appends}
use Rattle.std.proofs.lemmas.List.{length-map, length-take-le, map-append, map_more, take-append-drop, take_all}
use Rattle.std.specs.Prelude.{unwrap_or}
use Rattle.jv_data.specs.Value.{Value}
use Rattle.jv_data.specs.View.{view}
use Rattle.jv_data.specs.declared.values.Val.{Val}
use Rattle.jv_text.specs.declared.printing.Style.{Style}
use Rattle.jq_meaning.specs.Runs.{Run, Item, none}
use Rattle.jq_filters.specs.Outcomes.{Job, end_status, first_halt, on_each, runs_reported, unless_halted, up_to_halt}
use Rattle.jq_filters.specs.Present.{run_count}
use Rattle.jq_stream.specs.Streams.{Outputs}
use Rattle.jq_filters.specs.Pieces.{last_of}
use Rattle.jq_filters.specs.private.Made.{EndsInHalt}
use Rattle.jq_stream.specs.private.Answering.{HasEmptyBuffers, IsAnswered, IsEmptied, IsFresh, IsWritten, runs_on}
use Rattle.jq_stream.specs.private.Valued.{IsValuesRun}
use Rattle.jq_stream.specs.declared.answers.OutputBuffers.{OutputBuffers}
use Rattle.jq_stream.proofs.Answering.{buffers_written, halted_more, one_halts, runs_both, status_of_runs, unhalted_more, values_more, whole_written}
use Rattle.jq_filters.proofs.shared.Halting.{cut_after, halts_still, made_before, none_halts, nothing_more, one_further, same_halt}

-- one more value is the copy of the next one
next_value : (values : List Val) (i : ℕ) (copy value : Val) → i < length values → value ≡ get_or values i value → view copy ≡ view value
    → map view (take i values) ++ view copy ∷ [] ≡ map view (take (i + 1) values)
next_value values i copy value below item same =
    ap (λ v. map view (take i values) ++ v ∷ []) (same ∙ ap view item) ∙ sym (map_more view values i value below)

pub answered_next : (job : Job) (style : Style) (values : List Val) (i : ℕ) (copy value : Val) (a b c : OutputBuffers) (o p q : Outputs) → i < length values → value ≡ get_or values i value → view copy ≡ view value
    → IsAnswered style (runs_on job (map view (take i values))) a b o p → IsAnswered style (runs_on job (view copy ∷ [])) b c p q → IsAnswered style (runs_on job (map view (take (i + 1) values))) a c o q
answered_next job style values i copy value a b c o p q below item same so_far next =
    subst (λ vs. IsAnswered style (runs_on job vs) a c o q) (next_value values i copy value below item same) (values_more job style _ _ a b c o p q so_far next)

-- these runs are those
pub answered_as : (style : Style) (rs ss : List (Run Item)) (a b : OutputBuffers) (o p : Outputs) → rs ≡ ss → IsAnswered style rs a b o p → IsAnswered style ss a b o p
answered_as style rs ss a b o p e h = subst (λ l. IsAnswered style l a b o p) e h

-- ---- halts

-- no run halts, on one value more
pub unhalted_next : (job : Job) (values : List Val) (i : ℕ) (copy value : Val) → i < length values → value ≡ get_or values i value → view copy ≡ view value
    → first_halt (runs_on job (map view (take i values))) ≡ None → first_halt (runs_on job (view copy ∷ [])) ≡ None → first_halt (runs_on job (map view (take (i + 1) values))) ≡ None
unhalted_next job values i copy value below item same so_far next =
    subst (λ vs. first_halt (runs_on job vs) ≡ None) (next_value values i copy value below item same) (unhalted_more job (map view (take i values)) (view copy ∷ []) so_far next)

-- the run on the next value halts
pub halted_next : (job : Job) (values : List Val) (i : ℕ) (copy value : Val) (halt : Option ℕ) (status : ℕ) → i < length values → value ≡ get_or values i value → view copy ≡ view value
    → first_halt (runs_on job (map view (take i values))) ≡ None → halt ≡ first_halt (runs_on job (view copy ∷ [])) → halt ≡ Some status
    → EndsInHalt status (runs_on job (map view (take (i + 1) values)))
halted_next job values i copy value halt status below item same so_far halts is =
    subst (λ vs. EndsInHalt status (runs_on job vs)) (next_value values i copy value below item same)
    (halted_more job (map view (take i values)) (view copy ∷ []) status so_far (one_halts job (view copy) halt status halts is))

-- the first values, and the others
taken : (job : Job) (values : List Val) (i : ℕ) → runs_on job (map view values) ≡ runs_on job (map view (take i values)) ++ runs_on job (map view (drop i values))
taken job values i = ap (λ vs. runs_on job (map view vs)) (sym (take-append-drop i values)) ∙ ap (runs_on job) (map-append view (take i values) (drop i values)) ∙ runs_both job (map view (take i values)) (map view (drop i values))

runs_taken : (job : Job) (values : List Val) (i : ℕ) → i ≤ length values → length (runs_on job (map view (take i values))) ≡ i
runs_taken job values i e = length-map (map view (take i values)) (job.run none) ∙ length-map (take i values) view ∙ length-take-le i values e

-- These are the runs that are made on all values.
pub record AreMade (job : Job) (values : List Val) (i status : ℕ) : Type 0 where
  pub made : runs_on job (map view (take i values)) ≡ up_to_halt (runs_on job (map view values))
  pub halt : Some status ≡ first_halt (runs_on job (map view values))
  pub runs : i ≡ run_count on_each job (map view values)

pub halted_at : (job : Job) (values : List Val) (i status : ℕ) → i ≤ length values → EndsInHalt status (runs_on job (map view (take i values))) → AreMade job values i status
halted_at job values i status within h =
    let rs = runs_on job (map view (take i values)) in
    let ss = runs_on job (map view (drop i values)) in
    let cut = ap up_to_halt (taken job values i) ∙ cut_after rs ss status h in
    record {
      made = sym cut;
      halt = sym (ap first_halt (taken job values i) ∙ halts_still rs ss status h.halts);
      runs = sym (ap length cut ∙ runs_taken job values i within);
    }

-- no run halted, so all were made
pub all_made : (job : Job) (values : List Val) (i : ℕ) → length values ≤ i → first_halt (runs_on job (map view (take i values))) ≡ None
    → (runs_on job (map view (take i values)) ≡ up_to_halt (runs_on job (map view values))) × (None ≡ first_halt (runs_on job (map view values))) × (length values ≡ run_count on_each job (map view values))
all_made job values i end no_halt =
    let rs = runs_on job (map view values) in
    let same : runs_on job (map view (take i values)) ≡ rs = ap (λ vs. runs_on job (map view vs)) (take_all i values end) in
    let all_unhalted : first_halt rs ≡ None = ap first_halt (sym same) ∙ no_halt in
    let made = none_halts rs all_unhalted in
    (same ∙ sym made, sym all_unhalted, sym (ap length made ∙ length-map (map view values) (job.run none) ∙ length-map values view))

-- as many runs are made at least
pub runs_at_least : (job : Job) (values : List Val) (i : ℕ) → i ≤ length values → first_halt (runs_on job (map view (take i values))) ≡ None → i ≤ run_count on_each job (map view values)
runs_at_least job values i within no_halt =
    let rs = runs_on job (map view (take i values)) in
    let ss = runs_on job (map view (drop i values)) in
    let count : run_count on_each job (map view values) ≡ length (up_to_halt (rs ++ ss)) = ap (λ l. length (up_to_halt l)) (taken job values i) in
    let made = made_before rs ss no_halt in
    let taken = runs_taken job values i within in
    omega (arith, count, made, taken)

-- and the next one
pub next_run_made : (job : Job) (values : List Val) (i : ℕ) (copy value : Val) → i < length values → value ≡ get_or values i value → view copy ≡ view value
    → first_halt (runs_on job (map view (take i values))) ≡ None → i + 1 ≤ run_count on_each job (map view values)
next_run_made job values i copy value below item same no_halt =
    let rs = runs_on job (map view (take i values)) in
    let ss = runs_on job (map view (drop (i + 1) values)) in
    let v = view copy in
    let split : runs_on job (map view (take (i + 1) values)) ≡ rs ++ job.run none v ∷ [] =
    ap (runs_on job) (sym (next_value values i copy value below item same)) ∙ runs_both job (map view (take i values)) (v ∷ []) in
    let all : runs_on job (map view values) ≡ rs ++ job.run none v ∷ ss = taken job values (i + 1) ∙ ap (λ l. l ++ ss) split ∙ append_assoc rs (job.run none v ∷ []) ss in
    let count : run_count on_each job (map view values) ≡ length (up_to_halt (rs ++ job.run none v ∷ ss)) = ap (λ l. length (up_to_halt l)) all in
    let further = one_further rs (job.run none v) ss no_halt in
    let taken = runs_taken job values i (omega arith) in
    omega (arith, count, further, taken)

-- ---- the outcome

-- the runs that are made were answered, and what they write was written
pub values_ran : (job : Job) (values : List Value) (a b c : OutputBuffers) (o p q : Outputs) (halt : Option ℕ) (status answer runs : ℕ) → HasEmptyBuffers a → IsFresh a
    → IsAnswered job.style (up_to_halt (runs_on job values)) a b o p → halt ≡ first_halt (runs_on job values) → runs ≡ run_count on_each job values → IsWritten b p q
    → IsEmptied b c → status ≡ end_status job.exit c.failed (last_of c.last)
    → answer ≡ unwrap_or halt status → IsValuesRun on_each job values o q (answer, runs)
values_ran job values a b c o p q halt status answer runs empty fresh answered halts count flushed emptied is by =
    let rs = up_to_halt (runs_on job values) in
    let all = buffers_written job.style rs a b c o p q answered flushed emptied in
    let written = whole_written job.style rs a c o q empty emptied.empty all in
    let same : halt ≡ first_halt rs = halts ∙ sym (same_halt (runs_on job values)) in
    let reports : runs_reported rs ++ unless_halted (first_halt rs) [] ≡ runs_reported rs = ap (λ l. runs_reported rs ++ l) (nothing_more (first_halt rs)) ∙ append-nil (runs_reported rs) in
    record {
      written = record { output = written.0; errors = subst (Appends o.errors q.errors) (sym reports) written.1 };
      status = by ∙ ap (λ h. unwrap_or h status) same ∙ ap (unwrap_or (first_halt rs)) (status_of_runs job.exit job.style rs a c o q status fresh all is);
      runs = count;
    }
