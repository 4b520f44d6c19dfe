-- What the runs on inputs write, input by input.
use Rattle.std.proofs.Common.{◌≡◌, ℕ, ◌+◌, ◌<◌, ◌||◌, nat_lt, Bool, true, false, if◌then◌else◌, List, [], ◌∷◌, ◌++◌, length, map, Option, Some, None, refl, sym, ap, ap₂, ◌∙◌, subst, zero-add, append-nil, arith}
use Rattle.std.specs.List.{flat_map}
use Rattle.std.specs.Option.{option_or}
use Rattle.std.specs.Prelude.{unwrap_or}
use Rattle.std.specs.Io.KnownBytes.{Appends}
use Rattle.std.proofs.lemmas.Bool.{lt-ltb}
use Rattle.std.proofs.lemmas.List.{length-map}
use Rattle.jv_data.specs.Value.{Value}
use Rattle.jv_text.specs.declared.printing.Style.{Style}
use Rattle.jq_natives.specs.Answers.{is_true}
use Rattle.jq_meaning.specs.Runs.{Run, Item, none, value_in}
use Rattle.jq_pages.specs.Contents.{folded_in}
use Rattle.jq_pages.specs.Folds.{all, errors, output, pieces_after}
use Rattle.jq_pages.specs.Pieces.{PieceView, piece_view}
use Rattle.jq_pages.specs.Totals.{earlier, later, totals}
use Rattle.jq_pages.specs.declared.pieces.Last.{Last}
use Rattle.jq_pages.specs.declared.pieces.Last.TheVariants as last
use Rattle.jq_pages.specs.declared.pieces.Piece.{Piece}
use Rattle.jq_filters.specs.Outcomes.{Job, on_each, printed_of, ending_report, is_failure, halt_status, runs_printed, runs_reported, any_failure, last_by, last_item, last_output, nothing, falsy, truthy, end_status, first_halt, up_to_halt, unless_halted}
use Rattle.jq_filters.specs.Outcomes as outcomes
use Rattle.jq_filters.specs.Pieces.{each_fold, last_in, last_of, no_piece, piece_of, status_in}
use Rattle.jq_filters.specs.Present.{run_count, values_outcome}
use Rattle.jq_stream.specs.Streams.{Outputs}
use Rattle.jq_filters.specs.Unhalted.{NeverHalts}
use Rattle.jq_stream.specs.private.Answering.{HasEmptyBuffers, IsAnswered, IsEmptied, IsFresh, IsWritten, last_after}
use Rattle.jq_stream.specs.declared.answers.OutputBuffers.{OutputBuffers}
use Rattle.jq_stream.proofs.Answering.{buffers_written, whole_written}
use Rattle.jq_filters.proofs.shared.Halting.{none_halts, nothing_more, one_halt}
use Rattle.jq_stream.proofs.LastOutputs.{last_from_none}

-- ---- the last output

pub last_again : (l : outcomes.Last) → last_of (last_in l) ≡ l
last_again nothing = refl
last_again falsy = refl
last_again truthy = refl

pub last_back : (l : Last) → last_in (last_of l) ≡ l
last_back last.Nothing = refl
last_back last.Falsy = refl
last_back last.Truthy = refl

later_nothing : (l : Last) → later last.Nothing l ≡ l
later_nothing last.Nothing = refl
later_nothing last.Falsy = refl
later_nothing last.Truthy = refl

later_by : (b : Bool) (l : Last) → later l (last_in (last_by b)) ≡ last_in (last_by b)
later_by true l = refl
later_by false l = refl

later_some : (x : Item) (xs : List Item) (l : Last) → later l (last_in (last_item (x ∷ xs))) ≡ last_in (last_item (x ∷ xs))
later_some x [] l = later_by (is_true (value_in x)) l
later_some x (y ∷ ys) l = later_some y ys l

last_behind : (xs : List Item) (y : Item) (ys : List Item) → last_item (xs ++ y ∷ ys) ≡ last_item (y ∷ ys)
last_behind [] y ys = refl
last_behind (x ∷ []) y ys = refl
last_behind (x ∷ z ∷ zs) y ys = last_behind (z ∷ zs) y ys

last_both : (xs ys : List Item) → last_in (last_item (xs ++ ys)) ≡ later (last_in (last_item xs)) (last_in (last_item ys))
last_both xs [] = ap (λ l. last_in (last_item l)) (append-nil xs)
last_both xs (y ∷ ys) = ap last_in (last_behind xs y ys) ∙ sym (later_some y ys (last_in (last_item xs)))

-- ---- the pieces

abbrev runs : Job → List Value → List (Run Item)
runs job vs = map (job.run none) vs

-- those of the inputs and of the end
abbrev ended : Job → List Value → List PieceView
ended job vs = pieces_after (each_fold job) tt vs ++ no_piece ∷ []

printed_in : (job : Job) (vs : List Value) → flat_map (λ p. p.out) (ended job vs) ≡ runs_printed job.style (runs job vs)
printed_in job [] = refl
printed_in job (v ∷ vs) = ap (λ l. printed_of job.style (job.run none v) ++ l) (printed_in job vs)

reported_in : (job : Job) (vs : List Value) → flat_map (λ p. p.err) (ended job vs) ≡ runs_reported (runs job vs)
reported_in job [] = refl
reported_in job (v ∷ vs) = ap (λ l. ending_report (job.run none v).ending ++ l) (reported_in job vs)

lasts_in : (job : Job) (vs : List Value) → (totals (ended job vs)).last ≡ last_in (last_output (runs job vs))
lasts_in job [] = refl
lasts_in job (v ∷ vs) =
    let r = job.run none v in
    ap (later (last_in (last_item r.items))) (lasts_in job vs) ∙ sym (last_both r.items (flat_map (λ s. s.items) (runs job vs)))

failed_first : (b : Bool) (n : ℕ) → nat_lt 0 ((if b then 1 else 0) + n) ≡ (b || nat_lt 0 n)
failed_first true n = lt-ltb 0 (1 + n) (omega arith)
failed_first false n = ap (nat_lt 0) (zero-add n)

failed_in : (job : Job) (vs : List Value) → nat_lt 0 (totals (ended job vs)).failed ≡ any_failure (runs job vs)
failed_in job [] = refl
failed_in job (v ∷ vs) =
    let b = is_failure (job.run none v).ending in
    failed_first b (totals (ended job vs)).failed ∙ ap (λ c. b || c) (failed_in job vs)

-- ---- no run halts

none_halt : (job : Job) (vs : List Value) → NeverHalts job.run → first_halt (runs job vs) ≡ None
none_halt job [] h = refl
none_halt job (v ∷ vs) h = ap (λ o. option_or o (first_halt (runs job vs))) (h none v refl) ∙ none_halt job vs h

all_made : (job : Job) (vs : List Value) → NeverHalts job.run → up_to_halt (runs job vs) ≡ runs job vs
all_made job vs h = none_halts (runs job vs) (none_halt job vs h)

earlier_is : (o p : Option ℕ) → earlier o p ≡ option_or o p
earlier_is None p = refl
earlier_is (Some status) p = refl

halts_in : (job : Job) (vs : List Value) → (totals (ended job vs)).halt ≡ first_halt (runs job vs)
halts_in job [] = refl
halts_in job (v ∷ vs) =
    earlier_is (halt_status (job.run none v).ending) (totals (ended job vs)).halt ∙ ap (option_or (halt_status (job.run none v).ending)) (halts_in job vs)

-- ---- the outcome

pub pieces_printed : (job : Job) (vs : List Value) → NeverHalts job.run → output (folded_in (each_fold job) vs) ≡ (values_outcome on_each job vs).output
pieces_printed job vs h = printed_in job vs ∙ sym (ap (runs_printed job.style) (all_made job vs h))

pub pieces_reported : (job : Job) (vs : List Value) → NeverHalts job.run → errors (folded_in (each_fold job) vs) ≡ (values_outcome on_each job vs).errors
pieces_reported job vs h =
    let rs = up_to_halt (runs job vs) in
    reported_in job vs ∙ sym (ap (λ l. runs_reported rs ++ l) (nothing_more (first_halt rs)) ∙ append-nil (runs_reported rs) ∙ ap runs_reported (all_made job vs h))

pub pieces_status : (job : Job) (vs : List Value) → NeverHalts job.run → status_in job.exit (totals (all (folded_in (each_fold job) vs))) ≡ (values_outcome on_each job vs).status
pieces_status job vs h =
    let t = totals (ended job vs) in
    let rs = runs job vs in
    let failed : nat_lt 0 (0 + t.failed) ≡ any_failure rs = ap (nat_lt 0) (zero-add t.failed) ∙ failed_in job vs in
    let last : last_of (later last.Nothing t.last) ≡ last_output rs = ap last_of (later_nothing t.last ∙ lasts_in job vs) ∙ last_again (last_output rs) in
    ap₂ (λ f l. unwrap_or t.halt (end_status job.exit f l)) failed last
    ∙ ap (λ o. unwrap_or o (end_status job.exit (any_failure rs) (last_output rs))) (halts_in job vs ∙ none_halt job vs h)
    ∙ sym (
    ap (λ l. unwrap_or (first_halt l) (end_status job.exit (any_failure l) (last_output l))) (all_made job vs h)
    ∙ ap (λ o. unwrap_or o (end_status job.exit (any_failure rs) (last_output rs))) (none_halt job vs h)
    )

pub pieces_counted : (job : Job) (vs : List Value) → NeverHalts job.run → run_count on_each job vs ≡ length vs
pieces_counted job vs h = ap length (all_made job vs h) ∙ length-map vs (job.run none)

-- ---- the piece of one run

abbrev view_of : (out err : List ℕ) (l : Last) (failed : Bool) (halt : Option ℕ) → PieceView
view_of out err l failed halt = record { out = out; err = err; last = l; failed = failed; halt = halt }

-- what is on a writer that was empty
written_from_none : (o q : Option (List ℕ)) (items bytes : List ℕ) → o ≡ Some [] → q ≡ Some items → Appends o q bytes → items ≡ bytes
written_from_none o q items bytes d e h = let same : Appends (Some []) (Some items) bytes = subst (λ x. Appends (Some []) x bytes) e (subst (λ x. Appends x q bytes) d h) in same

or_false : (b : Bool) → (b || false) ≡ b
or_false true = refl
or_false false = refl

pub piece_made : (style : Style) (r : Run Item) (a b c : OutputBuffers) (o p q : Outputs) (w : Piece) → HasEmptyBuffers a → IsFresh a → IsAnswered style (r ∷ []) a b o p
    → IsWritten b p q → IsEmptied b c → o.output ≡ Some [] → o.errors ≡ Some []
    → q.output ≡ Some w.out.items → q.errors ≡ Some w.err.items → w.last ≡ c.last → w.failed ≡ c.failed → w.halt ≡ first_halt (r ∷ []) → piece_view w ≡ piece_of style r
unfolding piece_view
piece_made style r a b c o p q w empty fresh answered flushed emptied old_out old_err new_out new_err same_last same_failed same_halt =
    let all = buffers_written style (r ∷ []) a b c o p q answered flushed emptied in
    let written = whole_written style (r ∷ []) a c o q empty emptied.empty all in
    let out : w.out.items ≡ printed_of style r = written_from_none o.output q.output w.out.items (runs_printed style (r ∷ [])) old_out new_out written.0 ∙ append-nil (printed_of style r) in
    let err : w.err.items ≡ ending_report r.ending = written_from_none o.errors q.errors w.err.items (runs_reported (r ∷ [])) old_err new_err written.1 ∙ append-nil (ending_report r.ending) in
    let fails : w.failed ≡ is_failure r.ending = same_failed ∙ all.failed ∙ ap (λ f. f || any_failure (r ∷ [])) fresh.failed ∙ or_false (is_failure r.ending) in
    let outputs : last_of c.last ≡ last_item r.items = all.last ∙ ap (λ l. last_after l (r ∷ [])) fresh.last ∙ last_from_none (r ∷ []) ∙ ap last_item (append-nil r.items) in
    let lasts : w.last ≡ last_in (last_item r.items) = same_last ∙ sym (last_back c.last) ∙ ap last_in outputs in
    let halts : w.halt ≡ halt_status r.ending = same_halt ∙ one_halt r in
    ap₂ (λ x y. view_of x y w.last w.failed w.halt) out err
    ∙ ap₂ (λ l f. view_of (printed_of style r) (ending_report r.ending) l f w.halt) lasts fails
    ∙ ap (view_of (printed_of style r) (ending_report r.ending) (last_in (last_item r.items)) (is_failure r.ending)) halts
