-- On each input by itself a session stands on the pages of a fold whose states are all equal.
use Rattle.std.proofs.Common.{◌≡◌, List, [], ◌∷◌, ◌++◌, Bool, true, false, IsFalse, map, take, drop, length, Ok, refl, sym, ap, ap₂, ◌∙◌, subst, append-nil}
use Rattle.std.proofs.lemmas.List.{take-map, drop-map}
use Rattle.std.specs.List.{flat_map}
use Rattle.jv_data.specs.Value.{Value}
use Rattle.jq_fold_steps.specs.Filters.{filter_fold}
use Rattle.jq_fold_steps.specs.laws.Outcomes.{IsOutcome}
use Rattle.jq_inputs.specs.Plans.{view_of}
use Rattle.jq_meaning.specs.Runs.{none}
use Rattle.jq_pages.specs.Changes.{IsOne}
use Rattle.jq_pages.specs.Contents.{folded_in}
use Rattle.jq_pages.specs.Edits.{Edit, insert, replace, remove, added, place, edited}
use Rattle.jq_pages.specs.Folds.{Folded, Rises, all, errors, output, pieces, pieces_after, tail}
use Rattle.jq_pages.specs.Pieces.{PieceView}
use Rattle.jq_pages.specs.Splices.{came, closing}
use Rattle.jq_pages.specs.Totals.{totals}
use Rattle.jq_pages.specs.declared.changes.Change.{Change}
use Rattle.jq_filters.specs.Filters.{filter_job, filter_mode}
use Rattle.jq_filters.specs.Outcomes.{Job, on_each, printed_of, ending_report}
use Rattle.jq_filters.specs.Pieces.{each_fold, piece_of, status_in}
use Rattle.jq_filters.specs.Present.{run_count, values_outcome}
use Rattle.jq_filters.specs.Unhalted.{NeverHalts}
use Rattle.jq_filters.specs.declared.filters.Filter.{Filter}
use Rattle.jq_session.specs.Splices.{IsPut, written_for}
use Rattle.jq_session.specs.Starts.{AllowedMove, AllowedStarts, first_starts}
use Rattle.jq_session.specs.States.{each, filter_plan, plan_in, state_in}
use Rattle.jq_session.specs.private.Kept.{Serves}
use Rattle.jq_session.proofs.Inputs.{put_in, put_there}

-- ---- what is written

abbrev pub OutputLaw : Type 0
OutputLaw = (job : Job) (vs : List Value) → NeverHalts job.run → output (folded_in (each_fold job) vs) ≡ (values_outcome on_each job vs).output

abbrev pub ErrorsLaw : Type 0
ErrorsLaw = (job : Job) (vs : List Value) → NeverHalts job.run → errors (folded_in (each_fold job) vs) ≡ (values_outcome on_each job vs).errors

abbrev pub StatusLaw : Type 0
StatusLaw = (job : Job) (vs : List Value) → NeverHalts job.run → status_in job.exit (totals (all (folded_in (each_fold job) vs))) ≡ (values_outcome on_each job vs).status

abbrev pub RunsLaw : Type 0
RunsLaw = (job : Job) (vs : List Value) → NeverHalts job.run → run_count on_each job vs ≡ length vs

-- ---- the pieces that an edit puts in

pieces_each : (job : Job) (vs : List Value) → pieces_after (each_fold job) tt vs ≡ map (λ v. piece_of job.style (job.run none v)) vs
pieces_each job [] = refl
pieces_each job (v ∷ vs) = ap (λ ps. piece_of job.style (job.run none v) ∷ ps) (pieces_each job vs)

-- the piece of the input that an edit puts in
came_each : (job : Job) (edit : Edit) (vs ys : List Value) → edited edit vs ≡ Ok ys
    → take (added edit) (drop (place edit) (pieces_after (each_fold job) tt ys)) ≡ map (λ v. piece_of job.style (job.run none v)) (put_in edit)
came_each job edit vs ys e =
    let f = λ (v : Value). piece_of job.style (job.run none v) in
    ap (λ ps. take (added edit) (drop (place edit) ps)) (pieces_each job ys)
    ∙ ap (take (added edit)) (drop-map f (place edit) ys)
    ∙ take-map f (added edit) (drop (place edit) ys)
    ∙ ap (map f) (put_there edit vs ys e)

not_closed : (b : Bool) (p : PieceView) → IsFalse b → closing b p ≡ []
not_closed false p h = refl
not_closed true p h = cc

came_all : (job : Job) (edit : Edit) (x y : Folded (Unit {0})) (c : Change) → y.fold ≡ each_fold job → edited edit x.inputs ≡ Ok y.inputs → IsOne c edit
    → came c y ≡ map (λ v. piece_of job.style (job.run none v)) (put_in edit)
came_all job edit x y c e made one =
    ap (λ ps. take c.put (drop c.from (pieces y)) ++ ps) (not_closed c.closed (tail y) one.not_closed)
    ∙ append-nil (take c.put (drop c.from (pieces y)))
    ∙ ap₂ (λ m n. take m (drop n (pieces y))) one.put one.from
    ∙ ap (λ f. take (added edit) (drop (place edit) (pieces (folded_in f y.inputs)))) e
    ∙ came_each job edit x.inputs y.inputs made

printed_for : (job : Job) (edit : Edit) → flat_map (λ p. p.out) (map (λ v. piece_of job.style (job.run none v)) (put_in edit)) ≡ written_for (printed_of job.style) job edit
printed_for job (insert k v) = append-nil (printed_of job.style (job.run none v))
printed_for job (replace k v) = append-nil (printed_of job.style (job.run none v))
printed_for job (remove k) = refl

reported_for : (job : Job) (edit : Edit) → flat_map (λ p. p.err) (map (λ v. piece_of job.style (job.run none v)) (put_in edit)) ≡ written_for (λ r. ending_report r.ending) job edit
reported_for job (insert k v) = append-nil (ending_report (job.run none v).ending)
reported_for job (replace k v) = append-nil (ending_report (job.run none v).ending)
reported_for job (remove k) = refl

-- ---- a filter on each input

serves_each : OutputLaw → ErrorsLaw → StatusLaw → RunsLaw → (f : Filter) → filter_mode f ≡ on_each → f.halts ≡ false → Serves f (each_fold (filter_job f))
serves_each out_law err_law status_law runs_law f mode halts =
    let job = filter_job f in
    let never : NeverHalts job.run = f.unhalting halts in
    let plan : filter_plan f ≡ each = ap₂ (λ m h. plan_in m (view_of f.plan) h (filter_fold f)) mode halts in
    record {
      writes = λ vs.
          subst (λ m. IsOutcome f.settings.exit (folded_in (each_fold job) vs) (values_outcome m job vs)) (sym mode)
          (record { output = out_law job vs never; errors = err_law job vs never; status = status_law job vs never });
      first = λ vs a b h.
          subst (λ p. Rises a b (first_starts p (state_in f vs))) (sym plan)
          (subst (λ m. Rises a b (run_count m job vs)) (sym mode) (subst (Rises a b) (sym (runs_law job vs never)) (h.plain refl)));
      starts = λ edit vs ws a b h. subst (λ p. AllowedStarts p edit (state_in f vs) (state_in f ws) a b) (sym plan) (h.plain refl);
      moves = λ k l vs ws a b h. subst (λ p. AllowedMove p k l (state_in f vs) (state_in f ws) a b) (sym plan) (h.plain refl);
      puts = λ edit vs ws c w is change puts.
          let came_are = came_all job edit (folded_in (each_fold job) vs) (folded_in (each_fold job) ws) c refl is (change.plain refl) in
          subst (λ p. IsPut p edit w (state_in f vs) (state_in f ws)) (sym plan)
          (record { out = puts.out ∙ ap (flat_map (λ p. p.out)) came_are ∙ printed_for job edit; err = puts.err ∙ ap (flat_map (λ p. p.err)) came_are ∙ reported_for job edit });
    }

-- its session and its steps share the filter
pub each_served : OutputLaw → ErrorsLaw → StatusLaw → RunsLaw → (f g h : Filter) → filter_mode f ≡ on_each → f.halts ≡ false → g ≡ f → h ≡ f → ∥ Serves g (each_fold (filter_job h)) ∥₁
each_served out_law err_law status_law runs_law f g h mode halts e d =
    subst (λ (y : Filter). ∥ Serves g (each_fold (filter_job y)) ∥₁) (sym d)
    (subst (λ (y : Filter). ∥ Serves y (each_fold (filter_job f)) ∥₁) (sym e) ∣ serves_each out_law err_law status_law runs_law f mode halts ∣₁)
