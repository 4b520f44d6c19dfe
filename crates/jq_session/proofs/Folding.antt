-- A filter that folds its inputs stands on the pages of its fold.
use Rattle.std.proofs.Common.{◌≡◌, true, sym, ap, ap₂, ◌∙◌, subst}
use Rattle.jq_folds.specs.Pieces.{FoldState}
use Rattle.jq_fold_steps.specs.Filters.{filter_fold}
use Rattle.jq_fold_steps.specs.laws.Compiled.{CompiledFoldsWriteOutcomes}
use Rattle.jq_fold_steps.specs.laws.Outcomes.{IsOutcome}
use Rattle.jq_inputs.specs.Plans.{view_of}
use Rattle.jq_pages.specs.Contents.{folded_in}
use Rattle.jq_pages.specs.Folds.{Fold, Rises}
use Rattle.jq_filters.specs.Filters.{filter_job, filter_mode}
use Rattle.jq_filters.specs.Outcomes.{on_null}
use Rattle.jq_filters.specs.Present.{values_outcome}
use Rattle.jq_filters.specs.declared.filters.Filter.{Filter}
use Rattle.jq_tree.specs.Filter as filter
use Rattle.jq_session.specs.Splices.{IsPut, PutsChange}
use Rattle.jq_session.specs.Starts.{AllowedMove, AllowedStarts, first_starts}
use Rattle.jq_session.specs.States.{filter_plan, fold, plan_in, state_in}
use Rattle.jq_session.specs.private.Kept.{Serves}
use Rattle.jq_session.proofs.OnPages.{move_rises}

serves_fold : CompiledFoldsWriteOutcomes → (f : Filter) → filter_mode f ≡ on_null true → view_of f.plan ≡ filter.fold → Serves f (filter_fold f)
serves_fold law f mode planned =
    let x = filter_fold f in
    let plan : filter_plan f ≡ fold x = ap₂ (λ m p. plan_in m p f.halts x) mode planned in
    record {
      writes = λ vs. subst (λ m. IsOutcome f.settings.exit (folded_in x vs) (values_outcome m (filter_job f) vs)) (sym mode) (law f vs planned);
      first = λ vs a b h. subst (λ p. Rises a b (first_starts p (state_in f vs))) (sym plan) h.rises;
      starts = λ edit vs ws a b h. subst (λ p. AllowedStarts p edit (state_in f vs) (state_in f ws) a b) (sym plan) h.rises;
      moves = λ k l vs ws a b r.
          subst (λ p. AllowedMove p k l (state_in f vs) (state_in f ws) a b) (sym plan) (move_rises f x k l vs ws a b r);
      puts = λ edit vs ws c w is change puts.
          let put : PutsChange w edit (folded_in x vs) (folded_in x ws) = record { change = c; is_change = change; pieces = puts } in
          subst (λ p. IsPut p edit w (state_in f vs) (state_in f ws)) (sym plan) ∣ put ∣₁;
    }

-- its session and its steps share the filter
pub fold_served : CompiledFoldsWriteOutcomes → (f g h : Filter) (x : Fold FoldState) → filter_mode f ≡ on_null true → view_of f.plan ≡ filter.fold → g ≡ f → h ≡ f → x ≡ filter_fold h → ∥ Serves g x ∥₁
fold_served law f g h x mode planned e d is =
    subst (λ r. ∥ Serves g r ∥₁) (sym (is ∙ ap (λ (y : Filter). filter_fold y) d))
    (subst (λ (y : Filter). ∥ Serves y (filter_fold f) ∥₁) (sym e) ∣ serves_fold law f mode planned ∣₁)
