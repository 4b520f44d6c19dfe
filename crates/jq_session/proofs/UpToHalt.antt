-- A filter on each input that may halt stands on the pages of a fold with two states.
use Rattle.std.proofs.Common.{◌≡◌, ℕ, ◌+◌, ◌||◌, nat_lt, Bool, true, false, IsFalse, if◌then◌else◌, is_some, List, [], ◌∷◌, ◌++◌, map, Option, Some, None, refl, sym, ap, ap₂, ◌∙◌, subst, zero-add, append-nil, arith}
use Rattle.std.specs.List.{flat_map}
use Rattle.std.specs.Option.{option_or}
use Rattle.std.specs.Prelude.{unwrap_or}
use Rattle.std.proofs.lemmas.Bool.{lt-ltb}
use Rattle.jv_data.specs.Value.{Value}
use Rattle.jq_fold_steps.specs.Filters.{filter_fold}
use Rattle.jq_fold_steps.specs.laws.Outcomes.{IsOutcome}
use Rattle.jq_inputs.specs.Plans.{view_of}
use Rattle.jq_meaning.specs.Runs.{Run, Item, none}
use Rattle.jq_pages.specs.Contents.{folded_in}
use Rattle.jq_pages.specs.Folds.{Rises, errors, output, pieces_after}
use Rattle.jq_pages.specs.Pieces.{PieceView}
use Rattle.jq_pages.specs.Totals.{earlier, later, totals}
use Rattle.jq_pages.specs.declared.pieces.Last.{Last}
use Rattle.jq_pages.specs.declared.pieces.Last.TheVariants as last
use Rattle.jq_filters.specs.Filters.{filter_job, filter_mode}
use Rattle.jq_filters.specs.Outcomes.{Job, on_each, printed_of, ending_report, is_failure, halt_status, runs_printed, runs_reported, any_failure, last_by, last_item, last_output, nothing, falsy, truthy, end_status, first_halt, up_to_halt, unless_halted}
use Rattle.jq_filters.specs.Outcomes as outcomes
use Rattle.jq_filters.specs.Pieces.{last_in, last_of, no_piece, piece_of}
use Rattle.jq_filters.specs.Present.{values_outcome}
use Rattle.jq_filters.specs.declared.filters.Filter.{Filter}
use Rattle.jq_session.specs.Halting.{halting_fold, halting_step}
use Rattle.jq_session.specs.Splices.{IsPut, PutsChange}
use Rattle.jq_session.specs.Starts.{AllowedMove, AllowedStarts, first_starts}
use Rattle.jq_session.specs.States.{filter_plan, plan_in, state_in, until_halt}
use Rattle.jq_session.specs.private.Kept.{Serves}
use Rattle.jq_session.proofs.OnPages.{move_rises}

-- ---- a step

-- the state after the run on an input
pub halts_after_run : (job : Job) (halted : Bool) (v : Value) (p : PieceView) → IsFalse halted → p ≡ piece_of job.style (job.run none v) → is_some p.halt ≡ (halting_step job halted v).1
halts_after_run job true v p h e = cc
halts_after_run job false v p h e = ap (λ (q : PieceView). is_some q.halt) e

-- ---- the last output

last_again : (l : outcomes.Last) → last_of (last_in l) ≡ l
last_again nothing = refl
last_again falsy = refl
last_again truthy = refl

later_nothing : (l : Last) → later last.Nothing l ≡ l
later_nothing last.Nothing = refl
later_nothing last.Falsy = refl
later_nothing last.Truthy = refl

later_by : (b : Bool) (l : Last) → later l (last_in (last_by b)) ≡ last_in (last_by b)
later_by true l = refl
later_by false l = refl

later_some : (x : Item) (xs : List Item) (l : Last) → later l (last_in (last_item (x ∷ xs))) ≡ last_in (last_item (x ∷ xs))
later_some x [] l = later_by _ l
later_some x (y ∷ ys) l = later_some y ys l

last_behind : (xs : List Item) (y : Item) (ys : List Item) → last_item (xs ++ y ∷ ys) ≡ last_item (y ∷ ys)
last_behind [] y ys = refl
last_behind (x ∷ []) y ys = refl
last_behind (x ∷ z ∷ zs) y ys = last_behind (z ∷ zs) y ys

last_both : (xs ys : List Item) → last_in (last_item (xs ++ ys)) ≡ later (last_in (last_item xs)) (last_in (last_item ys))
last_both xs [] = ap (λ l. last_in (last_item l)) (append-nil xs)
last_both xs (y ∷ ys) = ap last_in (last_behind xs y ys) ∙ sym (later_some y ys (last_in (last_item xs)))

-- ---- the pieces of the inputs and of the end

abbrev ended : Job → Bool → List Value → List PieceView
ended job halted vs = pieces_after (halting_fold job) halted vs ++ no_piece ∷ []

abbrev made : Job → List Value → List (Run Item)
made job vs = up_to_halt (map (job.run none) vs)

-- those after a run, which are none if it halted
abbrev rest : Job → Option ℕ → List Value → List (Run Item)
rest job halt vs = unless_halted halt (made job vs)

printed_halted : (job : Job) (vs : List Value) → flat_map (λ p. p.out) (ended job true vs) ≡ []
printed_halted job [] = refl
printed_halted job (v ∷ vs) = printed_halted job vs

reported_halted : (job : Job) (vs : List Value) → flat_map (λ p. p.err) (ended job true vs) ≡ []
reported_halted job [] = refl
reported_halted job (v ∷ vs) = reported_halted job vs

last_halted : (job : Job) (vs : List Value) → (totals (ended job true vs)).last ≡ last.Nothing
last_halted job [] = refl
last_halted job (v ∷ vs) = later_nothing (totals (ended job true vs)).last ∙ last_halted job vs

failed_halted : (job : Job) (vs : List Value) → (totals (ended job true vs)).failed ≡ 0
failed_halted job [] = refl
failed_halted job (v ∷ vs) = zero-add (totals (ended job true vs)).failed ∙ failed_halted job vs

halt_halted : (job : Job) (vs : List Value) → (totals (ended job true vs)).halt ≡ None
halt_halted job [] = refl
halt_halted job (v ∷ vs) = halt_halted job vs

printed_after : (job : Job) (halt : Option ℕ) (vs : List Value) → flat_map (λ p. p.out) (ended job (is_some halt) vs) ≡ runs_printed job.style (rest job halt vs)
printed_after job None [] = refl
printed_after job None (v ∷ vs) = ap (λ l. printed_of job.style (job.run none v) ++ l) (printed_after job (halt_status (job.run none v).ending) vs)
printed_after job (Some status) vs = printed_halted job vs

reported_after : (job : Job) (halt : Option ℕ) (vs : List Value) → flat_map (λ p. p.err) (ended job (is_some halt) vs) ≡ runs_reported (rest job halt vs)
reported_after job None [] = refl
reported_after job None (v ∷ vs) = ap (λ l. ending_report (job.run none v).ending ++ l) (reported_after job (halt_status (job.run none v).ending) vs)
reported_after job (Some status) vs = reported_halted job vs

lasts_after : (job : Job) (halt : Option ℕ) (vs : List Value) → (totals (ended job (is_some halt) vs)).last ≡ last_in (last_output (rest job halt vs))
lasts_after job None [] = refl
lasts_after job None (v ∷ vs) =
    let r = job.run none v in
    let halt = halt_status r.ending in
    ap (later (last_in (last_item r.items))) (lasts_after job halt vs) ∙ sym (last_both r.items (flat_map (λ s. s.items) (rest job halt vs)))
lasts_after job (Some status) vs = last_halted job vs

failed_first : (b : Bool) (n : ℕ) → nat_lt 0 ((if b then 1 else 0) + n) ≡ (b || nat_lt 0 n)
failed_first true n = lt-ltb 0 (1 + n) (omega arith)
failed_first false n = ap (nat_lt 0) (zero-add n)

failed_after : (job : Job) (halt : Option ℕ) (vs : List Value) → nat_lt 0 (totals (ended job (is_some halt) vs)).failed ≡ any_failure (rest job halt vs)
failed_after job None [] = refl
failed_after job None (v ∷ vs) =
    let r = job.run none v in
    let b = is_failure r.ending in
    let halt = halt_status r.ending in
    failed_first b (totals (ended job (is_some halt) vs)).failed ∙ ap (λ c. b || c) (failed_after job halt vs)
failed_after job (Some status) vs = ap (nat_lt 0) (failed_halted job vs)

earlier_is : (o p : Option ℕ) → earlier o p ≡ option_or o p
earlier_is None p = refl
earlier_is (Some status) p = refl

halts_after : (job : Job) (halt : Option ℕ) (vs : List Value) → (totals (ended job (is_some halt) vs)).halt ≡ first_halt (rest job halt vs)
halts_after job None [] = refl
halts_after job None (v ∷ vs) =
    let halt = halt_status (job.run none v).ending in
    earlier_is halt (totals (ended job (is_some halt) vs)).halt ∙ ap (option_or halt) (halts_after job halt vs)
halts_after job (Some status) vs = halt_halted job vs

-- ---- what is written

nothing_more : {A : Type 0} (o : Option ℕ) → unless_halted {A = A} o [] ≡ []
nothing_more None = refl
nothing_more (Some status) = refl

pub writes : (job : Job) (vs : List Value) → IsOutcome job.exit (folded_in (halting_fold job) vs) (values_outcome on_each job vs)
writes job vs =
    let t = totals (ended job false vs) in
    let rs = made job vs in
    let failed : nat_lt 0 (0 + t.failed) ≡ any_failure rs = ap (nat_lt 0) (zero-add t.failed) ∙ failed_after job None vs in
    let last : last_of (later last.Nothing t.last) ≡ last_output rs = ap last_of (later_nothing t.last ∙ lasts_after job None vs) ∙ last_again (last_output rs) in
    record {
      output = printed_after job None vs;
      errors = reported_after job None vs ∙ sym (ap (λ l. runs_reported rs ++ l) (nothing_more (first_halt rs)) ∙ append-nil (runs_reported rs));
      status = ap₂ (λ f l. unwrap_or t.halt (end_status job.exit f l)) failed last ∙ ap (λ o. unwrap_or o (end_status job.exit (any_failure rs) (last_output rs))) (halts_after job None vs);
    }

-- ---- a filter on each input that may halt

serves_until_halt : (f : Filter) → filter_mode f ≡ on_each → f.halts ≡ true → Serves f (halting_fold (filter_job f))
serves_until_halt f mode halts =
    let job = filter_job f in
    let x = halting_fold job in
    let plan : filter_plan f ≡ until_halt = ap₂ (λ m h. plan_in m (view_of f.plan) h (filter_fold f)) mode halts in
    record {
      writes = λ vs. subst (λ m. IsOutcome f.settings.exit (folded_in x vs) (values_outcome m job vs)) (sym mode) (writes job vs);
      first = λ vs a b h. subst (λ p. Rises a b (first_starts p (state_in f vs))) (sym plan) h.rises;
      starts = λ edit vs ws a b h. subst (λ p. AllowedStarts p edit (state_in f vs) (state_in f ws) a b) (sym plan) h.rises;
      moves = λ k l vs ws a b r.
          subst (λ p. AllowedMove p k l (state_in f vs) (state_in f ws) a b) (sym plan) (move_rises f x k l vs ws a b r);
      puts = λ edit vs ws c w is change puts.
          let put : PutsChange w edit (folded_in x vs) (folded_in x ws) = record { change = c; is_change = change; pieces = puts } in
          subst (λ p. IsPut p edit w (state_in f vs) (state_in f ws)) (sym plan) ∣ put ∣₁;
    }

-- its session and its steps share the filter
pub until_halt_served : (f g h : Filter) → filter_mode f ≡ on_each → f.halts ≡ true → g ≡ f → h ≡ f → ∥ Serves g (halting_fold (filter_job h)) ∥₁
until_halt_served f g h mode halts e d =
    subst (λ (y : Filter). ∥ Serves g (halting_fold (filter_job y)) ∥₁) (sym d)
    (subst (λ (y : Filter). ∥ Serves y (halting_fold (filter_job f)) ∥₁) (sym e) ∣ serves_until_halt f mode halts ∣₁)
