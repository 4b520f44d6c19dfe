-- What the pieces of a fold write, and what the one run writes.
use Rattle.std.proofs.Common.{◌≡◌, ℕ, ◌+◌, List, [], ◌∷◌, ◌++◌, map, take, length, Bool, true, false, Option, Some, None, zero, suc, refl, sym, ap, ◌∙◌, append-nil, zero-add}
use Rattle.std.specs.Prelude.{nat_lt, unwrap_or, if◌then◌else◌}
use Rattle.std.specs.List.{flat_map}
use Rattle.std.specs.Option.{option_or}
use Rattle.std.proofs.lemmas.Grind.{flat_map-append}
use Rattle.jv_data.specs.Value.{Value, null}
use Rattle.jv_text.specs.declared.printing.Style.{Style}
use Rattle.jq_ast.specs.Named.{named}
use Rattle.jq_ast.specs.declared.tree.Tree.{Tree}
use Rattle.jq_meaning.specs.Programs.{with_bindings}
use Rattle.jq_meaning.specs.Env.{Env, outermost, bound}
use Rattle.jq_meaning.specs.Meaning.{meaning}
use Rattle.jq_meaning.specs.Runs.{Run, Item, plain, Ending, Done, Raised, Broken, Stopped, deep, halted, none, value_in}
use Rattle.jq_state.specs.Nodes.{program_binding}
use Rattle.jq_state.specs.declared.environments.ProgramBinding.{ProgramBinding}
use Rattle.jq_state.specs.declared.environments.ProgramBinding.TheVariants as program
use Rattle.jq_folds.specs.Folding.{FoldAt, fold_in, pieces_of}
use Rattle.jq_folds.specs.Pieces.{FoldState, begun, step_from, pieces_from, pieces}
use Rattle.jq_folds.specs.laws.Reading.{with_inputs}
use Rattle.jq_folds.specs.laws.States.{AllNone, EndsOnce}
use Rattle.jq_folds.specs.laws.Statements.{first_end, joined_ending, joined, IsFolded, FoldsAreFolded, PiecesEndOnce}
use Rattle.jq_pages.specs.Contents.{folded_in}
use Rattle.jq_pages.specs.Folds.{all, pieces_after, state_after}
use Rattle.jq_pages.specs.Pieces.{PieceView}
use Rattle.jq_pages.specs.Totals.{totals, later, earlier}
use Rattle.jq_pages.specs.declared.pieces.Last.{Last}
use Rattle.jq_pages.specs.declared.pieces.Last.TheVariants as last
use Rattle.jq_filters.specs.Outcomes.{Outcome, Job, on_null, printed_of, ending_report, is_failure, halt_status, last_item, last_by, last_output, unless_halted, first_halt, any_failure, runs_printed, runs_reported, runs_outcome, end_status}
use Rattle.jq_natives.specs.Answers.{is_true}
use Rattle.jq_filters.specs.Outcomes as outcomes
use Rattle.jq_filters.specs.Present.{values_outcome}
use Rattle.jq_filters.specs.Runner.{job_in, run_in}
use Rattle.jq_filters.specs.declared.settings.Settings.{Settings}
use Rattle.jq_fold_steps.specs.Bindings.{env_in}
use Rattle.jq_fold_steps.specs.Folded.{start_at, steps_at, fold_of}
use Rattle.jq_filters.specs.Pieces.{last_in, last_of, piece_of, status_in}
use Rattle.jq_fold_steps.specs.laws.Outcomes.{IsOutcome, FoldsWriteOutcomes}

-- ---- the pieces are those of the runs

from-state : (style : Style) (d : ℕ) (o : Option FoldAt) (s : FoldState) (vs : List Value)
    → pieces_after (fold_of style d o) s vs ++ ((fold_of style d o).close (state_after (fold_of style d o) s vs) ∷ []) ≡ map (piece_of style) (pieces_from (steps_at d o) s vs)
from-state style d o s [] = refl
from-state style d o s (v ∷ vs) = ap (λ ps. piece_of style (step_from (steps_at d o) s v).run ∷ ps) (from-state style d o (step_from (steps_at d o) s v).next vs)

all-pieces : (style : Style) (d : ℕ) (o : Option FoldAt) (vs : List Value)
    → all (folded_in (fold_of style d o) vs) ≡ map (piece_of style) (pieces (steps_at d o) (start_at d o) vs)
all-pieces style d o vs = ap (λ ps. piece_of style (begun (start_at d o)).run ∷ ps) (from-state style d o (begun (start_at d o)).next vs)

-- ---- outputs

outputs-joined : (style : Style) (rs : List (Run Item)) → flat_map (λ (p : PieceView). p.out) (map (piece_of style) rs) ≡ printed_of style (joined rs)
outputs-joined style [] = refl
outputs-joined style (r ∷ rs) =
    ap (λ xs. printed_of style r ++ xs) (outputs-joined style rs)
    ∙ sym (flat_map-append _ r.items (flat_map (λ (q : Run Item). q.items) rs))

-- ---- endings

-- Done, or nothing follows
data Kind (e : Ending) (rs : List (Run Item)) : Type 0 where
  done : e ≡ Done → Kind e rs
  last_one : AllNone rs → Kind e rs

kind : (e : Ending) (rs : List (Run Item)) → (¬ (e ≡ Done) → AllNone rs) → Kind e rs
kind Done rs h = done refl
kind (Raised v) rs h = last_one (h (λ p. cc))
kind (Broken k) rs h = last_one (h (λ p. cc))
kind (Stopped stop) rs h = last_one (h (λ p. cc))

none-reported : (rs : List (Run Item)) → AllNone rs → runs_reported rs ≡ []
none-reported [] h = refl
none-reported (r ∷ rs) h = ap (λ (q : Run Item). ending_report q.ending ++ runs_reported rs) h.0 ∙ none-reported rs h.1

none-ending : (rs : List (Run Item)) → AllNone rs → joined_ending rs ≡ Done
none-ending [] h = refl
none-ending (r ∷ rs) h = ap (λ (q : Run Item). first_end q.ending (joined_ending rs)) h.0 ∙ none-ending rs h.1

first-last : (e : Ending) → first_end e Done ≡ e
first-last Done = refl
first-last (Raised v) = refl
first-last (Broken k) = refl
first-last (Stopped stop) = refl

first-of : (e : Ending) (rs : List (Run Item)) → AllNone rs → first_end e (joined_ending rs) ≡ e
first-of e rs h = ap (first_end e) (none-ending rs h) ∙ first-last e

reported-joined : (rs : List (Run Item)) → EndsOnce rs → runs_reported rs ≡ ending_report (joined_ending rs)
reported-joined [] h = refl
reported-joined (r ∷ rs) h = go (kind r.ending rs h.0) (reported-joined rs h.1)
  where
    go : Kind r.ending rs → runs_reported rs ≡ ending_report (joined_ending rs) → runs_reported (r ∷ rs) ≡ ending_report (first_end r.ending (joined_ending rs))
    go (done p) later = ap (λ e. ending_report e ++ runs_reported rs) p ∙ later ∙ ap (λ e. ending_report (first_end e (joined_ending rs))) (sym p)
    go (last_one n) later = ap (λ xs. ending_report r.ending ++ xs) (none-reported rs n) ∙ append-nil (ending_report r.ending) ∙ ap ending_report (sym (first-of r.ending rs n))

errors-joined : (style : Style) (rs : List (Run Item)) → flat_map (λ (p : PieceView). p.err) (map (piece_of style) rs) ≡ runs_reported rs
errors-joined style [] = refl
errors-joined style (r ∷ rs) = ap (λ xs. ending_report r.ending ++ xs) (errors-joined style rs)

-- ---- failures and halts

module _ (style : Style) where
  none-failed : (rs : List (Run Item)) → AllNone rs → (totals (map (piece_of style) rs)).failed ≡ 0
  none-failed [] h = refl
  none-failed (r ∷ rs) h =
      ap (λ (q : Run Item). (if is_failure q.ending then 1 else 0) + (totals (map (piece_of style) rs)).failed) h.0
      ∙ zero-add (totals (map (piece_of style) rs)).failed ∙ none-failed rs h.1

  one-failed : (b : Bool) → nat_lt 0 ((if b then 1 else 0) + 0) ≡ b
  one-failed true = refl
  one-failed false = refl

  failed-joined : (rs : List (Run Item)) → EndsOnce rs → nat_lt 0 (totals (map (piece_of style) rs)).failed ≡ is_failure (joined_ending rs)
  failed-joined [] h = refl
  failed-joined (r ∷ rs) h = go (kind r.ending rs h.0) (failed-joined rs h.1)
    where
      go : Kind r.ending rs → nat_lt 0 (totals (map (piece_of style) rs)).failed ≡ is_failure (joined_ending rs) → nat_lt 0 ((if is_failure r.ending then 1 else 0) + (totals (map (piece_of style) rs)).failed) ≡ is_failure (first_end r.ending (joined_ending rs))
      go (done p) later =
          ap (λ e. nat_lt 0 ((if is_failure e then 1 else 0) + (totals (map (piece_of style) rs)).failed)) p
          ∙ ap (nat_lt 0) (zero-add (totals (map (piece_of style) rs)).failed) ∙ later ∙ ap (λ e. is_failure (first_end e (joined_ending rs))) (sym p)
      go (last_one n) later =
          ap (λ m. nat_lt 0 ((if is_failure r.ending then 1 else 0) + m)) (none-failed rs n) ∙ one-failed (is_failure r.ending) ∙ ap is_failure (sym (first-of r.ending rs n))

  none-halts : (rs : List (Run Item)) → AllNone rs → (totals (map (piece_of style) rs)).halt ≡ None
  none-halts [] h = refl
  none-halts (r ∷ rs) h = ap (λ (q : Run Item). earlier (halt_status q.ending) (totals (map (piece_of style) rs)).halt) h.0 ∙ none-halts rs h.1

  earlier-none : (o : Option ℕ) → earlier o None ≡ o
  earlier-none None = refl
  earlier-none (Some n) = refl

  halts-joined : (rs : List (Run Item)) → EndsOnce rs → (totals (map (piece_of style) rs)).halt ≡ halt_status (joined_ending rs)
  halts-joined [] h = refl
  halts-joined (r ∷ rs) h = go (kind r.ending rs h.0) (halts-joined rs h.1)
    where
      go : Kind r.ending rs → (totals (map (piece_of style) rs)).halt ≡ halt_status (joined_ending rs) → earlier (halt_status r.ending) (totals (map (piece_of style) rs)).halt ≡ halt_status (first_end r.ending (joined_ending rs))
      go (done p) later =
          ap (λ e. earlier (halt_status e) (totals (map (piece_of style) rs)).halt) p ∙ later ∙ ap (λ e. halt_status (first_end e (joined_ending rs))) (sym p)
      go (last_one n) later = ap (earlier (halt_status r.ending)) (none-halts rs n) ∙ earlier-none (halt_status r.ending) ∙ ap halt_status (sym (first-of r.ending rs n))

  -- ---- last outputs

  later-truth : (l : Last) (b : Bool) → later l (last_in (last_by b)) ≡ last_in (last_by b)
  later-truth l true = refl
  later-truth l false = refl

  later-some : (l : Last) (x : Item) (xs : List Item) → later l (last_in (last_item (x ∷ xs))) ≡ last_in (last_item (x ∷ xs))
  later-some l x [] = later-truth l (is_true (value_in x))
  later-some l x (y ∷ ys) = later-some l y ys

  last-append : (xs ys : List Item) → last_in (last_item (xs ++ ys)) ≡ later (last_in (last_item xs)) (last_in (last_item ys))
  last-append [] ys = none-before (last_in (last_item ys))
    where
      none-before : (l : Last) → l ≡ later last.Nothing l
      none-before last.Nothing = refl
      none-before last.Falsy = refl
      none-before last.Truthy = refl
  last-append (x ∷ []) [] = refl
  last-append (x ∷ []) (y ∷ ys) = sym (later-some (last_in (last_item (x ∷ []))) y ys)
  last-append (x ∷ z ∷ xs) ys = last-append (z ∷ xs) ys

  last-joined : (rs : List (Run Item)) → (totals (map (piece_of style) rs)).last ≡ last_in (last_item (flat_map (λ (q : Run Item). q.items) rs))
  last-joined [] = refl
  last-joined (r ∷ rs) =
      ap (later (last_in (last_item r.items))) (last-joined rs) ∙ sym (last-append r.items (flat_map (λ (q : Run Item). q.items) rs))

  last-back : (l : outcomes.Last) → last_of (last_in l) ≡ l
  last-back outcomes.nothing = refl
  last-back outcomes.falsy = refl
  last-back outcomes.truthy = refl

  status-joined : (exit : Bool) (rs : List (Run Item)) → EndsOnce rs
      → status_in exit (totals (map (piece_of style) rs)) ≡ unwrap_or (halt_status (joined rs).ending) (end_status exit (is_failure (joined rs).ending) (last_item (joined rs).items))
  status-joined exit rs h =
      let final = ap last_of (last-joined rs) ∙ last-back (last_item (joined rs).items) in
      λ i. unwrap_or (halts-joined rs h i) (end_status exit (failed-joined rs h i) (final i))

-- ---- the one run

-- what one run writes
abbrev run_outcome : Settings → Run Item → Outcome
run_outcome s r =
    record { output = printed_of s.style r; errors = ending_report r.ending; status = unwrap_or (halt_status r.ending) (end_status s.exit (is_failure r.ending) (last_item r.items)) }

one-made : (o : Option ℕ) → unless_halted {A = Run Item} o [] ≡ []
one-made None = refl
one-made (Some n) = refl

or-none : (o : Option ℕ) → option_or o None ≡ o
or-none None = refl
or-none (Some n) = refl

no-report : (o : Option ℕ) → unless_halted {A = ℕ} o [] ≡ []
no-report None = refl
no-report (Some n) = refl

run-failed : (e : Ending) (xs : List Item) → any_failure (record { items = xs; ending = e } ∷ []) ≡ is_failure e
run-failed Done xs = refl
run-failed (Raised v) xs = refl
run-failed (Broken k) xs = refl
run-failed (Stopped deep) xs = refl
run-failed (Stopped (halted status bytes)) xs = refl

-- the outcome of runs that are all made
abbrev outcome_by : Settings → List (Run Item) → Outcome
outcome_by s rs = record {
  output = runs_printed s.style rs;
  errors = runs_reported rs ++ unless_halted (first_halt rs) [];
  status = unwrap_or (first_halt rs) (end_status s.exit (any_failure rs) (last_output rs));
}

-- the outcome of one run is what it writes
one-run : (s : Settings) (r : Run Item) → runs_outcome s.style s.exit (r ∷ []) [] (λ n. n) ≡ run_outcome s r
one-run s r =
    let printed = append-nil (printed_of s.style r) in
    let reported = ap (λ xs. (ending_report r.ending ++ []) ++ xs) (no-report (option_or (halt_status r.ending) None)) ∙ append-nil (ending_report r.ending ++ []) ∙ append-nil (ending_report r.ending) in
    let halt = or-none (halt_status r.ending) in
    let failed = run-failed r.ending r.items in
    let items = append-nil r.items in
    ap (λ rs. outcome_by s (r ∷ rs)) (one-made (halt_status r.ending))
    ∙ (λ i. record { output = printed i; errors = reported i; status = unwrap_or (halt i) (end_status s.exit (failed i) (last_item (items i))) })

-- ---- a filter in the bindings of its program

inputs-bindings : (i : Run Value) (n : ℕ) (bs : List ProgramBinding) (e : Env)
    → with_inputs i (with_bindings (take n (map program_binding bs)) e) ≡ with_bindings (take n (map program_binding bs)) (with_inputs i e)
inputs-bindings i zero bs e = refl
inputs-bindings i (suc n) [] e = refl
inputs-bindings i (suc n) (program.Value name value ∷ bs) e = inputs-bindings i n bs (bound (program_binding (program.Value name value)) e)
inputs-bindings i (suc n) (program.Function f ∷ bs) e = inputs-bindings i n bs (bound (program_binding (program.Function f)) e)

outcome-of : (s : Settings) (d : ℕ) (t : Tree) (bs : List ProgramBinding) (vs : List Value) → PiecesEndOnce → IsFolded (named t) (env_in bs)
    → IsOutcome s.exit (folded_in (fold_of s.style d (fold_in (named t) (env_in bs))) vs) (values_outcome (on_null true) (job_in s d t bs) vs)
outcome-of s d t bs vs once folded =
    let found = folded.found in
    let rs = pieces_of d found.env 0 found.fold (plain null) vs in
    let given : Run Value = record { items = vs; ending = Done } in
    let ends = once found.fold found.env d 0 (plain null) vs in
    let parts : fold_in (named t) (env_in bs) ≡ Some found =
    ap (fold_in (named t)) (sym (inputs-bindings none (length bs) bs (outermost none))) ∙ folded.parts in
    let all-same : all (folded_in (fold_of s.style d (fold_in (named t) (env_in bs))) vs) ≡ map (piece_of s.style) rs =
    all-pieces s.style d (fold_in (named t) (env_in bs)) vs ∙ ap (λ (o : Option FoldAt). map (piece_of s.style) (pieces (steps_at d o) (start_at d o) vs)) parts in
    let joined-run : run_in d t bs given null ≡ joined rs =
    ap (λ (e : Env). meaning d (named t) e 0 (plain null)) (sym (inputs-bindings given (length bs) bs (outermost none))) ∙ folded.run d 0 null vs in
    let whole : values_outcome (on_null true) (job_in s d t bs) vs ≡ run_outcome s (joined rs) = one-run s (run_in d t bs given null) ∙ ap (run_outcome s) joined-run in
    record {
      output = ap (flat_map (λ (p : PieceView). p.out)) all-same ∙ outputs-joined s.style rs ∙ ap (λ (o : Outcome). o.output) (sym whole);
      errors = ap (flat_map (λ (p : PieceView). p.err)) all-same ∙ errors-joined s.style rs ∙ reported-joined rs ends ∙ ap (λ (o : Outcome). o.errors) (sym whole);
      status = ap (λ (ps : List PieceView). status_in s.exit (totals ps)) all-same ∙ status-joined s.style s.exit rs ends ∙ ap (λ (o : Outcome). o.status) (sym whole);
    }

pub folds_write : FoldsAreFolded → PiecesEndOnce → FoldsWriteOutcomes
folds_write law once s d t bs vs h = outcome-of s d t bs vs once (law (named t) (env_in bs) h.shape h.in_place h.alone)
