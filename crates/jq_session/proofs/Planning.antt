-- The plan of a session, by the options and the filter's tree.
use Rattle.std.proofs.Common.{◌≡◌, ◌↔◌, ◌≤◌, ℕ, zero, suc, ◌+◌, ◌&&◌, [], ◌∷◌, length, Bool, true, false, not, nat_eq, if◌then◌else◌, refl, ap, ◌∙◌, arith}
use Rattle.std.specs.Prelude.{bytes_eq}
use Rattle.std.proofs.Math.Dec.{eqb-suc-zero}
use Rattle.jq_folds.specs.Pieces.{FoldState}
use Rattle.jq_fold_steps.specs.Filters.{compiled_fold}
use Rattle.jq_fold_steps.specs.laws.Compiled.{FoldsComeAfterThePrelude}
use Rattle.jq_inputs.specs.Halting.{CallsNoHalt}
use Rattle.jq_inputs.specs.Plans.{view_of}
use Rattle.jq_pages.specs.Folds.{Fold}
use Rattle.jq_filters.specs.Accepted.{mode_in}
use Rattle.jq_filters.specs.Filters.{filter_mode}
use Rattle.jq_filters.specs.Outcomes.{Mode, on_each, on_null, on_all}
use Rattle.jq_syntax.specs.Chosen.{Chosen}
use Rattle.jq_tree.specs.Filter as filter
use Rattle.jq_tree.specs.Filter.{HasPlan, plan_per_input, plan_slurp, plan_fold, plan_other_null, reads}
use Rattle.jq_tree.specs.Inputs.{Folds, FoldShape, IsOuter, by_reduce, by_foreach, count, count_pattern, fold_alone, fold_piped, fold_after, inputs}
use Rattle.jq_tree.specs.Names.{Scope, to_function, with_parameters}
use Rattle.jq_tree.specs.Tree.{Tree, no_trees}
use Rattle.jq_tree.specs.Tree as tree
use Rattle.jq_session.specs.States.{IsPlanOf, plan_in}
use Rattle.jq_session.specs.laws.Plans.{PlansAreByTheTree}

-- ---- a fold has `inputs`

called : (own : Scope) → IsOuter own inputs 0 → count own (tree.call inputs no_trees) ≡ 1
called own h = ap (λ b. (if bytes_eq inputs inputs && nat_eq 0 0 && not b then 1 else 0) + 0) h

left : (m n : ℕ) → 1 ≤ m → 1 ≤ m + n
left m n h = omega (arith, h)

right : (m n : ℕ) → 1 ≤ n → 1 ≤ m + n
right m n h = omega (arith, h)

one : (n : ℕ) → n ≡ 1 → 1 ≤ n
one n e = omega (arith, e)

folds_read : {own : Scope} {t : Tree} → Folds own t → 1 ≤ count own t
folds_read {own} (by_reduce {p = p} {start = g} {update = h} outer single) =
    let c = count own (tree.call inputs no_trees) in
    left ((c + count_pattern own p) + count own g) (count own h) (left (c + count_pattern own p) (count own g) (left c (count_pattern own p) (one c (called own outer))))
folds_read {own} (by_foreach {p = p} {start = g} {update = h} {extract = x} outer single) =
    let c = count own (tree.call inputs no_trees) in
    left (((c + count_pattern own p) + count own g) + count own h) (count own x)
    (left ((c + count_pattern own p) + count own g) (count own h) (left (c + count_pattern own p) (count own g) (left c (count_pattern own p) (one c (called own outer)))))

shapes_read : {own : Scope} {t : Tree} → FoldShape own t → 1 ≤ count own t
shapes_read (fold_alone f) = folds_read f
shapes_read {own} (fold_piped {f = f} {g = g} x) = left (count own f) (count own g) (folds_read x)
shapes_read {own} (fold_after {n = n} {ps = ps} {f = f} {g = g} s) =
    right (count (with_parameters ps (to_function n (length ps) ∷ own)) f) (count (to_function n (length ps) ∷ own) g) (shapes_read s)

counted : (n : ℕ) → 1 ≤ n → not (nat_eq n 0) ≡ true
counted zero low = absurd (omega (arith, low))
counted (suc n) low = ap not (eqb-suc-zero n)

fold_reads : {t : Tree} → FoldShape [] t → reads t ≡ true
fold_reads {t} s = counted (count [] t) (shapes_read s)

-- ---- the mode

reads_in : Mode → Bool
reads_in on_each = false
reads_in (on_null b) = b
reads_in on_all = false

is_null : (null slurp has reads : Bool) → on_null has ≡ (if null then on_null reads else (if slurp then on_all else on_each)) → (null ≡ true) × (has ≡ reads)
unfolding reads_in
is_null true slurp has reads e = (refl, ap reads_in e)
is_null false true has reads e = cc
is_null false false has reads e = cc

shape_of : {null slurp : Bool} {t : Tree} {p : filter.Plan} → HasPlan null slurp t p → p ≡ filter.fold → FoldShape [] t
shape_of plan_per_input e = absurd (cc)
shape_of plan_slurp e = absurd (cc)
shape_of (plan_fold s) e = s
shape_of (plan_other_null n) e = absurd (cc)

no_shape : {null slurp : Bool} {t : Tree} {p : filter.Plan} → HasPlan null slurp t p → null ≡ true → (p ≡ filter.fold → ⊥) → ¬ FoldShape [] t
no_shape plan_per_input e n = absurd (cc)
no_shape plan_slurp e n = absurd (cc)
no_shape (plan_fold s) e n = absurd (n refl)
no_shape (plan_other_null h) e n = h

by_mode : (o : Chosen) (mode : Mode) (prelude t : Tree) (p : filter.Plan) (halts : Bool) (f : Fold FoldState) → mode ≡ mode_in o (reads t) → HasPlan o.null o.slurp t p
    → ((halts ≡ false) ↔ CallsNoHalt t) → f ≡ compiled_fold o prelude t → IsPlanOf o mode prelude t (plan_in mode p halts f)
by_mode o on_each prelude t p false f m h c e = c.0 refl
by_mode o on_each prelude t p true f m h c e = λ calls. let q : true ≡ false = c.1 calls in cc
by_mode o (on_null true) prelude t filter.per_input halts f m h c e = no_shape h (is_null o.null o.slurp true (reads t) m).0 (λ q. cc)
by_mode o (on_null true) prelude t filter.fold halts f m h c e = (shape_of h refl, e)
by_mode o (on_null true) prelude t filter.once halts f m h c e = no_shape h (is_null o.null o.slurp true (reads t) m).0 (λ q. cc)
by_mode o (on_null false) prelude t p halts f m h c e = λ s. let q : false ≡ true = (is_null o.null o.slurp false (reads t) m).1 ∙ fold_reads s in cc
by_mode o on_all prelude t p halts f m h c e = tt

pub by_the_tree : FoldsComeAfterThePrelude → PlansAreByTheTree
by_the_tree law o text f h =
    let a = h.accepted in
    by_mode o (filter_mode f) a.accepts.prelude a.accepts.tree (view_of f.plan) f.halts _ a.accepts.in_mode a.planned a.halting (law o text f h)
