-- The result of the walk for a whole filter.
use Rattle.std.proofs.Common.{◌≡◌, ◌∙◌, ℕ, zero, suc, [], Bool, true, false, not, ap, sym, refl, inl, inr}
use Rattle.std.proofs.lemmas.Bool.Decides.{same_from_decides, Decides-eqb}
use Rattle.jq_tree.specs.Tree.{Tree}
use Rattle.jq_tree.specs.Inputs.{count, InputsInPlace}
use Rattle.jq_tree.specs.Filter.{reads, HasPlan, fold, once, per_input, plan_fold, plan_other_null, plan_slurp, plan_per_input}
use Rattle.jq_inputs.specs.declared.surveys.Count.TheVariants.{Zero, One, More}
use Rattle.jq_inputs.specs.private.Counts.{is_zero}
use Rattle.jq_inputs.specs.private.Hidden.{nothing_hidden}
use Rattle.jq_inputs.specs.private.Walk.{count_in, once_in, has_fold_shape}
use Rattle.jq_inputs.proofs.Capping.{capped, caps-Decides}
use Rattle.jq_inputs.proofs.Counting.{counted}
use Rattle.jq_inputs.proofs.Folding.{shape-Decides}
use Rattle.jq_inputs.proofs.Placing.{placed}
use Rattle.jq_inputs.proofs.Tracking.{nothing-Tracks}

pub reads_is : (t : Tree) → not (is_zero (count_in nothing_hidden t)) ≡ reads t
reads_is t = ap not (same_from_decides _ _ (caps-Decides (counted t nothing-Tracks)) (Decides-eqb (count [] t) 0))

one_is : (n : ℕ) → capped n ≡ One → n ≡ 1
one_is zero e = absurd (cc)
one_is (suc zero) e = refl
one_is (suc (suc n)) e = absurd (cc)

zero_is : (n : ℕ) → capped n ≡ Zero → n ≡ 0
zero_is zero e = refl
zero_is (suc zero) e = absurd (cc)
zero_is (suc (suc n)) e = absurd (cc)

pub none_in_place : (t : Tree) → count_in nothing_hidden t ≡ Zero → InputsInPlace t
none_in_place t e = inl (zero_is (count [] t) (sym (counted t nothing-Tracks).same ∙ e))

pub one_in_place : (t : Tree) → count_in nothing_hidden t ≡ One → once_in nothing_hidden t ≡ true → InputsInPlace t
one_in_place t e o = inr (one_is (count [] t) (sym (counted t nothing-Tracks).same ∙ e), (placed t nothing-Tracks).0 o)

pub in_place_once : (t : Tree) → count_in nothing_hidden t ≡ One → InputsInPlace t → once_in nothing_hidden t ≡ true
in_place_once t e (inl z) = let i : capped 0 ≡ One = ap capped (sym z) ∙ (sym (counted t nothing-Tracks).same ∙ e) in absurd (cc)
in_place_once t e (inr p) = (placed t nothing-Tracks).1 p.1

pub more_misplaced : (t : Tree) → count_in nothing_hidden t ≡ More → InputsInPlace t → ⊥
more_misplaced t e (inl z) = let i : capped 0 ≡ More = ap capped (sym z) ∙ (sym (counted t nothing-Tracks).same ∙ e) in cc
more_misplaced t e (inr p) = let i : capped 1 ≡ More = ap capped (sym p.0) ∙ (sym (counted t nothing-Tracks).same ∙ e) in cc

pub planned_fold : (null slurp : Bool) (t : Tree) → null ≡ true → has_fold_shape nothing_hidden t ≡ true → HasPlan null slurp t fold
planned_fold true slurp t n e = plan_fold ((shape-Decides t nothing-Tracks).0 e)
planned_fold false slurp t n e = absurd (cc)

differ : {b : Bool} → b ≡ false → b ≡ true → ⊥
differ f g = cc

pub planned_other : (null slurp : Bool) (t : Tree) → null ≡ true → has_fold_shape nothing_hidden t ≡ false → HasPlan null slurp t once
planned_other true slurp t n e = plan_other_null (λ s. differ e ((shape-Decides t nothing-Tracks).1 s))
planned_other false slurp t n e = absurd (cc)

pub planned_slurp : (null slurp : Bool) (t : Tree) → null ≡ false → slurp ≡ true → HasPlan null slurp t once
planned_slurp true slurp t n e = absurd (cc)
planned_slurp false true t n e = plan_slurp
planned_slurp false false t n e = absurd (cc)

pub planned_per_input : (null slurp : Bool) (t : Tree) → null ≡ false → slurp ≡ false → HasPlan null slurp t per_input
planned_per_input true slurp t n e = absurd (cc)
planned_per_input false true t n e = absurd (cc)
planned_per_input false false t n e = plan_per_input
