-- Counts that stop at two.
use Rattle.std.proofs.Common.{◌≡◌, ◌∙◌, ℕ, zero, suc, ◌+◌, ap, sym, subst, refl, arith, zero-add, Decides}
use Rattle.jq_inputs.specs.declared.surveys.Count.{Count}
use Rattle.jq_inputs.specs.declared.surveys.Count.TheVariants.{Zero, One, More}
use Rattle.jq_inputs.specs.private.Counts.{plus, is_zero}

pub plus-assoc : (a b c : Count) → plus (plus a b) c ≡ plus a (plus b c)
plus-assoc Zero b c = refl
plus-assoc One Zero c = refl
plus-assoc One One Zero = refl
plus-assoc One One One = refl
plus-assoc One One More = refl
plus-assoc One More c = refl
plus-assoc More b c = refl

pub plus-zero : (a : Count) → plus a Zero ≡ a
plus-zero Zero = refl
plus-zero One = refl
plus-zero More = refl

abbrev pub capped : ℕ → Count
capped zero = Zero
capped (suc zero) = One
capped (suc (suc n)) = More

pub capped-plus : (m n : ℕ) → capped (m + n) ≡ plus (capped m) (capped n)
capped-plus zero n = ap capped (zero-add n)
capped-plus (suc zero) zero = refl
capped-plus (suc zero) (suc zero) = refl
capped-plus (suc zero) (suc (suc n)) = let e : suc zero + suc (suc n) ≡ suc (suc (suc n)) = omega arith in ap capped e
capped-plus (suc (suc m)) n = let e : suc (suc m) + n ≡ suc (suc (m + n)) = omega arith in ap capped e

-- The count c of n.
pub record Caps (n : ℕ) (c : Count) : Type 0 where
  pub same : c ≡ capped n

pub caps-zero : Caps 0 Zero
caps-zero = record { same = refl }

pub caps-plus : {m n : ℕ} {a b : Count} → Caps m a → Caps n b → Caps (m + n) (plus a b)
caps-plus {m} {n} x y = record { same = rw (x.same, y.same) (sym (capped-plus m n)) }

pub caps-at : {m : ℕ} {c : Count} (n : ℕ) → m ≡ n → Caps m c → Caps n c
caps-at {m} {c} n e x = record { same = x.same ∙ ap capped e }

zero_decides : (n : ℕ) → Decides (is_zero (capped n)) (n ≡ 0)
zero_decides zero = (λ e. refl, λ e. refl)
zero_decides (suc zero) = (λ e. absurd (cc), λ e. absurd (omega arith))
zero_decides (suc (suc n)) = (λ e. absurd (cc), λ e. absurd (omega arith))

pub caps-Decides : {n : ℕ} {c : Count} → Caps n c → Decides (is_zero c) (n ≡ 0)
caps-Decides {n} {c} x = subst (λ d. Decides (is_zero d) (n ≡ 0)) (sym x.same) (zero_decides n)
