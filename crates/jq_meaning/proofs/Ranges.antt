-- The numbers of a range are those before its end.
use Rattle.std.proofs.Common.{◌≡◌, ℕ, suc, ◌+◌, ◌-◌, ◌*◌, ◌/◌, ◌<◌, ◌≤◌, ℤ, pos, negsuc, Bool, true, false, refl, inl, inr, arith}
use Rattle.std.proofs.Math.Nat.{mul-le-mul_left}
use Rattle.std.proofs.lemmas.Bool.{cases_lt}
use Rattle.std.proofs.lemmas.Int.{ints}
use Rattle.std.specs.Prelude.{◌↔◌, neg_ℤ, ◌+ℤ◌, ◌-ℤ◌, ◌*ℤ◌, ◌<ℤ◌, int_lt, nat_abs, if◌then◌else◌}
use Rattle.jq_meaning.specs.Builtins.{distance, steps_between}

-- the multiples of c below d, by the quotient of d upwards
multiples : (c d i : ℕ) → 0 < c → (i < (d + (c - 1)) / c) ↔ (i * c < d)
multiples c d i h = (below, above)
  where
    below : i < (d + (c - 1)) / c → i * c < d
    below l =
        let m : c * suc i ≤ c * ((d + (c - 1)) / c) = mul-le-mul_left c l in
        omega (arith, m)

    above : i * c < d → i < (d + (c - 1)) / c
    above l = elim (cases_lt i ((d + (c - 1)) / c)) [
      | inl k ↦ k
      | inr k ↦
          let m : c * ((d + (c - 1)) / c) ≤ c * i = mul-le-mul_left c k in
          absurd (omega (arith, m))
    ]

-- m steps of 1 upwards stay below b, and downwards above b
ahead_by : (a b : ℤ) (m : ℕ) → a <ℤ b → (m < nat_abs (b -ℤ a)) ↔ ((a +ℤ pos m) <ℤ b)
ahead_by a b m h = (λ l. omega (arith, ints), λ l. omega (arith, ints))

after_by : (a b : ℤ) (m : ℕ) → b <ℤ a → (m < nat_abs (a -ℤ b)) ↔ (b <ℤ (a +ℤ neg_ℤ (pos m)))
after_by a b m h = (λ l. omega (arith, ints), λ l. omega (arith, ints))

within_up : (a b : ℤ) (m : ℕ) → (m < (if int_lt a b then nat_abs (b -ℤ a) else 0)) ↔ ((a +ℤ pos m) <ℤ b)
within_up a b m = go (int_lt a b) refl
  where
    go : (t : Bool) → int_lt a b ≡ t → (m < (if t then nat_abs (b -ℤ a) else 0)) ↔ ((a +ℤ pos m) <ℤ b)
    go true e = let h : a <ℤ b = omega (arith, ints) in ahead_by a b m h
    go false e = (λ l. absurd (omega arith), λ l. absurd (omega (arith, ints)))

within_down : (a b : ℤ) (m : ℕ) → (m < (if int_lt b a then nat_abs (a -ℤ b) else 0)) ↔ (b <ℤ (a +ℤ neg_ℤ (pos m)))
within_down a b m = go (int_lt b a) refl
  where
    go : (t : Bool) → int_lt b a ≡ t → (m < (if t then nat_abs (a -ℤ b) else 0)) ↔ (b <ℤ (a +ℤ neg_ℤ (pos m)))
    go true e = let h : b <ℤ a = omega (arith, ints) in after_by a b m h
    go false e = (λ l. absurd (omega arith), λ l. absurd (omega (arith, ints)))

upwards : (a b : ℤ) (c : ℕ) → 0 < c → distance a b (pos c) ≡ (if int_lt a b then nat_abs (b -ℤ a) else 0)
upwards a b c h =
    let e : int_lt (pos 0) (pos c) ≡ true = grind (arith, ints) in
    rw e refl

both_ways : {P Q R : Type 0} → P ↔ Q → Q ↔ R → P ↔ R
both_ways f g = (λ p. g.0 (f.0 p), λ r. f.1 (g.1 r))

pub range_up : (a b : ℤ) (c i : ℕ) → 0 < c → (i < steps_between a b (pos c)) ↔ ((a +ℤ (pos i *ℤ pos c)) <ℤ b)
range_up a b c i h = rw (upwards a b c h) (both_ways (multiples c (if int_lt a b then nat_abs (b -ℤ a) else 0) i h) (within_up a b (i * c)))

pub range_down : (a b : ℤ) (c i : ℕ) → (i < steps_between a b (negsuc c)) ↔ (b <ℤ (a +ℤ (pos i *ℤ negsuc c)))
range_down a b c i = both_ways (multiples (suc c) (if int_lt b a then nat_abs (a -ℤ b) else 0) i (omega arith)) (within_down a b (i * suc c))
