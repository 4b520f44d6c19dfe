-- The numbers of a range, one after the other.
use Rattle.std.proofs.Common.{◌≡◌, ℕ, zero, suc, ◌+◌, ◌*◌, ◌<◌, List, [], ◌∷◌, map, length, ℤ, pos, negsuc, refl, sym, ap, subst, ◌∙◌, arith, w64}
use Rattle.std.proofs.lemmas.List.FromFn.{length-map-range_with_len}
use Rattle.std.proofs.lemmas.Int.{ints}
use Rattle.std.specs.Prelude.{◌↔◌, ◌+ℤ◌, ◌*ℤ◌, ◌<ℤ◌, int_lt, IsTrue, FitsSigned}
use Rattle.std.specs.List.{range_with_len}
use Rattle.jv_data.specs.Value.{number}
use Rattle.jq_meaning.specs.Runs.{Item, plain, Run, Done, one, before}
use Rattle.jq_meaning.specs.Builtins.{steps_between, step_from, numbers_up_to}

-- What a law says about ranges.
abbrev pub Upwards : Type 0
Upwards = (start end : ℤ) (step i : ℕ) → 0 < step → (i < steps_between start end (pos step)) ↔ ((start +ℤ (pos i *ℤ pos step)) <ℤ end)

abbrev pub Downwards : Type 0
Downwards = (start end : ℤ) (step i : ℕ) → (i < steps_between start end (negsuc step)) ↔ (end <ℤ (start +ℤ (pos i *ℤ negsuc step)))

-- ---- when a number is before the end

first : (a s : ℤ) → a +ℤ (pos 0 *ℤ s) ≡ a
first a (pos s) = omega (arith, ints)
first a (negsuc s) = omega (arith, ints)

pub before_up : Upwards → (a b s : ℤ) → pos 0 <ℤ s → (a <ℤ b) ↔ (0 < steps_between a b s)
before_up up a b (pos s) h =
    let k : 0 < s = omega (arith, ints) in
    let f = up a b s 0 k in
    (λ l. f.1 (subst (λ n. n <ℤ b) (sym (first a (pos s))) l), λ l. subst (λ n. n <ℤ b) (first a (pos s)) (f.0 l))
before_up up a b (negsuc s) h = absurd (omega (arith, ints))

pub before_down : Downwards → (a b s : ℤ) → s <ℤ pos 0 → (b <ℤ a) ↔ (0 < steps_between a b s)
before_down down a b (pos s) h = absurd (omega (arith, ints))
before_down down a b (negsuc s) h =
    let f = down a b s 0 in
    (λ l. f.1 (subst (λ n. b <ℤ n) (sym (first a (negsuc s))) l), λ l. subst (λ n. b <ℤ n) (first a (negsuc s)) (f.0 l))

pub tested : (a b : ℤ) {P : Type 0} → (a <ℤ b) ↔ P → IsTrue (int_lt a b) ↔ P
tested a b f = (λ l. let k : a <ℤ b = omega (arith, ints) in f.0 k, λ p. let k = f.1 p in grind (arith, ints))

-- ---- one step on

one_on : (a s : ℤ) (i : ℕ) → a +ℤ (pos (suc i) *ℤ s) ≡ (a +ℤ s) +ℤ (pos i *ℤ s)
one_on a (pos s) i = let e : suc i * s ≡ i * s + s = omega arith in omega (arith, ints)
one_on a (negsuc s) i = let e : suc i * suc s ≡ i * suc s + suc s = omega arith in omega (arith, ints)

one_more : (m n : ℕ) → 0 < m → ((i : ℕ) → (suc i < m) ↔ (i < n)) → m ≡ suc n
one_more zero n h same = absurd (omega (arith, h))
one_more (suc m) n h same =
    let p = same n in let q = same m in
    grind (arith, p, q)

pub steps_on : Upwards → Downwards → (a b s : ℤ) → 0 < steps_between a b s → steps_between a b s ≡ suc (steps_between (a +ℤ s) b s)
steps_on up down a b (pos zero) h = absurd (omega (arith, h))
steps_on up down a b (pos (suc s)) h =
    let k : 0 < suc s = omega arith in
    one_more (steps_between a b (pos (suc s))) (steps_between (a +ℤ pos (suc s)) b (pos (suc s))) h (λ i.
    let e = one_on a (pos (suc s)) i in
    let f = up a b (suc s) (suc i) k in
    let g = up (a +ℤ pos (suc s)) b (suc s) i k in
    (λ l. g.1 (subst (λ n. n <ℤ b) e (f.0 l)), λ l. f.1 (subst (λ n. n <ℤ b) (sym e) (g.0 l))))
steps_on up down a b (negsuc s) h =
    one_more (steps_between a b (negsuc s)) (steps_between (a +ℤ negsuc s) b (negsuc s)) h (λ i.
    let e = one_on a (negsuc s) i in
    let f = down a b s (suc i) in
    let g = down (a +ℤ negsuc s) b s i in
    (λ l. g.1 (subst (λ n. b <ℤ n) e (f.0 l)), λ l. f.1 (subst (λ n. b <ℤ n) (sym e) (g.0 l))))

-- if the second number is before the end, so is the first
pub steps_back : Upwards → Downwards → (a b s : ℤ) → 0 < steps_between (a +ℤ s) b s → 0 < steps_between a b s
steps_back up down a b (pos zero) h = absurd (omega (arith, h))
steps_back up down a b (pos (suc s)) h =
    let k : 0 < suc s = omega arith in
    let e = one_on a (pos (suc s)) 0 in
    let l : suc 0 < steps_between a b (pos (suc s)) = (up a b (suc s) (suc 0) k).1 (subst (λ n. n <ℤ b) (sym e) ((up (a +ℤ pos (suc s)) b (suc s) 0 k).0 h)) in
    omega (arith, l)
steps_back up down a b (negsuc s) h =
    let e = one_on a (negsuc s) 0 in
    let l : suc 0 < steps_between a b (negsuc s) = (down a b s (suc 0)).1 (subst (λ n. b <ℤ n) (sym e) ((down (a +ℤ negsuc s) b s 0).0 h)) in
    omega (arith, l)

last_of : Upwards → Downwards → (a b s : ℤ) → 0 < steps_between a b s → ¬ (0 < steps_between (a +ℤ s) b s) → steps_between a b s ≡ 1
last_of up down a b s h none = let e = steps_on up down a b s h in grind (arith, none)

-- a number after the greatest one is after the end
pub ends_at : Upwards → Downwards → (a b s : ℤ) → FitsSigned w64 a → FitsSigned w64 b → ¬ (FitsSigned w64 (a +ℤ s)) → ¬ (0 < steps_between (a +ℤ s) b s)
ends_at up down a b (pos zero) f g over l = let e : a +ℤ pos zero ≡ a = omega (arith, ints) in over (subst (FitsSigned w64) (sym e) f)
ends_at up down a b (pos (suc s)) f g over l =
    let h : pos 0 <ℤ pos (suc s) = omega (arith, ints) in
    let k = (before_up up (a +ℤ pos (suc s)) b (pos (suc s)) h).1 l in
    over (omega (arith, ints))
ends_at up down a b (negsuc s) f g over l =
    let h : negsuc s <ℤ pos 0 = omega (arith, ints) in
    let k = (before_down down (a +ℤ negsuc s) b (negsuc s) h).1 l in
    over (omega (arith, ints))

-- ---- the numbers themselves

shifted : (a s : ℤ) (k n : ℕ) → map (step_from a s) (range_with_len (k + 1) n) ≡ map (step_from (a +ℤ s) s) (range_with_len k n)
shifted a s k zero = refl
shifted a s k (suc n) =
    let e : k + 1 ≡ suc k = omega arith in
    ap (λ i. step_from a s i ∷ map (step_from a s) (range_with_len (k + 1 + 1) n)) e
    ∙ ap (λ i. plain (number i) ∷ map (step_from a s) (range_with_len (k + 1 + 1) n)) (one_on a s k)
    ∙ ap (λ xs. step_from (a +ℤ s) s k ∷ xs) (shifted a s (k + 1) n)

pub numbers_on : Upwards → Downwards → (a b s n : ℤ) → 0 < steps_between a b s → n ≡ a +ℤ s → numbers_up_to a b s ≡ before (plain (number a) ∷ []) (numbers_up_to n b s)
numbers_on up down a b s n h e =
    ap (λ m. done (map (step_from a s) (range_with_len 0 m))) (steps_on up down a b s h)
    ∙ ap (λ i. done (plain (number i) ∷ map (step_from a s) (range_with_len 1 (steps_between (a +ℤ s) b s)))) (first a s)
    ∙ ap (λ xs. done (plain (number a) ∷ xs)) (shifted a s 0 (steps_between (a +ℤ s) b s))
    ∙ ap (λ m. before (plain (number a) ∷ []) (numbers_up_to m b s)) (sym e)
  where
    done : List Item → Run Item
    done xs = record { items = xs; ending = Done }

pub one_number : Upwards → Downwards → (a b s : ℤ) → 0 < steps_between a b s → (0 < steps_between (a +ℤ s) b s → ⊥) → numbers_up_to a b s ≡ one (plain (number a))
one_number up down a b s h none =
    ap (λ m. record { items = map (step_from a s) (range_with_len 0 m); ending = Done }) (last_of up down a b s h none)
    ∙ ap (λ i. one (plain (number i))) (first a s)

pub numbers_counted : (a b s : ℤ) → length (numbers_up_to a b s).items ≡ steps_between a b s
numbers_counted a b s = length-map-range_with_len (step_from a s) 0 (steps_between a b s)
