-- Lists whose first element is left out, and stacks that are cut.
use Rattle.std.proofs.Common.{◌≡◌, ℕ, suc, ◌<◌, ◌≤◌, List, [], ◌∷◌, length, nat_lt, if◌then◌else◌, Bool, true, false, refl, ap, arith}
use Rattle.std.proofs.lemmas.Bool.Decides.{nat_tests}
use Rattle.jq_meaning.specs.machine.Stack.{cut}
use Rattle.jq_state.specs.Views.{without_first}

pub shorter : {A : Type 0} (xs ys : List A) (x : A) → xs ≡ x ∷ without_first xs → ys ≡ without_first xs → length ys < length xs
shorter [] ys x e f = absurd (cc)
shorter (z ∷ zs) ys x e f = let l : length ys ≡ length zs = ap length f in omega (arith, l)

cut_above-at : {A : Type 0} (t : Bool) (x : A) (xs ys : List A) (h : ℕ) → nat_lt (length xs) (suc h) ≡ t → length xs < suc h → (if t then x ∷ xs else ys) ≡ x ∷ xs
cut_above-at true x xs ys h e l = refl
cut_above-at false x xs ys h e l = let q : suc h ≤ length xs = grind (arith, nat_tests) in absurd (omega arith)

-- above its height a stack is left as it is
pub cut_above : {A : Type 0} (h : ℕ) (xs : List A) → length xs ≤ h → cut (suc h) xs ≡ xs
cut_above h [] l = refl
cut_above h (x ∷ xs) l = cut_above-at (nat_lt (length xs) (suc h)) x xs (cut (suc h) xs) h refl (omega arith)
