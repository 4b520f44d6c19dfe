-- Pages with room for one more input.
use Rattle.std.proofs.Common.{◌≡◌, ℕ, ◌+◌, ◌-◌, ◌<◌, ◌≤◌, List, ◌∷◌, ◌++◌, length, take, drop, get_or, sym, ◌∙◌, ap, subst, arith, length-append, length-take-le, get_or-append-add}
use Rattle.jq_pages.specs.Folds.{Fold}
use Rattle.jq_pages.specs.private.Reruns.{count_in}
use Rattle.jq_pages.specs.private.Pages.{IsFreePlace}
use Rattle.jq_pages.specs.private.Placed.{Halved, Opened}
use Rattle.jq_pages.specs.declared.page.Page.{Page}
use Rattle.jq_pages.proofs.Edits.{take_front}

pub least : (n : ℕ) → 0 ≤ n
least n = omega arith

none_fits : (n : ℕ) → n ≡ 0 → n + 1 ≤ 64
none_fits n e = omega arith

put_within : {A : Type 0} (xs ys : List A) (j : ℕ) (x : A) → j ≤ length xs → j < length (take j xs ++ (x ∷ ys))
put_within xs ys j x l =
    let n : length (take j xs) ≡ j = length-take-le j xs l in
    let m : length (take j xs ++ (x ∷ ys)) ≡ length (take j xs) + length (x ∷ ys) = length-append (take j xs) (x ∷ ys) in
    omega arith

two_within : {A : Type 0} (xs ys : List A) (j : ℕ) (x y : A) → j ≤ length xs → j + 1 < length (take j xs ++ (x ∷ y ∷ ys))
two_within xs ys j x y l =
    let n : length (take j xs) ≡ j = length-take-le j xs l in
    let m : length (take j xs ++ (x ∷ y ∷ ys)) ≡ length (take j xs) + length (x ∷ y ∷ ys) = length-append (take j xs) (x ∷ y ∷ ys) in
    omega arith

put_there : {A : Type 0} (xs ys : List A) (j : ℕ) (x d : A) → j ≤ length xs → get_or (take j xs ++ (x ∷ ys)) j d ≡ x
put_there xs ys j x d l =
    let front : length (take j xs) + 0 ≡ j = omega (arith, length-take-le j xs l) in
    ap (λ k. get_or (take j xs ++ (x ∷ ys)) k d) (sym front) ∙ get_or-append-add (take j xs) (x ∷ ys) 0 d

-- a page that was opened
pub opened_free : {T S : Type 0} (seen : T → S) (s : S) (old new : List (Page T)) (j k : ℕ) → Opened seen s old new j → j ≤ length old → count_in (take j new) + 0 ≡ k → IsFreePlace new k j 0
opened_free seen s old new j k x l spot = record {
  page = subst (λ (z : List _). j < length z) (sym x.list) (put_within old (drop j old) j x.page l);
  within = λ d. least _;
  fits = λ d. subst (λ (z : List _). length (get_or z j d).inputs.items + 1 ≤ 64) (sym x.list) (subst (λ (z : Page _). length z.inputs.items + 1 ≤ 64) (sym (put_there old (drop j old) j x.page d l)) (none_fits _ (ap length x.inputs)));
  spot = spot;
}

pub halved_first : {T S : Type 0} (seen : T → S) (r : Fold S) (s : S) (old new : List (Page T)) (j : ℕ) → Halved seen r s old new j → j ≤ length old → j < length new
halved_first seen r s old new j x l = subst (λ (z : List _). j < length z) (sym x.divided.list) (put_within old (x.divided.two ∷ drop (j + 1) old) j x.divided.one l)

pub halved_second : {T S : Type 0} (seen : T → S) (r : Fold S) (s : S) (old new : List (Page T)) (j : ℕ) → Halved seen r s old new j → j ≤ length old → j + 1 < length new
halved_second seen r s old new j x l = subst (λ (z : List _). j + 1 < length z) (sym x.divided.list) (two_within old (drop (j + 1) old) j x.divided.one x.divided.two l)

next_place : (a i k : ℕ) → a + i ≡ k - 1 → 0 < k → a + (i + 1) ≡ k
next_place a i k e l = omega arith

-- the place in the first part
pub halved_spot : {T S : Type 0} (seen : T → S) (r : Fold S) (s : S) (old new : List (Page T)) (j i k : ℕ) → Halved seen r s old new j → j ≤ length old → count_in (take j old) + i ≡ k - 1 → 0 < k → count_in (take j new) + (i + 1) ≡ k
halved_spot seen r s old new j i k x l e some =
    let n : length (take j old) ≡ j = length-take-le j old l in
    ap (λ (z : List _). count_in (take j z) + (i + 1)) x.divided.list
    ∙ ap (λ z. count_in z + (i + 1)) (take_front (take j old) (x.divided.one ∷ x.divided.two ∷ drop (j + 1) old) j (sym n))
    ∙ next_place _ i k e some

pub just_within : (j n : ℕ) → j < n → j ≤ n
just_within j n l = omega arith
