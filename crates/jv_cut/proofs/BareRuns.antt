-- A text that is no array, object or string is the longest prefix of bare bytes.
use Rattle.std.proofs.Common.{◌≡◌, inl, inr, ℕ, suc, ◌+◌, ◌≤◌, List, [], ◌∷◌, length, Bool, true, false, cond, not, refl, sym, ap, ◌∙◌, arith, lit≤}
use Rattle.std.proofs.lemmas.Bool.{cases_Bool, cases_lt, or_cases, eqb-true, eqb-false, eq-eqb, ne_eqb, lt-ltb, le-ltb, true≢false}
use Rattle.std.specs.Prelude.{◌||◌, ◌==◌, ◌&&◌, nat_lt}
use Rattle.jv_cut.specs.Bytes.{is_bare, opens, is_quote}
use Rattle.jv_cut.specs.Text.{End, ends, unended, too_long, max_text, bare, text_end}
use Rattle.jv_cut.specs.laws.BareRuns.{bare_len, bare_end}
use Rattle.jv_cut.proofs.Bytes.{bare_goes, bare_ends, bare_long, bare_stops, bare_waits, starts_bare}

-- n bytes were read, and m of the l that follow are the rest of the run
abbrev answer : ℕ → Bool → ℕ → ℕ → End
answer n ended m l = cond (nat_lt max_text (n + m)) too_long (cond ((m == l) && not ended) unended (ends (n + m)))

same_suc : (a b : ℕ) → (a == b) ≡ (1 + a == suc b)
same_suc a b =
    elim (cases_Bool (a == b)) [
      | inl y ↦ let e = eqb-true a b y in y ∙ sym (eq-eqb (1 + a) (suc b) (omega (arith, e)))
      | inr n ↦ let d = eqb-false a b n in n ∙ sym (ne_eqb (1 + a) (suc b) (λ e. d (omega (arith, e))))
    ]

one_less : (n : ℕ) (ended : Bool) (m l : ℕ) → answer (n + 1) ended m l ≡ answer n ended (1 + m) (suc l)
one_less n ended m l =
    let e : n + 1 + m ≡ n + (1 + m) = omega arith in
    ap (λ t. cond (nat_lt max_text t) too_long (cond ((m == l) && not ended) unended (ends t))) e
    ∙ ap (λ b. cond (nat_lt max_text (n + (1 + m))) too_long (cond (b && not ended) unended (ends (n + (1 + m))))) (same_suc m l)

run_over : (n : ℕ) (ended : Bool) (l : ℕ) → n ≤ max_text → answer n ended 0 (suc l) ≡ ends n
run_over n ended l h =
    let e : n + 0 ≡ n = omega arith in
    let ne : (0 == suc l) ≡ false = ne_eqb 0 (suc l) (λ z. omega arith) in
    rw (e, le-ltb max_text n h, ne) refl

all_read : (n : ℕ) (ended : Bool) → n ≤ max_text → bare n ended [] ≡ answer n ended 0 0
all_read n true h = let e : n + 0 ≡ n = omega arith in bare_stops n ∙ sym (rw (e, le-ltb max_text n h) refl)
all_read n false h = let e : n + 0 ≡ n = omega arith in bare_waits n ∙ sym (rw (e, le-ltb max_text n h) refl)

run_long : (n : ℕ) (ended : Bool) (m l : ℕ) → max_text ≤ n → answer n ended (1 + m) l ≡ too_long
run_long n ended m l h = rw (lt-ltb max_text (n + (1 + m)) (omega (arith, h))) refl

len_more : (x : ℕ) (xs : List ℕ) → is_bare x ≡ true → bare_len (x ∷ xs) ≡ 1 + bare_len xs
len_more x xs b = rw b refl

len_none : (x : ℕ) (xs : List ℕ) → is_bare x ≡ false → bare_len (x ∷ xs) ≡ 0
len_none x xs b = rw b refl

bare_is : (n : ℕ) (ended : Bool) (xs : List ℕ) → n ≤ max_text → bare n ended xs ≡ answer n ended (bare_len xs) (length xs)
bare_is n ended [] h = all_read n ended h
bare_is n ended (x ∷ xs) h =
    elim (cases_Bool (is_bare x)) [
      | inr other ↦ bare_ends n ended x xs other ∙ sym (ap (λ m. answer n ended m (suc (length xs))) (len_none x xs other) ∙ run_over n ended (length xs) h)
      | inl same ↦
          elim (cases_lt n max_text) [
            | inl short ↦
                bare_goes n ended x xs same short ∙ bare_is (n + 1) ended xs (omega (arith, short)) ∙ one_less n ended (bare_len xs) (length xs)
                ∙ sym (ap (λ m. answer n ended m (suc (length xs))) (len_more x xs same))
            | inr long ↦ bare_long n ended x xs same long ∙ sym (ap (λ m. answer n ended m (suc (length xs))) (len_more x xs same) ∙ run_long n ended (bare_len xs) (suc (length xs)) long)
          ]
    ]

no_bracket : (x : ℕ) → opens x ≡ true → is_bare x ≡ false
no_bracket x o =
    elim (or_cases (x == 123) (x == 91) o) [
      | inl e ↦ let v : x ≡ 123 = eqb-true x 123 e in rw v refl
      | inr e ↦ let v : x ≡ 91 = eqb-true x 91 e in rw v refl
    ]

no_quote : (x : ℕ) → is_quote x ≡ true → is_bare x ≡ false
no_quote x q = let v : x ≡ 34 = eqb-true x 34 q in rw v refl

enters_none : (x : ℕ) → is_bare x ≡ true → (opens x || is_quote x) ≡ false
enters_none x b =
    elim (cases_Bool (opens x || is_quote x)) [
      | inr other ↦ other
      | inl same ↦ elim (or_cases (opens x) (is_quote x) same) [ inl o ↦ absurd (true≢false (sym b ∙ no_bracket x o)) | inr q ↦ absurd (true≢false (sym b ∙ no_quote x q)) ]
    ]

pub text_is_bare : (later : Bool) (x : ℕ) (xs : List ℕ) → is_bare x ≡ true → text_end later (x ∷ xs) ≡ bare_end later (x ∷ xs)
text_is_bare later x xs b =
    let m = bare_len (x ∷ xs) in
    let none : 0 + m ≡ m = omega arith in
    starts_bare later x xs (enters_none x b) b ∙ bare_is 0 later (x ∷ xs) (lit≤ tt) ∙ ap (λ t. cond (nat_lt max_text t) too_long (cond ((m == length (x ∷ xs)) && not later) unended (ends t))) none
