-- The end of an array, an object or a string, by its prefixes.
use Rattle.std.proofs.Common.{◌≡◌, inl, inr, ◌↔◌, ℕ, zero, suc, ◌+◌, ◌-◌, ◌<◌, ◌≤◌, List, [], ◌∷◌, ◌++◌, length, take, drop, get_or, Bool, true, false, cond, refl, sym, ap, ◌∙◌, subst, arith, length-append, lit<, lit≤}
use Rattle.std.proofs.lemmas.Bool.{cases_Bool, cases_lt, or_cases, and_cases, eqb-true, eqb-false, eq-eqb, ne_eqb, true≢false}
use Rattle.std.proofs.lemmas.List.{take_more, drop_more, drop_all}
use Rattle.std.proofs.lemmas.List.Elements.{filter-append}
use Rattle.std.specs.Prelude.{◌||◌, ◌==◌, ◌&&◌}
use Rattle.std.specs.List.{filter}
use Rattle.jv_cut.specs.Bytes.{opens, closes, is_quote}
use Rattle.jv_cut.specs.Text.{End, ends, unended, too_deep, too_long, misplaced, max_text, max_nesting, level, next_quote, is_outside, after_byte, is_level, nested, text_end}
use Rattle.jv_cut.specs.laws.Fronts.{quote_after, outside_from, outside_strings, count_opens, count_closes, is_closed, open_brackets, GoesOn, IsShortest, IsOpen, IsTooDeep, IsTooLong}
use Rattle.jv_cut.specs.declared.nesting.Quote.{Quote}
use Rattle.jv_cut.specs.declared.nesting.Quote.TheVariants.{Outside}
use Rattle.jv_cut.specs.declared.nesting.Nest.{Nest}
use Rattle.jv_cut.proofs.Bytes.{nested_goes, nested_ends, nested_deep, nested_long, nested_waits, starts_nested, entered}

-- ---- one more byte

quote_more : (quote : Quote) (xs : List ℕ) (x : ℕ) → quote_after quote (xs ++ x ∷ []) ≡ next_quote (quote_after quote xs) x
quote_more quote [] x = refl
quote_more quote (y ∷ ys) x = quote_more (next_quote quote y) ys x

-- the byte, if it is outside strings
abbrev outside_one : Quote → ℕ → List ℕ
outside_one quote x = cond (is_outside quote) (x ∷ []) []

outside_cons : (b : Bool) (y : ℕ) (xs ys zs : List ℕ) → xs ≡ ys ++ zs → cond b (y ∷ xs) xs ≡ cond b (y ∷ ys) ys ++ zs
outside_cons true y xs ys zs e = ap (λ l. y ∷ l) e
outside_cons false y xs ys zs e = e

outside_more : (quote : Quote) (xs : List ℕ) (x : ℕ) → outside_from quote (xs ++ x ∷ []) ≡ outside_from quote xs ++ outside_one (quote_after quote xs) x
outside_more quote [] x = refl
outside_more quote (y ∷ ys) x = outside_cons (is_outside quote) y _ _ _ (outside_more (next_quote quote y) ys x)

passing : (b : Bool) (x : ℕ) → length (cond b (x ∷ []) []) ≡ cond b 1 0
passing true x = refl
passing false x = refl

count_one : (p : ℕ → Bool) (b : Bool) (x : ℕ) → length (filter p (cond b (x ∷ []) [])) ≡ cond b (cond (p x) 1 0) 0
count_one p true x = passing (p x) x
count_one p false x = refl

count_more : (p : ℕ → Bool) (front : List ℕ) (x : ℕ) → length (filter p (outside_strings (front ++ x ∷ []))) ≡ length (filter p (outside_strings front)) + cond (is_outside (quote_after Outside front)) (cond (p x) 1 0) 0
count_more p front x =
    let one = outside_one (quote_after Outside front) x in
    ap (λ l. length (filter p l)) (outside_more Outside front x) ∙ ap length (filter-append p (outside_strings front) one) ∙ length-append (filter p (outside_strings front)) (filter p one)
    ∙ ap (λ n. length (filter p (outside_strings front)) + n) (count_one p (is_outside (quote_after Outside front)) x)

opens_only : (x : ℕ) → opens x ≡ true → closes x ≡ false
opens_only x o =
    elim (or_cases (x == 123) (x == 91) o) [
      | inl e ↦ let v : x ≡ 123 = eqb-true x 123 e in rw v refl
      | inr e ↦ let v : x ≡ 91 = eqb-true x 91 e in rw v refl
    ]

quote_only : (x : ℕ) → is_quote x ≡ true → closes x ≡ false
quote_only x q = let v : x ≡ 34 = eqb-true x 34 q in rw v refl

enters_only : (x : ℕ) → (opens x || is_quote x) ≡ true → closes x ≡ false
enters_only x b = elim (or_cases (opens x) (is_quote x) b) [ inl o ↦ opens_only x o | inr q ↦ quote_only x q ]

depth_step : (d o c : ℕ) (outside opening closing : Bool) → d + c ≡ o → (opening ≡ true → closing ≡ false) → (outside ≡ true → closing ≡ true → 0 < d)
    → cond outside (cond opening (d + 1) (cond closing (d - 1) d)) d + (c + cond outside (cond closing 1 0) 0) ≡ o + cond outside (cond opening 1 0) 0
depth_step d o c false opening closing e one room = omega (arith, e)
depth_step d o c true true true e one room = absurd (true≢false (one refl))
depth_step d o c true true false e one room = omega (arith, e)
depth_step d o c true false true e one room = let some = room refl refl in omega (arith, e, some)
depth_step d o c true false false e one room = omega (arith, e)

-- ---- what is open after a prefix

record Fits (front : List ℕ) (nest : Nest) : Type 0 where
  pub quote : nest.quote ≡ quote_after Outside front
  pub depth : nest.depth + count_closes front ≡ count_opens front

fits_more : (front : List ℕ) (nest : Nest) (x : ℕ) → Fits front nest → (is_outside nest.quote ≡ true → closes x ≡ true → 0 < nest.depth) → Fits (front ++ x ∷ []) (after_byte nest x)
fits_more front nest x f room = record {
  quote = ap (λ q. next_quote q x) f.quote ∙ sym (quote_more Outside front x);
  depth =
      let here : is_outside (quote_after Outside front) ≡ is_outside nest.quote = ap is_outside (sym f.quote) in
      ap (λ c. (after_byte nest x).depth + c) (count_more closes front x ∙ ap (λ b. count_closes front + cond b (cond (closes x) 1 0) 0) here)
      ∙ depth_step nest.depth (count_opens front) (count_closes front) (is_outside nest.quote) (opens x) (closes x) f.depth (opens_only x) room
      ∙ sym (count_more opens front x ∙ ap (λ b. count_opens front + cond b (cond (opens x) 1 0) 0) here);
}

same_test : (d o c : ℕ) → d + c ≡ o → (o == c) ≡ (d == 0)
same_test d o c e =
    elim (cases_Bool (d == 0)) [
      | inl z ↦ let none = eqb-true d 0 z in eq-eqb o c (omega (arith, e, none)) ∙ sym z
      | inr z ↦ let some = eqb-false d 0 z in ne_eqb o c (λ s. some (omega (arith, e, s))) ∙ sym z
    ]

closed_is : (front : List ℕ) (nest : Nest) → Fits front nest → is_closed front ≡ is_level nest
closed_is front nest f = ap (λ b. b && is_outside (quote_after Outside front)) (same_test nest.depth (count_opens front) (count_closes front) f.depth) ∙ ap (λ q. (nest.depth == 0) && is_outside q) (sym f.quote)

left_over : (d o c : ℕ) → d + c ≡ o → o - c ≡ d
left_over d o c e = omega (arith, e)

depth_is : (front : List ℕ) (nest : Nest) → Fits front nest → open_brackets front ≡ nest.depth
depth_is front nest f = left_over nest.depth (count_opens front) (count_closes front) f.depth

goes_on : (bytes : List ℕ) (n : ℕ) (nest : Nest) → Fits (take n bytes) nest → is_level nest ≡ false → nest.depth ≤ max_nesting → GoesOn bytes n
goes_on bytes n nest f l d = record { unclosed = closed_is (take n bytes) nest f ∙ l; shallow = subst (λ o. o ≤ max_nesting) (sym (depth_is (take n bytes) nest f)) d }

-- ---- from byte to byte

record Reads (bytes : List ℕ) (n : ℕ) (nest : Nest) : Type 0 where
  pub fits : Fits (take n bytes) nest
  pub some : 0 < n
  pub within : n ≤ length bytes
  pub short : n ≤ max_text
  pub unclosed : is_level nest ≡ false
  pub goes : (k : ℕ) → 0 < k → k ≤ n → GoesOn bytes k

some_open : (nest : Nest) → is_level nest ≡ false → is_outside nest.quote ≡ true → 0 < nest.depth
some_open nest l o =
    elim (and_cases (nest.depth == 0) (is_outside nest.quote) l) [
      | inl z ↦ let some = eqb-false nest.depth 0 z in omega (arith, some)
      | inr z ↦ absurd (true≢false (sym o ∙ z))
    ]

fits_next : (bytes : List ℕ) (n : ℕ) (nest : Nest) → Reads bytes n nest → n < length bytes → Fits (take (n + 1) bytes) (after_byte nest (get_or bytes n 0))
fits_next bytes n nest r h =
    subst (λ front. Fits front (after_byte nest (get_or bytes n 0))) (sym (take_more bytes n 0 h)) (fits_more (take n bytes) nest (get_or bytes n 0) r.fits (λ o _. some_open nest r.unclosed o))

reads_more : (bytes : List ℕ) (n : ℕ) (nest next : Nest) → Reads bytes n nest → n < length bytes → n < max_text → Fits (take (n + 1) bytes) next → is_level next ≡ false → next.depth ≤ max_nesting → Reads bytes (n + 1) next
reads_more bytes n nest next r h short f l d = record {
  fits = f;
  some = omega arith;
  within = omega (arith, h);
  short = omega (arith, short);
  unclosed = l;
  goes = λ k some le.
      elim (cases_lt n k) [
        | inl more ↦ let e : n + 1 ≡ k = omega (arith, more, le) in subst (GoesOn bytes) e (goes_on bytes (n + 1) next f l d)
        | inr less ↦ r.goes k some less
      ];
}

abbrev pub EndsAs : End → List ℕ → Type 0
EndsAs (ends n) bytes = IsShortest bytes n
EndsAs unended bytes = IsOpen bytes
EndsAs too_deep bytes = IsTooDeep bytes
EndsAs too_long bytes = IsTooLong bytes
EndsAs misplaced bytes = ⊥

abbrev Ends : List ℕ → ℕ → Nest → Type 0
Ends bytes n nest = EndsAs (nested n nest (drop n bytes)) bytes

ends_as : (bytes : List ℕ) (n : ℕ) (nest : Nest) (e : End) → nested n nest (drop n bytes) ≡ e → EndsAs e bytes → Ends bytes n nest
ends_as bytes n nest e s h = subst (λ d. EndsAs d bytes) (sym s) h

at_end : (bytes : List ℕ) (n : ℕ) (nest : Nest) → Reads bytes n nest → length bytes ≤ n → Ends bytes n nest
at_end bytes n nest r h =
    ends_as bytes n nest unended (ap (nested n nest) (drop_all n bytes h) ∙ nested_waits n nest)
    (record { short = omega (arith, h, r.short); unclosed = λ k some le. r.goes k some (omega (arith, h, le)) })

-- the byte at n is read next
abbrev Next : List ℕ → ℕ → Nest → Nest
Next bytes n nest = after_byte nest (get_or bytes n 0)

at_byte : (bytes : List ℕ) (n : ℕ) (nest : Nest) → n < length bytes → nested n nest (drop n bytes) ≡ nested n nest (get_or bytes n 0 ∷ drop (n + 1) bytes)
at_byte bytes n nest h = ap (nested n nest) (drop_more bytes n 0 h)

is_long : (bytes : List ℕ) (n : ℕ) (nest : Nest) → Reads bytes n nest → n < length bytes → max_text ≤ n → Ends bytes n nest
is_long bytes n nest r h long =
    ends_as bytes n nest too_long (at_byte bytes n nest h ∙ nested_long n nest (get_or bytes n 0) (drop (n + 1) bytes) long)
    (record { long = omega (arith, h, long); unclosed = λ k some le. r.goes k some (omega (arith, long, le)) })

is_whole : (bytes : List ℕ) (n : ℕ) (nest : Nest) → Reads bytes n nest → n < length bytes → n < max_text → is_level (Next bytes n nest) ≡ true → Ends bytes n nest
is_whole bytes n nest r h short l =
    ends_as bytes n nest (ends (n + 1)) (at_byte bytes n nest h ∙ nested_ends n nest (get_or bytes n 0) (drop (n + 1) bytes) short l)
    (record {
      some = omega arith;
      within = omega (arith, h);
      short = omega (arith, short);
      closed = closed_is (take (n + 1) bytes) (Next bytes n nest) (fits_next bytes n nest r h) ∙ l;
      before = λ k some lt. r.goes k some (omega (arith, lt));
    })

is_deep : (bytes : List ℕ) (n : ℕ) (nest : Nest) → Reads bytes n nest → n < length bytes → n < max_text → is_level (Next bytes n nest) ≡ false → max_nesting < (Next bytes n nest).depth → Ends bytes n nest
is_deep bytes n nest r h short l d =
    let f = fits_next bytes n nest r h in
    ends_as bytes n nest too_deep (at_byte bytes n nest h ∙ nested_deep n nest (get_or bytes n 0) (drop (n + 1) bytes) short l d)
    (record {
      count = n + 1;
      some = omega arith;
      within = omega (arith, h);
      short = omega (arith, short);
      deep = subst (λ o. max_nesting < o) (sym (depth_is (take (n + 1) bytes) (Next bytes n nest) f)) d;
      unclosed = λ k some le.
          elim (cases_lt n k) [
            | inl more ↦ let e : n + 1 ≡ k = omega (arith, more, le) in subst (λ m. is_closed (take m bytes) ≡ false) e (closed_is (take (n + 1) bytes) (Next bytes n nest) f ∙ l)
            | inr less ↦ (r.goes k some less).unclosed
          ];
    })

walk : (fuel : ℕ) (bytes : List ℕ) (n : ℕ) (nest : Nest) → length bytes ≤ n + fuel → Reads bytes n nest → Ends bytes n nest
walk zero bytes n nest enough r = at_end bytes n nest r (omega (arith, enough))
walk (suc fuel) bytes n nest enough r =
    elim (cases_lt n (length bytes)) [
      | inr h ↦ at_end bytes n nest r h
      | inl h ↦
          elim (cases_lt n max_text) [
            | inr long ↦ is_long bytes n nest r h long
            | inl short ↦
                elim (cases_Bool (is_level (Next bytes n nest))) [
                  | inl l ↦ is_whole bytes n nest r h short l
                  | inr l ↦
                      elim (cases_lt max_nesting (Next bytes n nest).depth) [
                        | inl d ↦ is_deep bytes n nest r h short l d
                        | inr d ↦
                            ends_as bytes n nest (nested (n + 1) (Next bytes n nest) (drop (n + 1) bytes)) (at_byte bytes n nest h ∙ nested_goes n nest (get_or bytes n 0) (drop (n + 1) bytes) short l d)
                            (walk fuel bytes (n + 1) (Next bytes n nest) (omega (arith, enough)) (reads_more bytes n nest (Next bytes n nest) r h short (fits_next bytes n nest r h) l d))
                      ]
                ]
          ]
    ]

-- ---- from the first byte

first_fits : (x : ℕ) → (opens x || is_quote x) ≡ true → Fits (x ∷ []) (after_byte level x)
first_fits x b = fits_more [] level x (record { quote = refl; depth = refl }) (λ _ c. absurd (true≢false (sym c ∙ enters_only x b)))

first_reads : (x : ℕ) (xs : List ℕ) → (opens x || is_quote x) ≡ true → Reads (x ∷ xs) 1 (after_byte level x)
first_reads x xs b =
    let e = entered x b in
    record {
      fits = first_fits x b;
      some = omega arith;
      within = omega arith;
      short = lit≤ tt;
      unclosed = e.0;
      goes = λ k some le. let one : 1 ≡ k = omega (arith, some, le) in subst (GoesOn (x ∷ xs)) one (goes_on (x ∷ xs) 1 (after_byte level x) (first_fits x b) e.0 e.1);
    }

pub text_ends_as : (later : Bool) (x : ℕ) (xs : List ℕ) → (opens x || is_quote x) ≡ true → EndsAs (text_end later (x ∷ xs)) (x ∷ xs)
text_ends_as later x xs b =
    let e = entered x b in
    subst (λ d. EndsAs d (x ∷ xs)) (sym (starts_nested later x xs b ∙ nested_goes 0 level x xs (lit< tt) e.0 e.1)) (walk (length xs) (x ∷ xs) 1 (after_byte level x) (omega arith) (first_reads x xs b))

-- ---- at most one of the ends holds

crossed : {P : Type 0} (b : Bool) → b ≡ true → b ≡ false → P
crossed b y n = absurd (true≢false (sym y ∙ n))

too_many : {P : Type 0} (o : ℕ) → o ≤ max_nesting → max_nesting < o → P
too_many o a b = absurd (omega (arith, a, b))

apart_open : {P : Type 0} (bytes : List ℕ) (n : ℕ) → IsShortest bytes n → IsOpen bytes → P
apart_open bytes n s o = crossed (is_closed (take n bytes)) s.closed (o.unclosed n s.some s.within).unclosed

apart_deep : {P : Type 0} (bytes : List ℕ) (n : ℕ) → IsShortest bytes n → IsTooDeep bytes → P
apart_deep bytes n s d =
    elim (cases_lt d.count n) [
      | inl before ↦ too_many (open_brackets (take d.count bytes)) (s.before d.count d.some before).shallow d.deep
      | inr after ↦ crossed (is_closed (take n bytes)) s.closed (d.unclosed n s.some after)
    ]

apart_long : {P : Type 0} (bytes : List ℕ) (n : ℕ) → IsShortest bytes n → IsTooLong bytes → P
apart_long bytes n s l = crossed (is_closed (take n bytes)) s.closed (l.unclosed n s.some s.short).unclosed

open_deep : {P : Type 0} (bytes : List ℕ) → IsOpen bytes → IsTooDeep bytes → P
open_deep bytes o d = too_many (open_brackets (take d.count bytes)) (o.unclosed d.count d.some d.within).shallow d.deep

open_long : {P : Type 0} (bytes : List ℕ) → IsOpen bytes → IsTooLong bytes → P
open_long bytes o l = absurd (omega (arith, o.short, l.long))

deep_long : {P : Type 0} (bytes : List ℕ) → IsTooDeep bytes → IsTooLong bytes → P
deep_long bytes d l = too_many (open_brackets (take d.count bytes)) (l.unclosed d.count d.some d.short).shallow d.deep

one_shortest : (bytes : List ℕ) (m n : ℕ) → IsShortest bytes m → IsShortest bytes n → m ≡ n
one_shortest bytes m n s t =
    elim (cases_lt m n) [
      | inl less ↦ crossed (is_closed (take m bytes)) s.closed (t.before m s.some less).unclosed
      | inr more ↦ elim (cases_lt n m) [
        | inl less ↦ crossed (is_closed (take n bytes)) t.closed (s.before n t.some less).unclosed
        | inr same ↦ omega (arith, more, same)
      ]
    ]

one_end : (bytes : List ℕ) (d e : End) → EndsAs d bytes → EndsAs e bytes → d ≡ e
one_end bytes (ends m) (ends n) s t = ap ends (one_shortest bytes m n s t)
one_end bytes (ends m) unended s t = apart_open bytes m s t
one_end bytes (ends m) too_deep s t = apart_deep bytes m s t
one_end bytes (ends m) too_long s t = apart_long bytes m s t
one_end bytes (ends m) misplaced s t = absurd t
one_end bytes unended (ends n) s t = apart_open bytes n t s
one_end bytes unended unended s t = refl
one_end bytes unended too_deep s t = open_deep bytes s t
one_end bytes unended too_long s t = open_long bytes s t
one_end bytes unended misplaced s t = absurd t
one_end bytes too_deep (ends n) s t = apart_deep bytes n t s
one_end bytes too_deep unended s t = open_deep bytes t s
one_end bytes too_deep too_deep s t = refl
one_end bytes too_deep too_long s t = deep_long bytes s t
one_end bytes too_deep misplaced s t = absurd t
one_end bytes too_long (ends n) s t = apart_long bytes n t s
one_end bytes too_long unended s t = open_long bytes t s
one_end bytes too_long too_deep s t = deep_long bytes t s
one_end bytes too_long too_long s t = refl
one_end bytes too_long misplaced s t = absurd t
one_end bytes misplaced e s t = absurd s

pub ends_exactly : (later : Bool) (x : ℕ) (xs : List ℕ) (e : End) → (opens x || is_quote x) ≡ true → (text_end later (x ∷ xs) ≡ e) ↔ EndsAs e (x ∷ xs)
ends_exactly later x xs e b = (
  λ is. subst (λ d. EndsAs d (x ∷ xs)) is (text_ends_as later x xs b),
  λ holds. one_end (x ∷ xs) (text_end later (x ∷ xs)) e (text_ends_as later x xs b) holds,
)
