-- Reading a text byte by byte.
use Rattle.std.proofs.Common.{◌≡◌, ℕ, ◌+◌, ◌<◌, ◌≤◌, List, [], ◌∷◌, ◌++◌, length, take, drop, Bool, true, false, refl, sym, ap, ◌∙◌, arith, append_assoc, append-nil, subst, lit<, lit≤, inl, inr}
use Rattle.std.proofs.lemmas.Bool.{lt-leb, le-leb, lt-ltb, le-ltb, or_cases, eqb-true}
use Rattle.std.proofs.lemmas.List.{take_more, drop_more, take-append-drop, drop_all}
use Rattle.std.specs.Prelude.{get_or, ◌||◌}
use Rattle.jv_cut.specs.Bytes.{is_bare, opens, is_quote}
use Rattle.jv_cut.specs.Text.{End, ends, unended, too_deep, too_long, misplaced, max_text, max_nesting, level, after_byte, is_level, nested, bare, text_end}
use Rattle.jv_cut.specs.Rest.{MayFollow}
use Rattle.jv_cut.specs.private.Scan.{Leads, Finds}
use Rattle.jv_cut.specs.declared.scanning.Scan.TheVariants.{Bare, Nested}
use Rattle.jv_cut.specs.declared.scanning.Found.TheVariants.{Text, More, Fault}
use Rattle.jv_cut.specs.declared.splitting.CutFault.TheVariants.{Misplaced, TooDeep, TooLong}
use Rattle.jv_cut.specs.declared.nesting.Nest.{Nest}

-- ---- one byte

pub bare_goes : (n : ℕ) (later : Bool) (x : ℕ) (xs : List ℕ) → is_bare x ≡ true → n < max_text → bare n later (x ∷ xs) ≡ bare (n + 1) later xs
unfolding bare
bare_goes n later x xs b h = rw (b, lt-leb max_text n h) refl

pub bare_ends : (n : ℕ) (later : Bool) (x : ℕ) (xs : List ℕ) → is_bare x ≡ false → bare n later (x ∷ xs) ≡ ends n
unfolding bare
bare_ends n later x xs b = rw b refl

pub bare_long : (n : ℕ) (later : Bool) (x : ℕ) (xs : List ℕ) → is_bare x ≡ true → max_text ≤ n → bare n later (x ∷ xs) ≡ too_long
unfolding bare
bare_long n later x xs b h = rw (b, le-leb max_text n h) refl

pub nested_goes : (n : ℕ) (nest : Nest) (x : ℕ) (xs : List ℕ) → n < max_text → is_level (after_byte nest x) ≡ false → (after_byte nest x).depth ≤ max_nesting → nested n nest (x ∷ xs) ≡ nested (n + 1) (after_byte nest x) xs
unfolding nested
nested_goes n nest x xs h l d = rw (lt-leb max_text n h, l, le-ltb max_nesting (after_byte nest x).depth d) refl

pub nested_ends : (n : ℕ) (nest : Nest) (x : ℕ) (xs : List ℕ) → n < max_text → is_level (after_byte nest x) ≡ true → nested n nest (x ∷ xs) ≡ ends (n + 1)
unfolding nested
nested_ends n nest x xs h l = rw (lt-leb max_text n h, l) refl

pub nested_deep : (n : ℕ) (nest : Nest) (x : ℕ) (xs : List ℕ) → n < max_text → is_level (after_byte nest x) ≡ false → max_nesting < (after_byte nest x).depth → nested n nest (x ∷ xs) ≡ too_deep
unfolding nested
nested_deep n nest x xs h l d = rw (lt-leb max_text n h, l, lt-ltb max_nesting (after_byte nest x).depth d) refl

pub nested_long : (n : ℕ) (nest : Nest) (x : ℕ) (xs : List ℕ) → max_text ≤ n → nested n nest (x ∷ xs) ≡ too_long
unfolding nested
nested_long n nest x xs h = rw (le-leb max_text n h) refl

-- ---- from the position that was reached

abbrev Rule : Type 0
Rule = Bool → List ℕ → End

-- the result with all bytes
pub leads_all : (bytes : List ℕ) (n : ℕ) (rest : Rule) → Leads bytes n rest → (later : Bool) (more : List ℕ) → text_end later (bytes ++ more) ≡ rest later (drop n bytes ++ more)
leads_all bytes n rest l later more =
    ap (λ bs. text_end later (bs ++ more)) (sym (take-append-drop n bytes)) ∙ ap (text_end later) (append_assoc (take n bytes) (drop n bytes) more) ∙ l.goes later (drop n bytes ++ more)

-- the byte at n is read next
pub leads_at : (bytes : List ℕ) (n : ℕ) (rest : Rule) → Leads bytes n rest → n < length bytes → (later : Bool) (more : List ℕ) → text_end later (bytes ++ more) ≡ rest later (get_or bytes n 0 ∷ (drop (n + 1) bytes ++ more))
leads_at bytes n rest l h later more = leads_all bytes n rest l later more ∙ ap (λ bs. rest later (bs ++ more)) (drop_more bytes n 0 h)

leads_more : (bytes : List ℕ) (n : ℕ) (rest next : Rule) → Leads bytes n rest → n < length bytes → n < max_text → ((later : Bool) (more : List ℕ) → rest later (get_or bytes n 0 ∷ more) ≡ next later more) → Leads bytes (n + 1) next
leads_more bytes n rest next l h short e = record {
  some = omega arith;
  within = omega arith;
  short = omega arith;
  goes = λ later more. ap (λ bs. text_end later (bs ++ more)) (take_more bytes n 0 h) ∙ ap (text_end later) (append_assoc (take n bytes) (get_or bytes n 0 ∷ []) more) ∙ l.goes later (get_or bytes n 0 ∷ more) ∙ e later more;
}

-- ---- a text that is no array, object or string

abbrev BareAt : List ℕ → ℕ → Type 0
BareAt bytes n = Leads bytes n (λ later more. bare n later more)

pub bare_more : (bytes : List ℕ) (n : ℕ) → BareAt bytes n → n < length bytes → n < max_text → is_bare (get_or bytes n 0) ≡ true → BareAt bytes (n + 1)
bare_more bytes n l h short b = leads_more bytes n _ _ l h short (λ later more. bare_goes n later (get_or bytes n 0) more b short)

pub bare_text : (bytes : List ℕ) (n : ℕ) (ended : Bool) → BareAt bytes n → n < length bytes → is_bare (get_or bytes n 0) ≡ false → Finds (Text n) bytes ended
bare_text bytes n ended l h b = (l.some, l.within, λ later more _. leads_at bytes n _ l h later more ∙ bare_ends n later (get_or bytes n 0) _ b)

pub bare_too_long : (bytes : List ℕ) (n : ℕ) (ended : Bool) → BareAt bytes n → n < length bytes → max_text ≤ n → is_bare (get_or bytes n 0) ≡ true → Finds (Fault TooLong) bytes ended
bare_too_long bytes n ended l h long b = (tt, λ later more _. leads_at bytes n _ l h later more ∙ bare_long n later (get_or bytes n 0) _ b long)

all_read : (bytes : List ℕ) (n : ℕ) (rest : Rule) → Leads bytes n rest → length bytes ≤ n → (later : Bool) (more : List ℕ) → text_end later (bytes ++ more) ≡ rest later more
all_read bytes n rest l h later more = leads_all bytes n rest l later more ∙ ap (λ bs. rest later (bs ++ more)) (drop_all n bytes h)

pub bare_stops : (n : ℕ) → bare n true [] ≡ ends n
unfolding bare
bare_stops n = refl

pub bare_waits : (n : ℕ) → bare n false [] ≡ unended
unfolding bare
bare_waits n = refl

pub nested_waits : (n : ℕ) (nest : Nest) → nested n nest [] ≡ unended
unfolding nested
nested_waits n nest = refl

at_end : (bytes : List ℕ) (n : ℕ) → BareAt bytes n → length bytes ≤ n → (later : Bool) (more : List ℕ) → MayFollow true more later → text_end later (bytes ++ more) ≡ ends n
at_end bytes n l h later more m =
    let e = m.none refl in
    all_read bytes n _ l h later more ∙ ap (λ bs. bare n later bs) e.0 ∙ ap (λ b. bare n b []) e.1 ∙ bare_stops n

pub bare_at_end : (bytes : List ℕ) (n : ℕ) → BareAt bytes n → length bytes ≤ n → Finds (Text (length bytes)) bytes true
bare_at_end bytes n l h =
    let e : length bytes ≡ n = omega arith in
    (omega arith, omega arith, λ later more m. at_end bytes n l h later more m ∙ ap ends (sym e))

moved : (bytes : List ℕ) (m n : ℕ) → n ≡ m → BareAt bytes n → BareAt bytes m
moved bytes m n e l = subst (BareAt bytes) e l

pub bare_open : (bytes : List ℕ) (n : ℕ) → BareAt bytes n → length bytes ≤ n → Finds (More (Bare (length bytes))) bytes false
bare_open bytes n l h =
    let e : n ≡ length bytes = omega arith in
    (moved bytes (length bytes) n e l, omega (arith, l.short), ap (text_end false) (sym (append-nil bytes)) ∙ all_read bytes n _ l h false [] ∙ bare_waits n)

-- ---- an array, an object or a string

abbrev NestedAt : List ℕ → ℕ → Nest → Type 0
NestedAt bytes n nest = Leads bytes n (λ later more. nested n nest more)

pub nested_more : (bytes : List ℕ) (n : ℕ) (nest : Nest) → NestedAt bytes n nest → n < length bytes → n < max_text → is_level (after_byte nest (get_or bytes n 0)) ≡ false → (after_byte nest (get_or bytes n 0)).depth ≤ max_nesting → NestedAt bytes (n + 1) (after_byte nest (get_or bytes n 0))
nested_more bytes n nest l h short v d = leads_more bytes n _ _ l h short (λ later more. nested_goes n nest (get_or bytes n 0) more short v d)

-- a byte that leaves the nesting state unchanged
pub nested_same : (bytes : List ℕ) (n : ℕ) (nest : Nest) → NestedAt bytes n nest → n < length bytes → n < max_text → is_level nest ≡ false → nest.depth ≤ max_nesting → after_byte nest (get_or bytes n 0) ≡ nest → NestedAt bytes (n + 1) nest
nested_same bytes n nest l h short v d e =
    subst (NestedAt bytes (n + 1)) e (nested_more bytes n nest l h short (ap is_level e ∙ v) (subst (λ m. m.depth ≤ max_nesting) (sym e) d))

pub nested_text : (bytes : List ℕ) (n : ℕ) (nest : Nest) (ended : Bool) → NestedAt bytes n nest → n < length bytes → n < max_text → is_level (after_byte nest (get_or bytes n 0)) ≡ true → Finds (Text (n + 1)) bytes ended
nested_text bytes n nest ended l h short v = (omega arith, omega arith, λ later more _. leads_at bytes n _ l h later more ∙ nested_ends n nest (get_or bytes n 0) _ short v)

pub nested_too_deep : (bytes : List ℕ) (n : ℕ) (nest : Nest) (ended : Bool) → NestedAt bytes n nest → n < length bytes → n < max_text → is_level (after_byte nest (get_or bytes n 0)) ≡ false → max_nesting < (after_byte nest (get_or bytes n 0)).depth → Finds (Fault TooDeep) bytes ended
nested_too_deep bytes n nest ended l h short v d = (tt, λ later more _. leads_at bytes n _ l h later more ∙ nested_deep n nest (get_or bytes n 0) _ short v d)

pub nested_too_long : (bytes : List ℕ) (n : ℕ) (nest : Nest) (ended : Bool) → NestedAt bytes n nest → n < length bytes → max_text ≤ n → Finds (Fault TooLong) bytes ended
nested_too_long bytes n nest ended l h long = (tt, λ later more _. leads_at bytes n _ l h later more ∙ nested_long n nest (get_or bytes n 0) _ long)

pub nested_open : (bytes : List ℕ) (n : ℕ) (nest : Nest) (ended : Bool) → is_level nest ≡ false → nest.depth ≤ max_nesting → NestedAt bytes n nest → length bytes ≤ n → Finds (More (Nested (length bytes) nest)) bytes ended
nested_open bytes n nest ended v d l h =
    let e : n ≡ length bytes = omega arith in
    ((v, d, subst (λ m. NestedAt bytes m nest) e l), omega (arith, l.short), ap (text_end ended) (sym (append-nil bytes)) ∙ all_read bytes n _ l h ended [] ∙ nested_waits n nest)

-- ---- the first byte

begins : (bytes : List ℕ) → 0 < length bytes → (later : Bool) (more : List ℕ) → text_end later (bytes ++ more) ≡ text_end later (get_or bytes 0 0 ∷ (drop 1 bytes ++ more))
begins [] h later more = absurd (omega arith)
begins (x ∷ xs) h later more = refl

pub starts_nested : (later : Bool) (x : ℕ) (xs : List ℕ) → (opens x || is_quote x) ≡ true → text_end later (x ∷ xs) ≡ nested 0 level (x ∷ xs)
unfolding text_end
starts_nested later x xs b = rw b refl

pub starts_bare : (later : Bool) (x : ℕ) (xs : List ℕ) → (opens x || is_quote x) ≡ false → is_bare x ≡ true → text_end later (x ∷ xs) ≡ bare 0 later (x ∷ xs)
unfolding text_end
starts_bare later x xs a b = rw (a, b) refl

pub starts_nowhere : (later : Bool) (x : ℕ) (xs : List ℕ) → (opens x || is_quote x) ≡ false → is_bare x ≡ false → text_end later (x ∷ xs) ≡ misplaced
unfolding text_end
starts_nowhere later x xs a b = rw (a, b) refl

opened : (x : ℕ) → opens x ≡ true → (is_level (after_byte level x) ≡ false) × ((after_byte level x).depth ≤ max_nesting)
opened x o = rw o (refl, omega arith)

quoted : (x : ℕ) → is_quote x ≡ true → (is_level (after_byte level x) ≡ false) × ((after_byte level x).depth ≤ max_nesting)
quoted x q = let e : x ≡ 34 = eqb-true x 34 q in rw e (refl, omega arith)

pub entered : (x : ℕ) → (opens x || is_quote x) ≡ true → (is_level (after_byte level x) ≡ false) × ((after_byte level x).depth ≤ max_nesting)
entered x b = elim (or_cases (opens x) (is_quote x) b) [ inl o ↦ opened x o | inr q ↦ quoted x q ]

taken_one : (bytes : List ℕ) (more : List ℕ) → 0 < length bytes → take 1 bytes ++ more ≡ get_or bytes 0 0 ∷ more
taken_one [] more h = absurd (omega arith)
taken_one (x ∷ xs) more h = refl

pub nested_first : (bytes : List ℕ) → 0 < length bytes → (opens (get_or bytes 0 0) || is_quote (get_or bytes 0 0)) ≡ true → NestedAt bytes 1 (after_byte level (get_or bytes 0 0))
nested_first bytes h b =
    let x = get_or bytes 0 0 in
    let e = entered x b in
    record {
      some = omega arith;
      within = omega arith;
      short = lit≤ tt;
      goes = λ later more. ap (text_end later) (taken_one bytes more h) ∙ starts_nested later x more b ∙ nested_goes 0 level x more (lit< tt) e.0 e.1;
    }

pub bare_first : (bytes : List ℕ) → 0 < length bytes → (opens (get_or bytes 0 0) || is_quote (get_or bytes 0 0)) ≡ false → is_bare (get_or bytes 0 0) ≡ true → BareAt bytes 1
bare_first bytes h a b =
    let x = get_or bytes 0 0 in
    record {
      some = omega arith;
      within = omega arith;
      short = lit≤ tt;
      goes = λ later more. ap (text_end later) (taken_one bytes more h) ∙ starts_bare later x more a b ∙ bare_goes 0 later x more b (lit< tt);
    }

pub nowhere : (bytes : List ℕ) (ended : Bool) → 0 < length bytes → (opens (get_or bytes 0 0) || is_quote (get_or bytes 0 0)) ≡ false → is_bare (get_or bytes 0 0) ≡ false → Finds (Fault Misplaced) bytes ended
nowhere bytes ended h a b = (tt, λ later more _. begins bytes h later more ∙ starts_nowhere later (get_or bytes 0 0) _ a b)
