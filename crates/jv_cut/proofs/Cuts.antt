-- Cutting from a position on.
use Rattle.std.proofs.Common.{◌≡◌, ◌⊎◌, inl, inr, ℕ, zero, suc, ◌+◌, ◌-◌, ◌<◌, ◌≤◌, List, [], ◌∷◌, ◌++◌, length, take, drop, get_or, Bool, true, false, refl, sym, ap, ◌∙◌, subst, arith, append-nil, length-drop, cond, Option, Some, None, Result, Ok, Err}
use Rattle.std.proofs.lemmas.Bool.{ne_eqb, and_right, and_parts, eqb-true, cases_lt, cases_Bool}
use Rattle.std.proofs.lemmas.List.{take-append-le, drop-append-le, nil_from_length}
use Rattle.std.specs.List.{prefix_len}
use Rattle.std.specs.Prelude.{◌==◌}
use Rattle.jv_cut.specs.Bytes.{is_space, begins_with_mark}
use Rattle.jv_cut.specs.private.Marks.{may_become_mark}
use Rattle.jv_cut.specs.Text.{End, ends, unended, text_end, bare}
use Rattle.jv_cut.specs.Cut.{Cut, clean, open_text, fault, with_text, no_text, text_at, cut_from, cut}
use Rattle.jv_cut.specs.Finds.{NoneLeft, FindsFirst}
use Rattle.jv_cut.specs.private.Passed.{IsPastMark}
use Rattle.jv_cut.specs.private.Scan.{ScansTo}
use Rattle.jv_cut.specs.declared.splitting.CutFault.{CutFault}
use Rattle.jv_cut.specs.declared.splitting.CutFault.TheVariants.{Misplaced, Unfinished, TooDeep, TooLong}
use Rattle.jv_cut.specs.Rest.{Rest, cut_of, cut_with, without, MayFollow, SameTexts}

-- ---- the byte order mark

pub past : (later : Bool) (place : ℕ) (bytes : List ℕ) → 0 < place → cut later place bytes ≡ cut_from 0 later place bytes
unfolding cut
past later place bytes h = let e : (place == 0) ≡ false = ne_eqb place 0 (λ z. omega arith) in rw e refl

unmarked : (later : Bool) (place : ℕ) (bytes : List ℕ) → begins_with_mark bytes ≡ false → cut later place bytes ≡ cut_from 0 later place bytes
unfolding cut
unmarked later place bytes e = rw (and_right (place == 0) (begins_with_mark bytes) e) refl

marked : (later : Bool) (bytes : List ℕ) → begins_with_mark bytes ≡ true → cut later 0 bytes ≡ cut_from 0 later 3 (drop 3 bytes)
unfolding cut
marked later bytes e = rw e refl

marked_front : (u more : List ℕ) → begins_with_mark u ≡ true → (begins_with_mark (u ++ more) ≡ true) × (drop 3 (u ++ more) ≡ drop 3 u ++ more)
marked_front [] more e = cc
marked_front (a ∷ []) more e = cc
marked_front (a ∷ b ∷ []) more e = cc
marked_front (a ∷ b ∷ c ∷ rest) more e = (e, refl)

unmarked_front : (u more : List ℕ) → begins_with_mark u ≡ false → may_become_mark u ≡ false → begins_with_mark (u ++ more) ≡ false
unmarked_front [] more e h = cc
unmarked_front (a ∷ []) [] e h = refl
unmarked_front (a ∷ []) (m ∷ []) e h = refl
unmarked_front (a ∷ []) (m ∷ n ∷ r) e h = rw h refl
unmarked_front (a ∷ b ∷ []) [] e h = refl
unmarked_front (a ∷ b ∷ []) (m ∷ r) e h = rw h refl
unmarked_front (a ∷ b ∷ c ∷ rest) more e h = e

pub past_place : (r : Rest) → 0 < r.place → IsPastMark r
past_place r h = record { cut = λ later more m. past later r.place (r.unread ++ more) h }

pub same_texts : (r : Rest) → SameTexts r r
same_texts r = record { ended = refl; count = refl; cut = λ later more m. refl }

marked_length : (u : List ℕ) → begins_with_mark u ≡ true → 3 ≤ length u
marked_length [] e = cc
marked_length (a ∷ []) e = cc
marked_length (a ∷ b ∷ []) e = cc
marked_length (a ∷ b ∷ c ∷ rest) e = omega arith

pub past_mark : (r : Rest) → r.place ≡ 0 → begins_with_mark r.unread ≡ true → SameTexts r (without r 3)
past_mark r z e = record {
  ended = refl;
  count = let l = marked_length r.unread e in omega (arith, length-drop 3 r.unread);
  cut = λ later more m.
      let f = marked_front r.unread more e in
      ap (λ p. cut later p (r.unread ++ more)) z ∙ marked later (r.unread ++ more) f.0 ∙ ap (cut_from 0 later 3) f.1 ∙ sym (past later 3 (drop 3 r.unread ++ more) (omega arith)) ∙ ap (λ p. cut later (p + 3) (drop 3 r.unread ++ more)) (sym z);
}

pub past_unmarked : (r : Rest) → begins_with_mark r.unread ≡ false → may_become_mark r.unread ≡ false → IsPastMark r
past_unmarked r e h = record { cut = λ later more m. unmarked later r.place (r.unread ++ more) (unmarked_front r.unread more e h) }

pub past_ended : (r : Rest) → begins_with_mark r.unread ≡ false → r.ended ≡ true → IsPastMark r
past_ended r e h = record { cut = λ later more m. unmarked later r.place (r.unread ++ more) (ap (λ bs. begins_with_mark (r.unread ++ bs)) (m.none h).0 ∙ ap begins_with_mark (append-nil r.unread) ∙ e) }

one_waits : cut false 0 (239 ∷ []) ≡ no_text open_text
unfolding cut cut_from text_end bare
one_waits = refl

two_wait : cut false 0 (239 ∷ 187 ∷ []) ≡ no_text open_text
unfolding cut cut_from text_end bare
two_wait = refl

pub ended_clean : (place : ℕ) → cut_from 0 true place [] ≡ no_text clean
unfolding cut_from
ended_clean place = refl

pub nothing_left : (later : Bool) (place : ℕ) → cut later place [] ≡ no_text clean
unfolding cut cut_from
nothing_left later place = unmarked later place [] refl ∙ refl

pub record MayBeMark (u : List ℕ) : Type 0 where
  pub cut_is : (cut false 0 u ≡ no_text clean) ⊎ (cut false 0 u ≡ no_text open_text)
  pub short : length u ≤ 2

may_be_mark : (u : List ℕ) → may_become_mark u ≡ true → MayBeMark u
may_be_mark [] e = record { cut_is = inl (nothing_left false 0); short = omega arith }
may_be_mark (a ∷ []) e = record { cut_is = inr (ap (λ x. cut false 0 (x ∷ [])) (eqb-true a 239 e) ∙ one_waits); short = omega arith }
may_be_mark (a ∷ b ∷ []) e =
    let both = and_parts (a == 239) (b == 187) e in
    record { cut_is = inr (ap (λ x. cut false 0 (x ∷ b ∷ [])) (eqb-true a 239 both.0) ∙ ap (λ x. cut false 0 (239 ∷ x ∷ [])) (eqb-true b 187 both.1) ∙ two_wait); short = omega arith }
may_be_mark (a ∷ b ∷ c ∷ rest) e = cc

pub none_of_mark : (r : Rest) → r.place ≡ 0 → r.ended ≡ false → may_become_mark r.unread ≡ true → NoneLeft r
none_of_mark r z e h =
    let m = may_be_mark r.unread h in
    let same : cut_of r ≡ cut false 0 r.unread = ap (λ b. cut b r.place r.unread) e ∙ ap (λ p. cut false p r.unread) z in
    record {
      cut = elim m.cut_is [ inl c ↦ inl (same ∙ c) | inr c ↦ inr (same ∙ c) ];
      held = omega (arith, m.short);
    }

pub none_of_nothing : (r : Rest) → length r.unread ≡ 0 → NoneLeft r
none_of_nothing r e = record { cut = inl (ap (cut r.ended r.place) (nil_from_length r.unread e) ∙ nothing_left r.ended r.place); held = omega arith }

-- ---- passing white space, and taking a text

space_step : (later : Bool) (place x : ℕ) (xs : List ℕ) → is_space x ≡ true → cut_from 0 later place (x ∷ xs) ≡ cut_from 0 later (place + 1) xs
unfolding cut_from
space_step later place x xs b = rw b refl

abbrev Passes : List ℕ → List ℕ → Bool → ℕ → ℕ → Type 0
Passes u more later place n = cut_from 0 later place (u ++ more) ≡ cut_from 0 later (place + n) (drop n u ++ more)

passes_none : (u more : List ℕ) (later : Bool) (place : ℕ) → Passes u more later place 0
passes_none u more later place = let e : place + 0 ≡ place = omega arith in ap (λ p. cut_from 0 later p (u ++ more)) (sym e)

passes_one : (x : ℕ) (xs more : List ℕ) (later : Bool) (place k : ℕ) → is_space x ≡ true → Passes xs more later (place + 1) k → Passes (x ∷ xs) more later place (suc k)
passes_one x xs more later place k b h =
    let e : place + 1 + k ≡ place + suc k = omega arith in
    space_step later place x (xs ++ more) b ∙ h ∙ ap (λ p. cut_from 0 later p (drop k xs ++ more)) e

count_one : (x : ℕ) (xs : List ℕ) → is_space x ≡ true → suc (prefix_len is_space xs) ≡ prefix_len is_space (x ∷ xs)
count_one x xs b = rw b (omega arith)

count_none : (x : ℕ) (xs : List ℕ) → is_space x ≡ false → 0 ≡ prefix_len is_space (x ∷ xs)
count_none x xs b = rw b refl

pub spaces_passed : (u more : List ℕ) (later : Bool) (place : ℕ) → Passes u more later place (prefix_len is_space u)
spaces_passed [] more later place = passes_none [] more later place
spaces_passed (x ∷ xs) more later place =
    elim (cases_Bool (is_space x)) [
      | inl b ↦ subst (Passes (x ∷ xs) more later place) (count_one x xs b) (passes_one x xs more later place (prefix_len is_space xs) b (spaces_passed xs more later (place + 1)))
      | inr b ↦ subst (Passes (x ∷ xs) more later place) (count_none x xs b) (passes_none (x ∷ xs) more later place)
    ]

abbrev NoSpaceAt : List ℕ → Type 0
NoSpaceAt u = 0 < length u → is_space (get_or u 0 0) ≡ false

pub no_space_left : (u : List ℕ) → NoSpaceAt (drop (prefix_len is_space u) u)
no_space_left [] = λ h. absurd (omega arith)
no_space_left (x ∷ xs) =
    elim (cases_Bool (is_space x)) [
      | inl b ↦ subst (λ n. NoSpaceAt (drop n (x ∷ xs))) (count_one x xs b) (no_space_left xs)
      | inr b ↦ subst (λ n. NoSpaceAt (drop n (x ∷ xs))) (count_none x xs b) (λ h. b)
    ]

pub spaces_within : (u : List ℕ) → prefix_len is_space u ≤ length u
spaces_within [] = omega arith
spaces_within (x ∷ xs) =
    elim (cases_Bool (is_space x)) [
      | inl b ↦ subst (λ n. n ≤ length (x ∷ xs)) (count_one x xs b) (omega (arith, spaces_within xs))
      | inr b ↦ subst (λ n. n ≤ length (x ∷ xs)) (count_none x xs b) (omega arith)
    ]

-- what comes after white space
pub record PastSpaces (r s : Rest) : Type 0 where
  pub same : SameTexts r s
  pub mark : IsPastMark s
  pub space : NoSpaceAt s.unread

after : (r : Rest) (n : ℕ) → IsPastMark r → 0 < r.place + n → n ≡ prefix_len is_space r.unread → SameTexts r (without r n)
after r n p h e = record {
  ended = refl;
  count = let l = spaces_within r.unread in omega (arith, length-drop n r.unread);
  cut = λ later more m. p.cut later more m ∙ subst (Passes r.unread more later r.place) (sym e) (spaces_passed r.unread more later r.place) ∙ sym (past later (r.place + n) (drop n r.unread ++ more) h);
}

at_front : (r : Rest) (n : ℕ) → r.place ≡ 0 → n ≡ 0 → without r n ≡ r
at_front r n z e = let p : r.place + 0 ≡ r.place = omega arith in ap (without r) e ∙ ap (λ q. record { unread = r.unread; place = q; ended = r.ended }) p

pub past_spaces : (r : Rest) (n : ℕ) → IsPastMark r → n ≡ prefix_len is_space r.unread → PastSpaces r (without r n)
past_spaces r n p e =
    let gone : NoSpaceAt (drop n r.unread) = subst (λ k. NoSpaceAt (drop k r.unread)) (sym e) (no_space_left r.unread) in
    elim (cases_lt 0 (r.place + n)) [
      | inl h ↦ record { same = after r n p h e; mark = past_place (without r n) h; space = gone }
      | inr h ↦
          let f = at_front r n (omega arith) (omega arith) in
          record { same = subst (SameTexts r) (sym f) (same_texts r); mark = subst IsPastMark (sym f) p; space = gone }
    ]

skipped : (k : ℕ) (later : Bool) (place : ℕ) (s : List ℕ) → cut_from k later place s ≡ cut_from 0 later (place + k) (drop k s)
unfolding cut_from
skipped zero later place s = let e : place + 0 ≡ place = omega arith in ap (λ p. cut_from 0 later p s) (sym e)
skipped (suc k) later place [] = refl
skipped (suc k) later place (x ∷ xs) = skipped k later (place + 1) xs ∙ (let e : place + 1 + k ≡ place + suc k = omega arith in ap (λ p. cut_from 0 later p (drop k xs)) e)

-- a text at the start
taken : (later : Bool) (place : ℕ) (x : ℕ) (xs : List ℕ) (n : ℕ) → is_space x ≡ false → text_end later (x ∷ xs) ≡ ends (suc n) → cut_from 0 later place (x ∷ xs) ≡ with_text place (take (suc n) (x ∷ xs)) (cut_from 0 later (place + suc n) (drop n xs))
unfolding cut_from
taken later place x xs n b e = let one : suc n - 1 ≡ n = omega arith in rw (b, e, one) (ap (with_text place (x ∷ take n xs)) (skipped n later (place + 1) xs ∙ (let f : place + 1 + n ≡ place + suc n = omega arith in ap (λ p. cut_from 0 later p (drop n xs)) f)))

pub taken_with : (later : Bool) (place : ℕ) (u more : List ℕ) (n : ℕ) → 0 < n → n ≤ length u → is_space (get_or u 0 0) ≡ false → text_end later (u ++ more) ≡ ends n
    → cut_from 0 later place (u ++ more) ≡ with_text place (take n u) (cut later (place + n) (drop n u ++ more))
taken_with later place [] more n some within b e = absurd (omega arith)
taken_with later place (x ∷ xs) more zero some within b e = absurd (omega arith)
taken_with later place (x ∷ xs) more (suc n) some within b e =
    let inside : n ≤ length xs = omega arith in
    taken later place x (xs ++ more) n b e
    ∙ ap (λ t. with_text place (x ∷ t) (cut_from 0 later (place + suc n) (drop n (xs ++ more)))) (take-append-le n xs more inside)
    ∙ ap (λ d. with_text place (x ∷ take n xs) (cut_from 0 later (place + suc n) d)) (drop-append-le n xs more inside)
    ∙ ap (with_text place (x ∷ take n xs)) (sym (past later (place + suc n) (drop n xs ++ more) (omega arith)))

-- no text is taken here
pub stuck_at : (later : Bool) (place : ℕ) (u more : List ℕ) (end : End) → 0 < length u → is_space (get_or u 0 0) ≡ false → text_end later (u ++ more) ≡ end
    → (rest : ℕ → Cut) × (cut_from 0 later place (u ++ more) ≡ text_at later place (u ++ more) end rest)
unfolding cut_from
stuck_at later place [] more end h b e = absurd (omega arith)
stuck_at later place (x ∷ xs) more end h b e = (λ n. cut_from (n - 1) later (place + 1) (xs ++ more), rw (b, e) refl)

waits_here : (r : Rest) → IsPastMark r → 0 < length r.unread → is_space (get_or r.unread 0 0) ≡ false → r.ended ≡ false → text_end false r.unread ≡ unended → cut_of r ≡ no_text open_text
waits_here r p h b f e =
    let whole = ap (cut r.ended r.place) (sym (append-nil r.unread)) in
    let from = p.cut r.ended [] (record { none = λ t. cc }) in
    let s = stuck_at false r.place r.unread [] unended h b (ap (text_end false) (append-nil r.unread) ∙ e) in
    whole ∙ from ∙ ap (λ l. cut_from 0 l r.place (r.unread ++ [])) f ∙ s.1

faults_here : (r : Rest) (q : CutFault) → IsPastMark r → 0 < length r.unread → is_space (get_or r.unread 0 0) ≡ false → ScansTo (Err q) r → (later : Bool) (more : List ℕ) → MayFollow r.ended more later → cut_with r more later ≡ no_text (fault q r.place)
faults_here r Misplaced p h b s later more m = p.cut later more m ∙ (stuck_at later r.place r.unread more _ h b (s.1 later more m)).1
faults_here r TooDeep p h b s later more m = p.cut later more m ∙ (stuck_at later r.place r.unread more _ h b (s.1 later more m)).1
faults_here r TooLong p h b s later more m = p.cut later more m ∙ (stuck_at later r.place r.unread more _ h b (s.1 later more m)).1
faults_here r Unfinished p h b s later more m =
    p.cut later more m ∙ (stuck_at later r.place r.unread more _ h b (s.1 later more m)).1 ∙ ap (λ l. no_text (cond l (fault Unfinished r.place) open_text)) (m.none s.0).1

-- what reading the first text says about the stream
pub finds_first : (r : Rest) (found : Result (Option ℕ) CutFault) → IsPastMark r → 0 < length r.unread → is_space (get_or r.unread 0 0) ≡ false → ScansTo found r → FindsFirst found r
finds_first r (Ok (Some n)) p h b s = record { within = s.1; cut = λ later more m. p.cut later more m ∙ taken_with later r.place r.unread more n s.0 s.1 b (s.2 later more m) }
finds_first r (Ok None) p h b s = record { cut = inr (waits_here r p h b s.0 s.2); held = s.1 }
finds_first r (Err q) p h b s = record { cut = faults_here r q p h b s }
