-- Writing the runs of a text one after another.
use Rattle.std.proofs.Common.{◌≡◌, ℕ, ◌+◌, ◌-◌, ◌<◌, ◌≤◌, List, [], ◌∷◌, ◌++◌, length, take, drop, get_or, true, false, Option, Some, None, option_map, refl, sym, ap, ◌∙◌, arith, append_assoc, length-drop}
use Rattle.std.proofs.lemmas.List.{drop_more, take_more, drop_all, take_all, get_or-drop}
use Rattle.jv_cut.specs.Text.{next_quote}
use Rattle.jv_cut.specs.declared.nesting.Quote.{Quote}
use Rattle.jv_cut.specs.declared.nesting.Quote.TheVariants.{Outside}
use Rattle.jv_text.specs.Numbers.{run_text, after_run, is_in_run, whole_numbers}

pub goes_on : (quote : Quote) (run : List ℕ) (x : ℕ) (xs : List ℕ) → is_in_run quote x ≡ true → whole_numbers quote run (x ∷ xs) ≡ whole_numbers quote (run ++ x ∷ []) xs
unfolding whole_numbers
goes_on quote run x xs e = rw e refl

pub stops : (quote : Quote) (run : List ℕ) (x : ℕ) (xs : List ℕ) → is_in_run quote x ≡ false → whole_numbers quote run (x ∷ xs) ≡ after_run (run_text run) x (whole_numbers (next_quote quote x) [] xs)
unfolding whole_numbers
stops quote run x xs e = rw e refl

pub at_end : (quote : Quote) (run : List ℕ) → whole_numbers quote run [] ≡ run_text run
unfolding whole_numbers
at_end quote run = refl

-- the run from one position to another
abbrev pub part : List ℕ → ℕ → ℕ → List ℕ
part text i j = take (j - i) (drop i text)

part_more : (text : List ℕ) (i j : ℕ) → i ≤ j → j < length text → part text i (j + 1) ≡ part text i j ++ get_or text j 0 ∷ []
part_more text i j h k =
    let n : j + 1 - i ≡ j - i + 1 = omega arith in
    let m : i + (j - i) ≡ j = omega arith in
    let inside : j - i < length (drop i text) = omega (arith, length-drop i text) in
    ap (λ n. take n (drop i text)) n ∙ take_more (drop i text) (j - i) 0 inside ∙ ap (λ x. take (j - i) (drop i text) ++ x ∷ []) (get_or-drop i text (j - i) 0 ∙ ap (λ p. get_or text p 0) m)

part_none : (text : List ℕ) (i : ℕ) → part text i i ≡ []
part_none text i = let n : i - i ≡ 0 = omega arith in ap (λ n. take n (drop i text)) n

-- what was written, and what remains
abbrev pub Writing : List ℕ → List ℕ → Quote → ℕ → ℕ → Type 0
Writing text front quote i j = option_map (λ t. front ++ t) (whole_numbers quote (part text i j) (drop j text)) ≡ whole_numbers Outside [] text

pub writing_on : (text front : List ℕ) (quote : Quote) (i j : ℕ) → i ≤ j → j < length text → is_in_run quote (get_or text j 0) ≡ true → Writing text front quote i j → Writing text front quote i (j + 1)
writing_on text front quote i j h k e w =
    let x = get_or text j 0 in
    let step = ap (whole_numbers quote (part text i j)) (drop_more text j 0 k) ∙ goes_on quote (part text i j) x (drop (j + 1) text) e ∙ ap (λ r. whole_numbers quote r (drop (j + 1) text)) (sym (part_more text i j h k)) in
    ap (option_map (λ t. front ++ t)) (sym step) ∙ w

regroup : (front r : List ℕ) (x : ℕ) (o : Option (List ℕ)) → option_map (λ t. (front ++ (r ++ x ∷ [])) ++ t) o ≡ option_map (λ t. front ++ t) (option_map (λ t. r ++ x ∷ t) o)
regroup front r x None = refl
regroup front r x (Some t) = ap Some (append_assoc front (r ++ x ∷ []) t ∙ ap (λ l. front ++ l) (append_assoc r (x ∷ []) t))

run_ends : (text : List ℕ) (quote : Quote) (i j : ℕ) → j < length text → is_in_run quote (get_or text j 0) ≡ false
    → whole_numbers quote (part text i j) (drop j text) ≡ after_run (run_text (part text i j)) (get_or text j 0) (whole_numbers (next_quote quote (get_or text j 0)) [] (drop (j + 1) text))
run_ends text quote i j k e = ap (whole_numbers quote (part text i j)) (drop_more text j 0 k) ∙ stops quote (part text i j) (get_or text j 0) (drop (j + 1) text) e

pub writing_run : (text front r : List ℕ) (quote next : Quote) (i j : ℕ) → j < length text → is_in_run quote (get_or text j 0) ≡ false → next ≡ next_quote quote (get_or text j 0) → run_text (part text i j) ≡ Some r
    → Writing text front quote i j → Writing text (front ++ (r ++ get_or text j 0 ∷ [])) next (j + 1) (j + 1)
writing_run text front r quote next i j k e n rt w =
    let x = get_or text j 0 in
    let rest = whole_numbers (next_quote quote x) [] (drop (j + 1) text) in
    ap (λ q. option_map (λ t. (front ++ (r ++ x ∷ [])) ++ t) (whole_numbers q (part text (j + 1) (j + 1)) (drop (j + 1) text))) n
    ∙ ap (λ p. option_map (λ t. (front ++ (r ++ x ∷ [])) ++ t) (whole_numbers (next_quote quote x) p (drop (j + 1) text))) (part_none text (j + 1))
    ∙ regroup front r x rest
    ∙ ap (λ o. option_map (λ t. front ++ t) (after_run o x rest)) (sym rt)
    ∙ ap (option_map (λ t. front ++ t)) (sym (run_ends text quote i j k e))
    ∙ w

pub writing_fails : (text front : List ℕ) (quote : Quote) (i j : ℕ) → j < length text → is_in_run quote (get_or text j 0) ≡ false → run_text (part text i j) ≡ None → Writing text front quote i j → whole_numbers Outside [] text ≡ None
writing_fails text front quote i j k e rt w =
    let rest = whole_numbers (next_quote quote (get_or text j 0)) [] (drop (j + 1) text) in
    sym w ∙ ap (option_map (λ t. front ++ t)) (run_ends text quote i j k e) ∙ ap (λ o. option_map (λ t. front ++ t) (after_run o (get_or text j 0) rest)) rt

last_run : (text front : List ℕ) (quote : Quote) (i j : ℕ) → length text ≤ j → Writing text front quote i j → option_map (λ t. front ++ t) (run_text (drop i text)) ≡ whole_numbers Outside [] text
last_run text front quote i j h w =
    let whole : part text i j ≡ drop i text = take_all (j - i) (drop i text) (omega (arith, length-drop i text)) in
    ap (λ r. option_map (λ t. front ++ t) (run_text r)) (sym whole) ∙ ap (option_map (λ t. front ++ t)) (sym (ap (whole_numbers quote (part text i j)) (drop_all j text h) ∙ at_end quote (part text i j))) ∙ w

pub written_all : (text front : List ℕ) (quote : Quote) (i j : ℕ) → length text ≤ j → Writing text front quote i j → whole_numbers Outside [] text ≡ option_map (λ t. front ++ t) (run_text (drop i text))
written_all text front quote i j h w = sym (last_run text front quote i j h w)

pub record Pushed (front out : List ℕ) (o : Option (List ℕ)) : Type 0 where
  pub run : List ℕ
  pub is : o ≡ Some run
  pub out_is : front ++ run ≡ out

pub pushed : (front out : List ℕ) (o : Option (List ℕ)) → option_map (λ r. front ++ r) o ≡ Some out → Pushed front out o
pushed front out None e = cc
pushed front out (Some r) e = let f : front ++ r ≡ out = cc in record { run = r; is = refl; out_is = f }

pub not_pushed : (front : List ℕ) (o : Option (List ℕ)) → option_map (λ r. front ++ r) o ≡ None → o ≡ None
not_pushed front None e = refl
not_pushed front (Some r) e = cc
