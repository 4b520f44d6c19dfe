-- Cutting bytes that are all there.
use Rattle.std.proofs.Common.{◌≡◌, ℕ, zero, suc, ◌+◌, ◌-◌, ◌<◌, ◌≤◌, List, [], ◌∷◌, ◌++◌, length, take, drop, get_or, true, false, refl, sym, ap, ◌∙◌, subst, arith, append-nil, length-drop, Some, None, Ok, Err}
use Rattle.std.specs.List.{prefix_len}
use Rattle.jv_cut.specs.Bytes.{is_space}
use Rattle.jv_cut.specs.Text.{unended, text_end}
use Rattle.jv_cut.specs.Cut.{fault, with_text, no_text, cut_from, cut}
use Rattle.jv_cut.specs.Rest.{MayFollow}
use Rattle.jv_cut.specs.private.Scan.{Finds, end_of}
use Rattle.jv_cut.specs.Whole.{FindsAll}
use Rattle.jv_cut.specs.declared.scanning.Found.TheVariants.{Text, Fault}
use Rattle.jv_cut.specs.declared.splitting.CutFault.{CutFault}
use Rattle.jv_cut.specs.declared.splitting.CutFault.TheVariants.{Misplaced, Unfinished, TooDeep, TooLong}
use Rattle.jv_cut.proofs.Cuts.{spaces_passed, no_space_left, taken_with, stuck_at, past, ended_clean}
use Rattle.std.proofs.lemmas.List.{drop_all}

drop-drop : (m n : ℕ) (xs : List ℕ) → drop m (drop n xs) ≡ drop (n + m) xs
drop-drop m zero xs = let e : 0 + m ≡ m = omega arith in ap (λ k. drop k xs) (sym e)
drop-drop zero (suc n) [] = let e : suc n + 0 ≡ suc n = omega arith in ap (λ k. drop k []) (sym e)
drop-drop (suc m) (suc n) [] = let e : suc n + suc m ≡ suc (n + suc m) = omega arith in ap (λ k. drop k []) (sym e)
drop-drop m (suc n) (x ∷ xs) = let e : suc n + m ≡ suc (n + m) = omega arith in drop-drop m n xs ∙ ap (λ k. drop k (x ∷ xs)) (sym e)

no_more : MayFollow true [] true
no_more = record { none = λ e. (refl, refl) }

-- white space skipped at the start
pub passed : (bytes : List ℕ) (start place : ℕ) → start ≡ prefix_len is_space bytes → cut_from 0 true place bytes ≡ cut_from 0 true (place + start) (drop start bytes)
passed bytes start place e =
    ap (cut_from 0 true place) (sym (append-nil bytes)) ∙ spaces_passed bytes [] true place ∙ ap (λ s. cut_from 0 true (place + s) (drop s bytes ++ [])) (sym e) ∙ ap (cut_from 0 true (place + start)) (append-nil (drop start bytes))

no_space : (bytes : List ℕ) (start : ℕ) → start ≡ prefix_len is_space bytes → start < length bytes → is_space (get_or (drop start bytes) 0 0) ≡ false
no_space bytes start e h = subst (λ s. 0 < length (drop s bytes) → is_space (get_or (drop s bytes) 0 0) ≡ false) (sym e) (no_space_left bytes) (omega (arith, length-drop start bytes))

some_left : (bytes : List ℕ) (start : ℕ) → start < length bytes → 0 < length (drop start bytes)
some_left bytes start h = omega (arith, length-drop start bytes)

pub finds_nothing : (bytes : List ℕ) (start : ℕ) → start ≡ prefix_len is_space bytes → length bytes ≤ start → FindsAll (Ok None) bytes
finds_nothing bytes start e h = λ place. passed bytes start place e ∙ ap (cut_from 0 true (place + start)) (drop_all start bytes h) ∙ ended_clean (place + start)

pub finds_text : (bytes : List ℕ) (start n : ℕ) → start ≡ prefix_len is_space bytes → start < length bytes → Finds (Text n) (drop start bytes) true → FindsAll (Ok (Some (start, start + n))) bytes
finds_text bytes start n e h f = (
  omega (arith, f.0),
  omega (arith, f.1, length-drop start bytes),
  λ place.
      let u = drop start bytes in
      let t = taken_with true (place + start) u [] n f.0 f.1 (no_space bytes start e h) (f.2 true [] no_more) in
      let size : start + n - start ≡ n = omega arith in
      let next : place + start + n ≡ place + (start + n) = omega arith in
      passed bytes start place e
      ∙ ap (cut_from 0 true (place + start)) (sym (append-nil u)) ∙ t
      ∙ ap (λ k. with_text (place + start) (take k u) (cut true (place + start + n) (drop n u ++ []))) (sym size)
      ∙ ap (with_text (place + start) (take (start + n - start) u)) (
      past true (place + start + n) (drop n u ++ []) (omega (arith, f.0)) ∙ ap (cut_from 0 true (place + start + n)) (append-nil (drop n u)) ∙ ap (λ p. cut_from 0 true p (drop n u)) next
      ∙ ap (cut_from 0 true (place + (start + n))) (drop-drop n start bytes)),
)

stops : (bytes : List ℕ) (start : ℕ) (p : CutFault) → start ≡ prefix_len is_space bytes → start < length bytes → text_end true (drop start bytes ++ []) ≡ end_of p → (place : ℕ) → cut_from 0 true place bytes ≡ no_text (fault p (place + start))
stops bytes start Misplaced e h t place = passed bytes start place e ∙ ap (cut_from 0 true (place + start)) (sym (append-nil (drop start bytes))) ∙ (stuck_at true (place + start) (drop start bytes) [] _ (some_left bytes start h) (no_space bytes start e h) t).1
stops bytes start Unfinished e h t place = passed bytes start place e ∙ ap (cut_from 0 true (place + start)) (sym (append-nil (drop start bytes))) ∙ (stuck_at true (place + start) (drop start bytes) [] _ (some_left bytes start h) (no_space bytes start e h) t).1
stops bytes start TooDeep e h t place = passed bytes start place e ∙ ap (cut_from 0 true (place + start)) (sym (append-nil (drop start bytes))) ∙ (stuck_at true (place + start) (drop start bytes) [] _ (some_left bytes start h) (no_space bytes start e h) t).1
stops bytes start TooLong e h t place = passed bytes start place e ∙ ap (cut_from 0 true (place + start)) (sym (append-nil (drop start bytes))) ∙ (stuck_at true (place + start) (drop start bytes) [] _ (some_left bytes start h) (no_space bytes start e h) t).1

pub finds_fault : (bytes : List ℕ) (start : ℕ) (p : CutFault) → start ≡ prefix_len is_space bytes → start < length bytes → Finds (Fault p) (drop start bytes) true → FindsAll (Err (p, start)) bytes
finds_fault bytes start p e h f = (h, stops bytes start p e h (f.1 true [] no_more))

pub finds_unended : (bytes : List ℕ) (start : ℕ) → start ≡ prefix_len is_space bytes → start < length bytes → text_end true (drop start bytes) ≡ unended → FindsAll (Err (Unfinished, start)) bytes
finds_unended bytes start e h f = (h, stops bytes start Unfinished e h (ap (text_end true) (append-nil (drop start bytes)) ∙ f))
