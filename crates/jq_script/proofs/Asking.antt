-- The request of a line.
use Rattle.std.proofs.Common.{◌≡◌, ◌≢◌, ◌==◌, ◌<◌, ◌≤◌, ◌+◌, ◌*◌, ◌^◌, nat_lt, cond, ℕ, Bool, true, false, List, [], ◌∷◌, ◌++◌, length, get_or, Option, Some, None, refl, sym, ap, ap₂, ◌∙◌, add-one, lit<, rules, arith}
use Rattle.std.proofs.Math.Nat.{pow-suc, pow-le-pow_right}
use Rattle.std.specs.Prelude.{All}
use Rattle.std.specs.Char.{is_ascii_digit}
use Rattle.std.specs.Int.{IsInRange}
use Rattle.std.specs.List.{list_all}
use Rattle.std.specs.Str.Parse.{digits_value}
use Rattle.std.proofs.lemmas.Bool.{ne_eqb, le-ltb, cond-false}
use Rattle.std.proofs.lemmas.List.Elements.{All-head, All-tail}
use Rattle.std.proofs.lemmas.Str.Parse.{IsNumeralModel, numerals_by_value, digit_at}
use Rattle.jq_script.specs.Requests.{Parts, around_space, with_byte, unknown, Change, change_by, change_at, move_by, move_at, place_of, request, instruction_of, instruction_by, instruction_with, word_alone, line_limit}

abbrev pub HasNoSpace : List ℕ → Type 0
HasNoSpace bytes = All (λ b. b ≢ 32) bytes

past_byte : (t : Bool) (b : ℕ) (bs : List ℕ) (found : Option Parts) → t ≡ false → cond t (Some (record { word = []; rest = bs })) (with_byte b found) ≡ with_byte b found
past_byte true b bs found e = cc
past_byte false b bs found e = refl

pub no_space : (bytes : List ℕ) → HasNoSpace bytes → around_space bytes ≡ None
no_space [] h = refl
no_space (b ∷ bs) h =
    past_byte (b == 32) b bs (around_space bs) (ne_eqb b 32 (All-head (λ x. x ≢ 32) b bs h))
    ∙ ap (with_byte b) (no_space bs (All-tail (λ x. x ≢ 32) b bs h))

pub first_space : (word rest : List ℕ) → HasNoSpace word → around_space (word ++ 32 ∷ rest) ≡ Some (record { word = word; rest = rest })
first_space [] rest h = refl
first_space (b ∷ bs) rest h =
    past_byte (b == 32) b (bs ++ 32 ∷ rest) (around_space (bs ++ 32 ∷ rest)) (ne_eqb b 32 (All-head (λ x. x ≢ 32) b bs h))
    ∙ ap (with_byte b) (first_space bs rest (All-tail (λ x. x ≢ 32) b bs h))

-- ---- a line

pub asked : (line word rest : List ℕ) → length line ≤ line_limit → line ≡ word ++ 32 ∷ rest → HasNoSpace word → instruction_of line ≡ instruction_with word rest
asked line word rest small e clean =
    cond-false (nat_lt line_limit (length line)) (request unknown) (instruction_by line (around_space line)) (le-ltb line_limit (length line) small)
    ∙ ap (instruction_by line) (ap around_space e ∙ first_space word rest clean)

pub asked_alone : (line : List ℕ) → length line ≤ line_limit → HasNoSpace line → instruction_of line ≡ request (word_alone line)
asked_alone line small clean =
    cond-false (nat_lt line_limit (length line)) (request unknown) (instruction_by line (around_space line)) (le-ltb line_limit (length line) small)
    ∙ ap (instruction_by line) (no_space line clean)

-- ---- a number and a text

pub no_text : (rest : List ℕ) → HasNoSpace rest → (edit : ℕ → Change) → change_by edit (around_space rest) ≡ unknown
no_text rest clean edit = ap (change_by edit) (no_space rest clean)

pub changing_by : (rest place text : List ℕ) (k : Option ℕ) → rest ≡ place ++ 32 ∷ text → HasNoSpace place → k ≡ place_of place → (edit : ℕ → Change)
    → change_by edit (around_space rest) ≡ change_at edit k text
changing_by rest place text k e clean is edit = ap (change_by edit) (ap around_space e ∙ first_space place text clean) ∙ ap (λ o. change_at edit o text) (sym is)

-- ---- two numbers

pub no_places : (rest : List ℕ) → HasNoSpace rest → move_by (around_space rest) ≡ unknown
no_places rest clean = ap move_by (no_space rest clean)

pub moving_by : (rest from to : List ℕ) (k l : Option ℕ) → rest ≡ from ++ 32 ∷ to → HasNoSpace from → k ≡ place_of from → l ≡ place_of to
    → move_by (around_space rest) ≡ move_at k l
moving_by rest from to k l e clean is_from is_to = ap move_by (ap around_space e ∙ first_space from to clean) ∙ ap₂ move_at (sym is_from) (sym is_to)

-- ---- digits

own : IsNumeralModel (λ ds. list_all is_ascii_digit ds ≡ true) (digits_value 10)
own = numerals_by_value _ (search rules)

pub digit_in : (ds : List ℕ) (i : ℕ) → list_all is_ascii_digit ds ≡ true → i < length ds → IsInRange 48 57 (get_or ds i 0)
digit_in ds i h inside = digit_at ds i (own.to ds h) inside

pub small_at : (i n : ℕ) → i ≤ 18 → n < 10 ^ i → n < 10 ^ 18
small_at i n h k = let p : 10 ^ i ≤ 10 ^ 18 = pow-le-pow_right (lit< tt) h in omega arith

pub small_step : (i n d : ℕ) → n < 10 ^ i → d ≤ 9 → n * 10 + d < 10 ^ (i + 1)
small_step i n d h k = let e : 10 ^ (i + 1) ≡ 10 ^ i * 10 = ap (λ x. 10 ^ x) (add-one i) ∙ pow-suc 10 i in omega arith
