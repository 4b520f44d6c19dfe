-- The longest word is unique, and so are the digits before a point.
use Rattle.std.proofs.Common.{◌≡◌, ℕ, List, [], ◌∷◌, ◌++◌, Bool, true, false, ◌||◌, refl, sym, ap, subst, ◌∙◌, ◌⊎◌, inl, inr}
use Rattle.std.proofs.lemmas.List.{append-nil}
use Rattle.jq_tree.specs.Token.{Token}
use Rattle.jq_tree.specs.Words.{every, is_digit, is_e, Lexeme, Spells, Longest}
use Rattle.jq_tree.specs.Lexing.{Parenthesis, Spot, Next, word, opens, closes, closes_in_string, closes_nothing, quote}
use Rattle.jq_tree.proofs.shared.Fronts.{and_left, and_right}

-- ---- one longest word

-- Of two prefixes of a text, one is a prefix of the other.
compare_fronts : (v w rest left : List ℕ) → v ++ rest ≡ w ++ left
    → ((more : List ℕ) × (w ≡ v ++ more) × (rest ≡ more ++ left)) ⊎ ((more : List ℕ) × (v ≡ w ++ more) × (left ≡ more ++ rest))
compare_fronts [] w rest left e = inl (w, refl, e)
compare_fronts (x ∷ xs) [] rest left e = inr (x ∷ xs, refl, sym e)
compare_fronts (x ∷ xs) (y ∷ ys) rest left e =
    let same : x ≡ y = cc in
    elim (compare_fronts xs ys rest left (cc e)) [
      | inl p ↦ inl (p.0, ap (λ (d : ℕ). d ∷ ys) (sym same) ∙ ap (λ (t : List ℕ). x ∷ t) (p.1), p.2)
      | inr p ↦ inr (p.0, ap (λ (d : ℕ). d ∷ xs) same ∙ ap (λ (t : List ℕ). y ∷ t) (p.1), p.2)
    ]

pub one_longest : (text v w rest left : List ℕ) → Longest text v rest → Longest text w left → v ≡ w
one_longest text v w rest left h k = elim (compare_fronts v w rest left (sym h.front ∙ k.front)) [
  | inl p ↦ let none : p.0 ≡ [] = h.no_longer (p.0) left (p.2) (subst Lexeme (p.1) k.is_word) in
      sym (p.1 ∙ ap (λ (t : List ℕ). v ++ t) none ∙ append-nil v)
  | inr p ↦ let none : p.0 ≡ [] = k.no_longer (p.0) rest (p.2) (subst Lexeme (p.1) h.is_word) in
      p.1 ∙ ap (λ (t : List ℕ). w ++ t) none ∙ append-nil w
]

-- If the longest word spells no token, no token begins there.
pub no_token_there : (opened : List Parenthesis) (c : ℕ) (text w rest : List ℕ) → Longest (c ∷ text) w rest → ((t : Token) → ¬ Spells w t)
    → (c ≡ 34 → ⊥) → (c ≡ 40 → ⊥) → (c ≡ 41 → ⊥) → (ts : List Token) (spot : Spot) (left : List ℕ) → ¬ Next opened (c ∷ text) ts spot left
no_token_there opened c text w rest h k q l r ts spot left (word {t = t} v m s n) =
    let same : v ≡ w = one_longest (c ∷ text) v w left rest m h in k t (subst (λ (x : List ℕ). Spells x t) same s)
no_token_there opened c text w rest h k q l r ts spot left opens = l refl
no_token_there opened c text w rest h k q l r ts spot left closes = r refl
no_token_there opened c text w rest h k q l r ts spot left closes_in_string = r refl
no_token_there opened c text w rest h k q l r ts spot left closes_nothing = r refl
no_token_there opened c text w rest h k q l r ts spot left (quote p) = q refl

-- ---- the digits of a number

abbrev pub any_e : List ℕ → Bool
any_e [] = false
any_e (c ∷ cs) = is_e c || any_e cs

no_digit : (c : ℕ) → c ≡ 46 → is_digit c ≡ true → ⊥
no_digit c f g = let h : false ≡ true = sym (ap is_digit f) ∙ g in cc h

pub point_is_no_digit : (front after : List ℕ) → every is_digit (front ++ 46 ∷ after) ≡ true → ⊥
point_is_no_digit [] after e = cc e
point_is_no_digit (x ∷ front) after e = point_is_no_digit front after (and_right (is_digit x) (every is_digit (front ++ 46 ∷ after)) e)

-- The digits before the first point are unique.
pub split_front : (front after cs ds : List ℕ) → every is_digit front ≡ true → every is_digit cs ≡ true → front ++ 46 ∷ after ≡ cs ++ 46 ∷ ds → (front ≡ cs) × (after ≡ ds)
split_front [] after [] ds a c e = (refl, cc e)
split_front [] after (y ∷ cs) ds a c e = let f : y ≡ 46 = cc in absurd (no_digit y f (and_left (is_digit y) (every is_digit cs) c))
split_front (x ∷ front) after [] ds a c e = let f : x ≡ 46 = cc in absurd (no_digit x f (and_left (is_digit x) (every is_digit front) a))
split_front (x ∷ front) after (y ∷ cs) ds a c e =
    let f : x ≡ y = cc in
    let h = split_front front after cs ds (and_right (is_digit x) (every is_digit front) a) (and_right (is_digit y) (every is_digit cs) c) (cc e) in
    (ap (λ (d : ℕ). d ∷ front) f ∙ ap (λ (t : List ℕ). y ∷ t) (h.0), h.1)
