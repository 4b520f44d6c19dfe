-- Runs of characters that pass a test, and the longest word that is such a run.
use Rattle.std.proofs.Common.{◌≡◌, ◌∙◌, ℕ, ◌+◌, List, [], ◌∷◌, ◌++◌, Bool, true, false, length, take, drop, refl, sym, ap, subst, inl, inr, arith, length-append}
use Rattle.std.proofs.Math.Seq.{take-append_seam, drop-append_seam}
use Rattle.std.proofs.lemmas.Bool.{cases_Bool, and_from, cond-true, cond-false}
use Rattle.std.specs.Prelude.{Option, Some, ◌⊎◌, if◌then◌else◌}
use Rattle.std.specs.List.{prefix_len}
use Rattle.jq_tree.specs.Words.{every, Lexeme, Longest}
use Rattle.jq_tree.proofs.shared.Fronts.{and_left, and_right}
use Rattle.jq_lexer.specs.private.Found.{HasForm, IsWordAt}
use Rattle.jq_lexer.specs.declared.words.Shape.{Shape}

abbrev pub starts : (ℕ → Bool) → List ℕ → Bool
starts p [] = false
starts p (c ∷ cs) = p c

-- The characters at the start that pass, and what follows them.
pub record Run (p : ℕ → Bool) (text : List ℕ) : Type 0 where
  pub front : List ℕ
  pub rest : List ℕ
  pub whole : text ≡ front ++ rest
  pub size : prefix_len p text ≡ length front
  pub each : every p front ≡ true
  pub stops : starts p rest ≡ false

pub run_of : (p : ℕ → Bool) (text : List ℕ) → Run p text
run_of p [] = record { front = []; rest = []; whole = refl; size = refl; each = refl; stops = refl }
run_of p (c ∷ cs) = elim (cases_Bool (p c)) [
  | inl e ↦ let r = run_of p cs in record {
    front = c ∷ r.front;
    rest = r.rest;
    whole = ap (λ (t : List ℕ). c ∷ t) r.whole;
    size = cond-true (p c) (1 + prefix_len p cs) 0 e ∙ (let s = r.size in omega arith);
    each = and_from (p c) (every p r.front) e r.each;
    stops = r.stops;
  }
  | inr e ↦ record {
    front = [];
    rest = c ∷ cs;
    whole = refl;
    size = cond-false (p c) (1 + prefix_len p cs) 0 e;
    each = refl;
    stops = e;
  }
]

-- The length of a run, if the next character does not pass.
pub run_length : (p : ℕ → Bool) (front rest : List ℕ) → every p front ≡ true → starts p rest ≡ false → prefix_len p (front ++ rest) ≡ length front
run_length p [] [] e s = refl
run_length p [] (c ∷ cs) e s = cond-false (p c) (1 + prefix_len p cs) 0 s
run_length p (c ∷ cs) rest e s =
    let h = run_length p cs rest (and_right (p c) (every p cs) e) s in
    cond-true (p c) (1 + prefix_len p (cs ++ rest)) 0 (and_left (p c) (every p cs) e) ∙ omega arith

pub every_after : (p : ℕ → Bool) (xs ys : List ℕ) → every p (xs ++ ys) ≡ true → every p ys ≡ true
every_after p [] ys h = h
every_after p (x ∷ xs) ys h = every_after p xs ys (and_right (p x) (every p (xs ++ ys)) h)

-- A run does not go past a character that fails the test.
pub no_more : (p : ℕ → Bool) (front rest : List ℕ) (x : ℕ) (xs after : List ℕ) → every p (front ++ x ∷ xs) ≡ true → rest ≡ x ∷ (xs ++ after)
    → starts p rest ≡ false → ⊥
no_more p front rest x xs after h e s =
    let a : p x ≡ true = and_left (p x) (every p xs) (every_after p front (x ∷ xs) h) in
    let b : false ≡ true = sym s ∙ ap (starts p) e ∙ a in cc b

-- ---- words

pub longest_word : (text w rest : List ℕ) → text ≡ w ++ rest → Lexeme w
    → ((x : ℕ) (xs after : List ℕ) → rest ≡ x ∷ (xs ++ after) → Lexeme (w ++ x ∷ xs) → ⊥) → Longest text w rest
longest_word text w rest e h k = record { front = e; is_word = h; no_longer = none }
  where
    none : (more after : List ℕ) → rest ≡ more ++ after → Lexeme (w ++ more) → more ≡ []
    none [] after f g = refl
    none (x ∷ xs) after f g = absurd (k x xs after f g)

pub word_at : (text w rest : List ℕ) (s : Shape) (n : ℕ) → text ≡ w ++ rest → n ≡ length w → Longest text w rest → HasForm s w → IsWordAt text s n
word_at text w rest s n e k l f =
    let t : take n text ≡ w = ap (λ (m : ℕ). take m text) k ∙ ap (take (length w)) e ∙ take-append_seam w rest in
    let d : drop n text ≡ rest = ap (λ (m : ℕ). drop m text) k ∙ ap (drop (length w)) e ∙ drop-append_seam w rest in
    let size = ap length e ∙ length-append w rest in
    record {
      within = omega arith;
      longest = subst (λ (x : List ℕ). Longest text x (drop n text)) (sym t) (subst (λ (x : List ℕ). Longest text w x) (sym d) l);
      form = subst (HasForm s) (sym t) f;
    }

-- ---- a search

pub chosen : {A : Type 0} (b : Bool) (x y : A) (o : Option A) → (if b then Some x else o) ≡ Some y → ((b ≡ true) × (x ≡ y)) ⊎ (o ≡ Some y)
chosen true x y o e = inl (refl, cc e)
chosen false x y o e = inr e
