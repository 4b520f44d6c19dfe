-- Words that are names, alone or after a sign.
use Rattle.std.proofs.Common.{◌≡◌, ◌∙◌, ℕ, ◌+◌, List, [], ◌∷◌, ◌++◌, true, length, refl, sym, ap, subst, arith}
use Rattle.std.proofs.lemmas.Bool.{and_from, or_left, cond-true}
use Rattle.std.specs.List.{prefix_len}
use Rattle.jq_tree.specs.Words.{every, is_letter, is_name_character, is_digit, is_name, is_format_name, name_form, field_form, variable_form, format_form}
use Rattle.jq_tree.proofs.shared.Fronts.{and_right, format_name_is}
use Rattle.jq_tree.proofs.shared.OneNumber.{tail_of}
use Rattle.jq_tree.proofs.shared.Tags.{letter_tag, point_letter_tag}
use Rattle.jq_lexer.specs.private.Found.{IsWordAt}
use Rattle.jq_lexer.specs.declared.words.Shape.TheVariants as shape
use Rattle.jq_lexer.proofs.Runs.{run_of, no_more, longest_word, word_at}
use Rattle.jq_lexer.proofs.Tags.{only_name, only_field, only_variable, only_format}

run_size : (c : ℕ) (cs : List ℕ) → is_letter c ≡ true → prefix_len is_name_character (c ∷ cs) ≡ 1 + prefix_len is_name_character cs
run_size c cs h = cond-true (is_name_character c) (1 + prefix_len is_name_character cs) 0 (or_left (is_letter c) (is_digit c) h)

-- The characters of a name after its first letter are name characters.
name_run : (c : ℕ) (cs : List ℕ) → is_name (c ∷ cs) ≡ true → every is_name_character cs ≡ true
name_run c cs h = and_right (is_letter c) (every is_name_character cs) h

pub name_word : (c : ℕ) (cs : List ℕ) → is_letter c ≡ true → IsWordAt (c ∷ cs) shape.Name (prefix_len is_name_character (c ∷ cs))
name_word c cs h =
    let r = run_of is_name_character cs in
    let name : is_name (c ∷ r.front) ≡ true = and_from (is_letter c) (every is_name_character r.front) h r.each in
    let text : c ∷ cs ≡ (c ∷ r.front) ++ r.rest = ap (λ (t : List ℕ). c ∷ t) r.whole in
    let size = run_size c cs h in
    let more = r.size in
    word_at (c ∷ cs) (c ∷ r.front) r.rest shape.Name (prefix_len is_name_character (c ∷ cs)) text (omega arith)
    (longest_word (c ∷ cs) (c ∷ r.front) r.rest text (name_form name)
    (λ x xs after e l. no_more is_name_character r.front r.rest x xs after
    (name_run c (r.front ++ x ∷ xs) (only_name l (letter_tag c (r.front ++ x ∷ xs) h))) e r.stops)) name

-- ---- after a sign

pub field_word : (c : ℕ) (cs : List ℕ) → is_letter c ≡ true → IsWordAt (46 ∷ c ∷ cs) shape.Field (1 + prefix_len is_name_character (c ∷ cs))
field_word c cs h =
    let r = run_of is_name_character cs in
    let name : is_name (c ∷ r.front) ≡ true = and_from (is_letter c) (every is_name_character r.front) h r.each in
    let text : 46 ∷ c ∷ cs ≡ (46 ∷ c ∷ r.front) ++ r.rest = ap (λ (t : List ℕ). 46 ∷ c ∷ t) r.whole in
    let size = run_size c cs h in
    let more = r.size in
    word_at (46 ∷ c ∷ cs) (46 ∷ c ∷ r.front) r.rest shape.Field (1 + prefix_len is_name_character (c ∷ cs)) text (omega arith)
    (longest_word (46 ∷ c ∷ cs) (46 ∷ c ∷ r.front) r.rest text (field_form (c ∷ r.front) refl name)
    (λ x xs after e l. let f = only_field l (point_letter_tag c (r.front ++ x ∷ xs) h) in
    no_more is_name_character r.front r.rest x xs after
    (name_run c (r.front ++ x ∷ xs) (ap is_name (ap tail_of (f.1)) ∙ f.2)) e r.stops)) (c ∷ r.front, refl, name)

pub variable_word : (c : ℕ) (cs : List ℕ) → is_letter c ≡ true → IsWordAt (36 ∷ c ∷ cs) shape.Variable (1 + prefix_len is_name_character (c ∷ cs))
variable_word c cs h =
    let r = run_of is_name_character cs in
    let name : is_name (c ∷ r.front) ≡ true = and_from (is_letter c) (every is_name_character r.front) h r.each in
    let text : 36 ∷ c ∷ cs ≡ (36 ∷ c ∷ r.front) ++ r.rest = ap (λ (t : List ℕ). 36 ∷ c ∷ t) r.whole in
    let size = run_size c cs h in
    let more = r.size in
    word_at (36 ∷ c ∷ cs) (36 ∷ c ∷ r.front) r.rest shape.Variable (1 + prefix_len is_name_character (c ∷ cs)) text (omega arith)
    (longest_word (36 ∷ c ∷ cs) (36 ∷ c ∷ r.front) r.rest text (variable_form (c ∷ r.front) refl name)
    (λ x xs after e l. let f = only_variable l refl in
    no_more is_name_character r.front r.rest x xs after
    (name_run c (r.front ++ x ∷ xs) (ap is_name (ap tail_of (f.1)) ∙ f.2)) e r.stops)) (c ∷ r.front, refl, name)

format_of_every : (n : List ℕ) (m : ℕ) → m ≡ length n → (m ≡ 0 → ⊥) → every is_name_character n ≡ true → is_format_name n ≡ true
format_of_every [] m e some h = absurd (some e)
format_of_every (c ∷ cs) m e some h = h

pub format_word : (cs : List ℕ) → (prefix_len is_name_character cs ≡ 0 → ⊥) → IsWordAt (64 ∷ cs) shape.Format (1 + prefix_len is_name_character cs)
format_word cs some =
    let r = run_of is_name_character cs in
    let name : is_format_name r.front ≡ true = format_of_every r.front (prefix_len is_name_character cs) r.size some r.each in
    let text : 64 ∷ cs ≡ (64 ∷ r.front) ++ r.rest = ap (λ (t : List ℕ). 64 ∷ t) r.whole in
    let more = r.size in
    word_at (64 ∷ cs) (64 ∷ r.front) r.rest shape.Format (1 + prefix_len is_name_character cs) text (omega arith)
    (longest_word (64 ∷ cs) (64 ∷ r.front) r.rest text (format_form r.front refl name)
    (λ x xs after e l. let f = only_format l refl in
    no_more is_name_character r.front r.rest x xs after
    (format_name_is (r.front ++ x ∷ xs) (ap is_format_name (ap tail_of (f.1)) ∙ f.2)) e r.stops)) (r.front, refl, name)

-- ---- the same with equations

pub name_at : (text : List ℕ) (c : ℕ) (cs : List ℕ) (n : ℕ) → text ≡ c ∷ cs → is_letter c ≡ true → n ≡ prefix_len is_name_character text → IsWordAt text shape.Name n
name_at text c cs n e h s = subst (λ (m : ℕ). IsWordAt text shape.Name m) (sym s) (subst (λ (t : List ℕ). IsWordAt t shape.Name (prefix_len is_name_character t)) (sym e) (name_word c cs h))

pub field_at : (text rest : List ℕ) (c : ℕ) (cs : List ℕ) (n : ℕ) → text ≡ 46 ∷ rest → rest ≡ c ∷ cs → is_letter c ≡ true → n ≡ prefix_len is_name_character rest → IsWordAt text shape.Field (1 + n)
field_at text rest c cs n e f h s = subst (λ (m : ℕ). IsWordAt text shape.Field (1 + m)) (sym s) (subst (λ (t : List ℕ). IsWordAt t shape.Field (1 + prefix_len is_name_character rest)) (sym e)
    (subst (λ (t : List ℕ). IsWordAt (46 ∷ t) shape.Field (1 + prefix_len is_name_character t)) (sym f) (field_word c cs h)))

pub variable_at : (rest : List ℕ) (c : ℕ) (cs : List ℕ) (n : ℕ) → rest ≡ c ∷ cs → is_letter c ≡ true → n ≡ prefix_len is_name_character rest → IsWordAt (36 ∷ rest) shape.Variable (1 + n)
variable_at rest c cs n e h s = subst (λ (m : ℕ). IsWordAt (36 ∷ rest) shape.Variable (1 + m)) (sym s)
    (subst (λ (t : List ℕ). IsWordAt (36 ∷ t) shape.Variable (1 + prefix_len is_name_character t)) (sym e) (variable_word c cs h))

pub format_at : (rest : List ℕ) (n : ℕ) → n ≡ prefix_len is_name_character rest → (n ≡ 0 → ⊥) → IsWordAt (64 ∷ rest) shape.Format (1 + n)
format_at rest n s some = subst (λ (m : ℕ). IsWordAt (64 ∷ rest) shape.Format (1 + m)) (sym s) (format_word rest (λ e. some (s ∙ e)))
