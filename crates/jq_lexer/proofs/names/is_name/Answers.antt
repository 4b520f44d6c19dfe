use Rattle.std.proofs.Common.{rules, tests, ◌≡◌, ◌∙◌, ℕ, Bool, List, [], ◌∷◌, true, Some, refl, sym, ap}
use Rattle.std.specs.Prelude.{slice_get, ◌&&◌, ◌||◌}
use Rattle.std.specs.List.{list_all}
use Rattle.std.specs.Str.{chars}
use Rattle.std.proofs.lemmas.Iterator.{YieldsList-from_chars}
use Rattle.std.proofs.lemmas.Iterator.Search.{all_from_yields_List}
use Rattle.jq_tree.specs.Words.{every, is_digit, is_letter, is_name, is_name_character}
use Rattle.jq_lexer.proofs.names.is_name.Goals as goal

each : (test : ℕ → Bool) (cs : List ℕ) → list_all test cs ≡ every test cs
each test [] = refl
each test (c ∷ cs) = ap (λ b. test c && b) (each test cs)

-- the name begins with a letter, which is one of its characters
begun : (x : ℕ) (cs : List ℕ) → Some x ≡ slice_get cs 0 → is_letter x ≡ true → list_all is_name_character cs ≡ is_name cs
begun x [] e h = cc
begun x (c ∷ cs) e h =
    let is : is_letter c ≡ true = cc in
    ap (λ b. (b || is_digit c) && list_all is_name_character cs) is ∙ each is_name_character cs ∙ ap (λ b. b && every is_name_character cs) (sym is)

pub returns-then-is_letter : goal.returns-then-is_letter
returns-then-is_letter c =
    let cs = chars c.args.text.now in
    let goes_on : c.all.result ≡ list_all is_name_character cs =
    all_from_yields_List is_name_character _ _ _ c.all.ensures.ran (YieldsList-from_chars c.args.text.now c.utf8.text c.chars-then-is_letter.ensures.rest) (λ x b q k. search (rules, tests)) in
    goes_on ∙ begun c.in-Some.first cs (c.in-Some.ensures.steps.2 ∙ ap (λ bs. slice_get (chars bs) 0) c.chars.ensures.rest) (sym c.is_letter.ensures ∙ c.if-is_letter.true)
