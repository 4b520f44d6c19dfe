use Rattle.std.proofs.Common.{◌∷◌, ◌++◌, [], ℕ, List, lit<, lit≤, sym, ap, ◌∙◌}
use Rattle.std.proofs.lemmas.Fmt.{decimal_digit, decimal_step}
use Rattle.jq_script.specs.Answers.{refused_answer}
use Rattle.jq_script.specs.private.Replies.{number_in}
use Rattle.jq_script.proofs.replies.refused_line.Goals as goal

-- "refused ", a number and a newline
abbrev told : List ℕ → List ℕ
told digits = 114 ∷ 101 ∷ 102 ∷ 117 ∷ 115 ∷ 101 ∷ 100 ∷ 32 ∷ (digits ++ 10 ∷ [])

pub returns-in-Unknown : goal.returns-in-Unknown
returns-in-Unknown c = sym (ap told (decimal_digit 0 (lit< tt))) ∙ ap (λ r. refused_answer (number_in r)) (sym c.in-Unknown.is)

pub returns-in-NoPlace : goal.returns-in-NoPlace
returns-in-NoPlace c =
    sym (ap told (decimal_step 20 (lit≤ tt) (lit< tt) ∙ ap (λ l. l ++ 48 ∷ []) (decimal_digit 2 (lit< tt)))) ∙ ap (λ r. refused_answer (number_in r)) (sym c.in-NoPlace.is)

pub returns-in-BadText : goal.returns-in-BadText
returns-in-BadText c =
    sym (ap told (decimal_step 21 (lit≤ tt) (lit< tt) ∙ ap (λ l. l ++ 49 ∷ []) (decimal_digit 2 (lit< tt)))) ∙ ap (λ r. refused_answer (number_in r)) (sym c.in-BadText.is)

pub returns-in-Full : goal.returns-in-Full
returns-in-Full c =
    sym (ap told (decimal_step 22 (lit≤ tt) (lit< tt) ∙ ap (λ l. l ++ 50 ∷ []) (decimal_digit 2 (lit< tt)))) ∙ ap (λ r. refused_answer (number_in r)) (sym c.in-Full.is)

pub returns-in-NoMemory : goal.returns-in-NoMemory
returns-in-NoMemory c =
    sym (ap told (decimal_step 40 (lit≤ tt) (lit< tt) ∙ ap (λ l. l ++ 48 ∷ []) (decimal_digit 4 (lit< tt)))) ∙ ap (λ r. refused_answer (number_in r)) (sym c.in-NoMemory.is)
