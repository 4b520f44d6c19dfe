use Rattle.std.proofs.Common.{◌∷◌, ◌++◌, [], ℕ, List, lit<, lit≤, sym, ap, ◌∙◌}
use Rattle.std.proofs.lemmas.Fmt.{decimal_digit, decimal_step}
use Rattle.jq_script.specs.Answers.{refused_answer}
use Rattle.jq_script.specs.Script.{fault_number}
use Rattle.jq_script.proofs.replies.fault_line.Goals as goal

-- "refused ", a number and a newline
abbrev told : List ℕ → List ℕ
told digits = 114 ∷ 101 ∷ 102 ∷ 117 ∷ 115 ∷ 101 ∷ 100 ∷ 32 ∷ (digits ++ 10 ∷ [])

pub returns-in-Lex : goal.returns-in-Lex
returns-in-Lex c =
    sym (ap told (decimal_step 10 (lit≤ tt) (lit< tt) ∙ ap (λ l. l ++ 48 ∷ []) (decimal_digit 1 (lit< tt)))) ∙ ap (λ f. refused_answer (fault_number f)) (sym c.in-Lex.is)

pub returns-in-Syntax : goal.returns-in-Syntax
returns-in-Syntax c =
    sym (ap told (decimal_step 11 (lit≤ tt) (lit< tt) ∙ ap (λ l. l ++ 49 ∷ []) (decimal_digit 1 (lit< tt)))) ∙ ap (λ f. refused_answer (fault_number f)) (sym c.in-Syntax.is)

pub returns-in-TooManyTokens : goal.returns-in-TooManyTokens
returns-in-TooManyTokens c =
    sym (ap told (decimal_step 12 (lit≤ tt) (lit< tt) ∙ ap (λ l. l ++ 50 ∷ []) (decimal_digit 1 (lit< tt)))) ∙ ap (λ f. refused_answer (fault_number f)) (sym c.in-TooManyTokens.is)

pub returns-in-TooNested : goal.returns-in-TooNested
returns-in-TooNested c =
    sym (ap told (decimal_step 13 (lit≤ tt) (lit< tt) ∙ ap (λ l. l ++ 51 ∷ []) (decimal_digit 1 (lit< tt)))) ∙ ap (λ f. refused_answer (fault_number f)) (sym c.in-TooNested.is)

pub returns-in-Undefined : goal.returns-in-Undefined
returns-in-Undefined c =
    sym (ap told (decimal_step 14 (lit≤ tt) (lit< tt) ∙ ap (λ l. l ++ 52 ∷ []) (decimal_digit 1 (lit< tt)))) ∙ ap (λ f. refused_answer (fault_number f)) (sym c.in-Undefined.is)

pub returns-in-InputsPlace : goal.returns-in-InputsPlace
returns-in-InputsPlace c =
    sym (ap told (decimal_step 15 (lit≤ tt) (lit< tt) ∙ ap (λ l. l ++ 53 ∷ []) (decimal_digit 1 (lit< tt)))) ∙ ap (λ f. refused_answer (fault_number f)) (sym c.in-InputsPlace.is)

pub returns-in-InputsNeedNull : goal.returns-in-InputsNeedNull
returns-in-InputsNeedNull c =
    sym (ap told (decimal_step 16 (lit≤ tt) (lit< tt) ∙ ap (λ l. l ++ 54 ∷ []) (decimal_digit 1 (lit< tt)))) ∙ ap (λ f. refused_answer (fault_number f)) (sym c.in-InputsNeedNull.is)

pub returns-in-NoMemory : goal.returns-in-NoMemory
returns-in-NoMemory c =
    sym (ap told (decimal_step 40 (lit≤ tt) (lit< tt) ∙ ap (λ l. l ++ 48 ∷ []) (decimal_digit 4 (lit< tt)))) ∙ ap (λ f. refused_answer (fault_number f)) (sym c.in-NoMemory.is)
