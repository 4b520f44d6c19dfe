-- The result of a call, compared with the expected result.
use Rattle.std.proofs.Common.{◌≡◌, ◌∙◌, Result, Ok, Err, MatchResult, sym, ap, subst}
use Rattle.jv_data.specs.Fails.{FailsAs}
use Rattle.jv_data.specs.Value.{Value}
use Rattle.jv_data.specs.View.{view}
use Rattle.jv_data.specs.declared.failures.Fail.{Fail}
use Rattle.jv_data.specs.declared.failures.Fail.TheVariants.{Raised, NoMemory}
use Rattle.jv_data.specs.declared.values.Val.{Val}
use Rattle.jv_value.specs.Results.{map_ok}

-- the result is the expected one
abbrev pub Answers : Result Val Fail → Result Value Value → Type 0
Answers r t = MatchResult r (λ v. t ≡ Ok (view v)) (λ f. FailsAs f t)

pub same_answer : (r : Result Val Fail) (s t : Result Value Value) → s ≡ t → Answers r t → Answers r s
same_answer r s t e h = subst (Answers r) (sym e) h

pub found_part : (r : Result Val Fail) (target : Result Value Value) (p : Value) → target ≡ Ok p → MatchResult r (λ v. view v ≡ p) (λ f. f ≡ NoMemory) → Answers r target
found_part (Ok v) target p e h = e ∙ ap Ok (sym h)
found_part (Err f) target p e h = subst (λ g. FailsAs g target) (sym h) tt

pub raises_on : {A : Type 0} (f : Fail) (g : A → Value) (r : Result A Value) → FailsAs f r → FailsAs f (map_ok g r)
raises_on (Raised v) g r h = ap (map_ok g) h
raises_on NoMemory g r h = tt
