use Rattle.std.proofs.Common.{◌≡◌, ◌∙◌, ◌+◌, ◌<◌, ◌∷◌, [], ◌++◌, ap, rules, arith}
use Rattle.jq_resolver.specs.private.Waiting.{names_left, visits_of, visits_left, visits_waiting, then_left, uses_waiting}
use Rattle.jq_resolver.proofs.Walking.{visits_push, uses_push}
use Rattle.jq_resolver.proofs.uses.Uses.next.Goals as goal

pub returns-in-Some-2-clause-uses : goal.returns-in-Some-2-clause-uses
returns-in-Some-2-clause-uses c =
    let before = c.pop.new.self.items in
    let waiting = c.in-Some.waiting in
    let all : c.loop-waiting.self.waiting.items ≡ before ++ waiting ∷ [] = search rules in
    c.loop-waiting.invariant.0 ∙ ap uses_waiting all ∙ uses_push before waiting ∙ c.in_ok-name.ensures.uses
    ∙ ap (λ next. then_left next (names_left c.open.new.self)) c.in-Some-2.is

pub returns-in-Some-2-clause-fewer : goal.returns-in-Some-2-clause-fewer
returns-in-Some-2-clause-fewer c =
    let before = c.pop.new.self.items in
    let waiting = c.in-Some.waiting in
    let all : c.loop-waiting.self.waiting.items ≡ before ++ waiting ∷ [] = search rules in
    let whole : visits_left c.loop-waiting.self ≡ visits_of waiting.part waiting.around + visits_waiting before = ap visits_waiting all ∙ visits_push before waiting in
    omega (arith, c.in_ok-name.ensures.fewer)

pub loop-waiting-smaller : goal.loop-waiting-smaller
loop-waiting-smaller c =
    let before = c.pop.new.self.items in
    let waiting = c.in-Some.waiting in
    let all : c.loop-waiting.self.waiting.items ≡ before ++ waiting ∷ [] = search rules in
    let whole : visits_left c.loop-waiting.self ≡ visits_of waiting.part waiting.around + visits_waiting before = ap visits_waiting all ∙ visits_push before waiting in
    let less : visits_left c.open.new.self < visits_left c.loop-waiting.self = omega (arith, c.in_ok-name.ensures.fewer) in
    less

pub loop-waiting-preserved : goal.loop-waiting-preserved
loop-waiting-preserved c =
    let before = c.pop.new.self.items in
    let waiting = c.in-Some.waiting in
    let all : c.loop-waiting.self.waiting.items ≡ before ++ waiting ∷ [] = search rules in
    let whole : visits_left c.loop-waiting.self ≡ visits_of waiting.part waiting.around + visits_waiting before = ap visits_waiting all ∙ visits_push before waiting in (
      c.loop-waiting.invariant.0 ∙ ap uses_waiting all ∙ uses_push before waiting ∙ c.in_ok-name.ensures.uses
          ∙ ap (λ next. then_left next (names_left c.open.new.self)) c.in_default-2.is,
      omega (arith, c.in_ok-name.ensures.fewer),
    )
