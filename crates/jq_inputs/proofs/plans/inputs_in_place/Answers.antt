use Rattle.std.proofs.Common.{◌∙◌, refl, sym}
use Rattle.jq_ast.specs.Named.{named}
use Rattle.jq_inputs.proofs.Whole.{none_in_place, one_in_place, in_place_once, more_misplaced}
use Rattle.jq_inputs.proofs.plans.inputs_in_place.Goals as goal

pub returns-in-Zero : goal.returns-in-Zero
returns-in-Zero c =
    let e = rw c.nothing.ensures at c.survey-found.ensures.count in
    (λ i. none_in_place (named c.args.tree.now) (sym e ∙ c.in-Zero.is), λ p. refl)

pub returns-in-One : goal.returns-in-One
returns-in-One c =
    let e = rw c.nothing.ensures at c.survey-found.ensures.count in
    let o = rw c.nothing.ensures at c.survey-found.ensures.once in
    (λ i. one_in_place (named c.args.tree.now) (sym e ∙ c.in-One.is) (sym o ∙ i), λ p. o ∙ in_place_once (named c.args.tree.now) (sym e ∙ c.in-One.is) p)

pub returns-in-More : goal.returns-in-More
returns-in-More c =
    let e = rw c.nothing.ensures at c.survey-found.ensures.count in
    (λ i. absurd (cc), λ p. absurd (more_misplaced (named c.args.tree.now) (sym e ∙ c.in-More.is) p))
