use Rattle.std.proofs.Common.{◌∙◌, ◌∷◌, [], ap, sym, map}
use Rattle.std.proofs.lemmas.List.{map-append}
use Rattle.jv_value.specs.private.Locations.{locations_in}
use Rattle.jv_value.specs.private.Steps.{before_all, stride_of}
use Rattle.jv_value.proofs.Strides.{before_all-last}
use Rattle.jv_value.proofs.finding.after_steps.Goals as goal

pub loop-step-preserved : goal.loop-step-preserved
loop-step-preserved c =
    let ss = c.pop.new.self.items in
    let s = c.in-Some.step in
    let qs = locations_in c.loop-step.locations.items in
    ap (before_all (map stride_of ss)) c.in_ok-locations.ensures
    ∙ sym (ap (λ ts. before_all ts qs) (ap (map stride_of) c.in-Some.ensures.items ∙ map-append stride_of ss (s ∷ [])) ∙ before_all-last (map stride_of ss) (stride_of s) qs)
    ∙ c.loop-step.invariant
