use Rattle.std.proofs.Common.{◌≤◌, List, length, sym, subst, length-take-le}
use Rattle.jv_data.specs.declared.values.Val.{Val}
use Rattle.jq_pages.proofs.dividing.first_half.Goals as goal

pub slice_bounds-result-end : goal.slice_bounds-result-end
slice_bounds-result-end g c = sym (length-take-le 32 c.deref.result.now (subst (λ (z : List Val). 32 ≤ length z) (sym c.deref.ensures.value) c.requires))

pub returns-clause-len : goal.returns-clause-len
returns-clause-len g c = length-take-le 32 c.deref.result.now (subst (λ (z : List Val). 32 ≤ length z) (sym c.deref.ensures.value) c.requires)
