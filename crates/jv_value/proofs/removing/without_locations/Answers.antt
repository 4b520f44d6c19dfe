use Rattle.std.proofs.Common.{◌≡◌, ◌∙◌, ap, sym, subst, rules, length}
use Rattle.std.proofs.lemmas.List.{nil_from_length}
use Rattle.jv_data.specs.View.{view}
use Rattle.jv_value.specs.DeletePaths.{without_locations}
use Rattle.jv_value.specs.private.Locations.{locations_in}
use Rattle.jv_value.specs.private.Removals.{AllLeave}
use Rattle.jv_value.proofs.Following.{without_nothing}
use Rattle.jv_value.proofs.Removals.{all_leave_last}
use Rattle.jv_value.proofs.removing.without_locations.Goals as goal

pub returns-in-None : goal.returns-in-None
returns-in-None c =
    let v = view c.loop.part in
    let all = without_locations (locations_in c.args.locations.items) (view c.args.value) in
    let empty : length c.loop.within.items ≡ 0 = search rules in
    let none : length c.loop.opened.items ≡ 0 = search rules in
    let same = ap (λ ps. without_locations (locations_in ps) v) (nil_from_length c.loop.within.items empty) ∙ without_nothing v in
    sym same ∙ subst (λ os. AllLeave os (without_locations (locations_in c.loop.within.items) v) all) (nil_from_length c.loop.opened.items none) c.loop.invariant

pub loop-preserved-in-Some : goal.loop-preserved-in-Some
loop-preserved-in-Some c =
    let v = view c.loop.part in
    let all = without_locations (locations_in c.args.locations.items) (view c.args.value) in
    let rest = c.pop.new.self.items in
    let empty : length c.loop.within.items ≡ 0 = search rules in
    let same = ap (λ ps. without_locations (locations_in ps) v) (nil_from_length c.loop.within.items empty) ∙ without_nothing v in
    let inner = all_leave_last rest c.in-Some.container v all (subst (λ os. AllLeave os v all) c.in-Some.ensures.items (subst (λ x. AllLeave c.loop.opened.items x all) same c.loop.invariant)) in
    c.in_ok-next-in-Some.ensures inner.0 inner.1 all inner.2
