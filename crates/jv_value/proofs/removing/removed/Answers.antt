use Rattle.std.proofs.Common.{◌≡◌, ◌∙◌, ap, sym, rules, length}
use Rattle.std.proofs.lemmas.List.{nil_from_length}
use Rattle.jv_data.specs.View.{view}
use Rattle.jv_value.specs.DeletePaths.{removed}
use Rattle.jv_value.specs.private.Locations.{locations_in}
use Rattle.jv_value.proofs.Following.{without_nothing}
use Rattle.jv_value.proofs.removing.removed.Goals as goal

pub returns-then-is_empty : goal.returns-then-is_empty
returns-then-is_empty c =
    let v = view c.args.value in
    let none : length c.args.locations.items ≡ 0 = search rules in
    sym (ap (λ qs. removed (locations_in qs) v) (nil_from_length c.args.locations.items none) ∙ without_nothing v)
