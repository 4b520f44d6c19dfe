use Rattle.std.proofs.Common.{◌∙◌, ap, sym, rules, subst, Ok}
use Rattle.jv_data.specs.Fails.{FailsAs}
use Rattle.jv_data.specs.View.{view}
use Rattle.jv_value.specs.DeletePaths.{all_locations, removed}
use Rattle.jv_value.specs.Results.{map_ok}
use Rattle.jv_value.specs.DeletePaths.{paths_in}
use Rattle.jv_value.proofs.Answered.{raises_on}
use Rattle.jv_value.proofs.Orders.{sorted_paths}
use Rattle.jv_value.proofs.deleting.delpaths.Goals as goal

pub returns-in-Err : goal.returns-in-Err
returns-in-Err c =
    let v = view c.args.value in
    let sorted = sorted_paths c.args.paths.items c.sort.new.self.items c.in_ok-sort.ensures.permutation (λ k d inside. c.in_ok-sort.ensures.sorted k d (search rules) inside) in
    subst (λ qs. FailsAs c.in-Err.failure (map_ok (λ ps. removed ps v) (all_locations v qs))) (sym sorted)
    (raises_on c.in-Err.failure (λ ps. removed ps v) (all_locations v (paths_in c.sort.new.self.items)) (rw c.as_slice.ensures.value at c.in-Err.ensures))

pub returns-in_ok-removed-in-Ok : goal.returns-in_ok-removed-in-Ok
returns-in_ok-removed-in-Ok c =
    let v = view c.args.value in
    let sorted = sorted_paths c.args.paths.items c.sort.new.self.items c.in_ok-sort.ensures.permutation (λ k d inside. c.in_ok-sort.ensures.sorted k d (search rules) inside) in
    ap (λ qs. map_ok (λ ps. removed ps v) (all_locations v qs)) sorted ∙ ap (map_ok (λ ps. removed ps v)) (rw c.as_slice.ensures.value at c.in-Ok.ensures) ∙ ap Ok (sym c.in_ok-removed-in-Ok.ensures)
