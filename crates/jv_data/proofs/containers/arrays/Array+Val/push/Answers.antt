use Rattle.std.proofs.Common.{rules, ◌∙◌, ap, map, [], ◌∷◌, ◌++◌}
use Rattle.std.proofs.lemmas.List.{map-append}
use Rattle.jv_data.proofs.Shares.{same_vec, on_err}
use Rattle.jv_data.specs.View.{view}
use Rattle.jv_data.proofs.containers.arrays.Array+Val.push.Goals as goal

pub returns-clause-ok : goal.returns-clause-ok
returns-clause-ok c =
    let item = c.args.item in
    let held = c.in_ok-make_mut.field-0.now in
    ap (λ v. map view v.items) (c.make_mut.follows.holds c.push.new.self (search rules)) ∙ ap (map view) c.in_ok-push.ensures.items ∙ map-append view held.items (item ∷ [])
    ∙ ap (λ vs. vs ++ view item ∷ []) (same_vec (c.args.self.now.items.value) held c.in_ok-make_mut.ensures.value)

pub returns-in_err-make_mut-clause-err : goal.returns-in_err-make_mut-clause-err
returns-in_err-make_mut-clause-err c = on_err c.from_residual.result (same_vec (c.args.self.now.items.value) c.make_mut.follows.lender-at-none.value (rw c.in_err-make_mut.was at c.make_mut.follows.holds-at-none))

pub returns-in_err-push-clause-err : goal.returns-in_err-push-clause-err
returns-in_err-push-clause-err c =
    let held = c.in_ok-make_mut.field-0.now in
    on_err c.from_residual-in_err-push.result
    (ap (λ v. map view v.items) (c.make_mut.follows.holds c.push.new.self (search rules)) ∙ ap (map view) c.in_err-push.ensures.items ∙ same_vec (c.args.self.now.items.value) held c.in_ok-make_mut.ensures.value)
