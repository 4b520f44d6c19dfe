use Rattle.std.proofs.Common.{◌≡◌, ◌∙◌, ◌++◌, [], ap, sym, arith, map, drop}
use Rattle.std.proofs.lemmas.List.{drop_all, append-nil}
use Rattle.jv_data.specs.Held.{values_in}
use Rattle.jv_data.specs.Value.{items_of}
use Rattle.jv_data.specs.View.{view}
use Rattle.jv_arith.proofs.Items.{kept, left_over-items_of}
use Rattle.jv_arith.proofs.arrays.left_over.Goals as goal

pub returns : goal.returns
returns c =
    let left = values_in c.args.left.now in
    let right = values_in c.args.right.now in
    let items = c.loop-item.items.items in
    let rest : drop c.loop-item.item-index c.as_slice-item-items.result.now ≡ [] = drop_all c.loop-item.item-index c.as_slice-item-items.result.now (omega arith) in
    let all : kept right left ≡ map view items = c.loop-item.invariant ∙ ap (λ vs. map view items ++ kept right (map view vs)) rest ∙ append-nil (map view items) in
    ap items_of (sym all) ∙ sym (left_over-items_of left right)
