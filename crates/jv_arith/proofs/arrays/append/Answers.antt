use Rattle.std.proofs.Common.{◌≡◌, ◌∙◌, ◌++◌, [], ap, sym, arith, map, drop}
use Rattle.std.proofs.lemmas.List.{drop_all, append-nil}
use Rattle.jv_data.specs.Held.{values_in}
use Rattle.jv_data.specs.Value.{items_of}
use Rattle.jv_data.specs.View.{view}
use Rattle.jv_arith.proofs.Items.{joined-items_of}
use Rattle.jv_arith.proofs.arrays.append.Goals as goal

pub returns : goal.returns
returns c =
    let left = values_in c.args.left.now in
    let items = values_in c.loop-item.left in
    let others = c.as_slice-item-items.result.now in
    let rest : drop c.loop-item.item-index others ≡ [] = drop_all c.loop-item.item-index others (omega arith) in
    let all : left ++ map view others ≡ items = c.loop-item.invariant ∙ ap (λ vs. items ++ map view vs) rest ∙ append-nil items in
    ap items_of (sym all ∙ ap (λ vs. left ++ map view vs) c.as_slice-item-items.ensures) ∙ sym (joined-items_of left (values_in c.args.right.now))
