use Rattle.std.proofs.Common.{◌∙◌, sym}
use Rattle.std.specs.Ordering.{is_eq}
use Rattle.jv_data.specs.Value.{compare}
use Rattle.jv_data.specs.View.{view}
use Rattle.jv_arith.proofs.Items.{list_any-map}
use Rattle.jv_arith.proofs.arrays.is_among.Goals as goal

pub returns : goal.returns
returns c = c.contains.ensures.value ∙ sym (list_any-map (λ w. is_eq (compare w (view c.args.item.now))) c.args.items.now)
