use Rattle.std.proofs.Common.{◌≡◌, ◌∙◌, ap, sym, subst, map, length, pos}
use Rattle.std.specs.List.{range_with_len}
use Rattle.std.specs.Result.{IfOk}
use Rattle.std.proofs.lemmas.List.{length-map}
use Rattle.jv_data.specs.Held.{values_in}
use Rattle.jv_data.proofs.shared.Levels.{view-List}
use Rattle.jv_data.specs.Shared.{items_in}
use Rattle.jv_data.specs.Value.{number}
use Rattle.jv_data.specs.View.{view}
use Rattle.jv_data.proofs.shared.Items.{values_of-items_of}
use Rattle.jq_natives.specs.Answers.{part_keys}
use Rattle.jq_operations.proofs.parts.keys_of_parts.Goals as goal

pub returns-in-List : goal.returns-in-List
returns-in-List c =
    let a = c.in-List.items in
    let count = ap length (values_of-items_of (values_in a)) ∙ length-map (items_in a) view ∙ sym c.len.ensures in
    let keys = ap part_keys (ap view c.in-List.is ∙ view-List a) ∙ ap (λ n. map (λ i. number (pos i)) (range_with_len 0 n)) count in
    subst (λ ks. IfOk c.places.result (λ v. map view v.items ≡ ks)) (sym keys) c.places.ensures
