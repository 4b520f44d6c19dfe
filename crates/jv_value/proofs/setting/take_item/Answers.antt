use Rattle.std.proofs.Common.{◌≡◌, ◌∙◌, ap, sym, rules, map}
use Rattle.jv_data.specs.Value.{array, items_of}
use Rattle.jv_data.specs.View.{view}
use Rattle.jv_value.proofs.Taken.{takes_item}
use Rattle.jv_value.proofs.setting.take_item.Goals as goal

pub returns-in_ok-items-in-List : goal.returns-in_ok-items-in-List
returns-in_ok-items-in-List c =
    let vs = map view c.in_ok-items-in-List.items.items in
    let seen : view c.args.value ≡ array (items_of vs) = c.into_list.ensures ∙ ap (λ ws. array (items_of ws)) (sym c.in_ok-items-in-List.ensures) in
    takes_item (view c.args.value) (view c.args.key.now) c.args.place.now _ vs _ c.take_at-part.new.items seen c.requires (search rules) c.take_at-part.ensures.value c.take_at-part.ensures.back
