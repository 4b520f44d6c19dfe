use Rattle.std.proofs.Common.{◌≡◌, ◌∙◌, ap, sym, rules, Ok, map, slice_set}
use Rattle.std.proofs.lemmas.Int.{to_z-of_z}
use Rattle.std.proofs.lemmas.List.{map-set}
use mir.Syntax.{w64}
use Rattle.jv_data.specs.Shared.{items_in}
use Rattle.jv_data.specs.Value.{array, items_of}
use Rattle.jv_data.specs.View.{view}
use Rattle.jv_value.specs.SetPath.{put_item}
use Rattle.jv_data.proofs.shared.Levels.{view-List}
use Rattle.jv_value.proofs.setting.put_item.Goals as goal

pub returns : goal.returns
returns c =
    let xs = c.make_room.new.items.items in
    let i = c.in_ok-index.index in
    let held : items_in c.in_ok-from_vec.field-0 ≡ slice_set xs i c.args.part = search rules in
    ap (λ n. put_item n (view c.args.part) (map view c.args.items.items)) (sym (to_z-of_z w64 c.args.place c.ranges.place))
    ∙ c.in_ok-index.ensures.room (view c.args.part)
    ∙ ap Ok (sym (view-List c.in_ok-from_vec.field-0 ∙ ap (λ ys. array (items_of (map view ys))) held ∙ ap (λ ws. array (items_of ws)) (map-set view xs i c.args.part)))
