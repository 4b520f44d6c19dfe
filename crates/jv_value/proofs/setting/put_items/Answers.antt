use Rattle.std.proofs.Common.{◌≡◌, ◌∙◌, ◌++◌, ap, sym, rules, Ok, map, append_assoc}
use Rattle.std.proofs.lemmas.List.{map-append}
use Rattle.jv_data.proofs.shared.Items.{values_of-items_of}
use Rattle.jv_data.specs.Shared.{items_in}
use Rattle.jv_data.specs.Value.{array, items_of}
use Rattle.jv_data.specs.View.{view}
use Rattle.jv_value.specs.SetPath.{put_between}
use Rattle.jv_data.proofs.shared.Levels.{view-List}
use Rattle.jv_value.proofs.setting.put_items.Goals as goal

pub returns : goal.returns
returns c =
    let front = c.args.front.items in
    let back = c.args.back.items in
    let mid = c.in_ok-items.items.items in
    let a = c.into_list.result in
    let out = c.in_ok-from_vec.field-0 in
    let held : items_in out ≡ (front ++ mid) ++ back = search rules in
    let all : map view (items_in out) ≡ map view front ++ (map view mid ++ map view back) =
    ap (map view) held ∙ map-append view (front ++ mid) back ∙ ap (λ ws. ws ++ map view back) (map-append view front mid) ∙ append_assoc (map view front) (map view mid) (map view back) in
    ap (λ w. put_between (map view front) w (map view back)) c.into_list.ensures
    ∙ ap (λ ws. Ok (array (items_of (map view front ++ (ws ++ map view back))))) (values_of-items_of (map view (items_in a)) ∙ sym c.in_ok-items.ensures)
    ∙ ap (λ ws. Ok (array (items_of ws))) (sym all) ∙ ap Ok (sym (view-List out))
