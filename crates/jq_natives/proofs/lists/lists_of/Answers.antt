use Rattle.std.proofs.Common.{◌≡◌, ◌∙◌, ◌+◌, ◌++◌, ◌∷◌, [], ap, sym, rules, map, drop, option_map}
use Rattle.std.proofs.lemmas.List.{drop_more, map-append}
use Rattle.jv_data.specs.Value.{item}
use Rattle.jv_data.specs.View.{items_view, view}
use Rattle.jq_natives.specs.Lists.{lists_of}
use Rattle.jq_natives.specs.private.Lists.{lists_in}
use Rattle.jv_data.proofs.shared.Lists.{after_one_more}
use Rattle.jv_data.proofs.shared.Levels.{view-List}
use Rattle.jv_data.proofs.shared.Views.{values-List}
use Rattle.jq_natives.proofs.lists.lists_of.Goals as goal

pub loop-item-preserved : goal.loop-item-preserved
loop-item-preserved c =
    let made = c.loop-item.lists.items in
    let t = lists_in made in
    let a = c.in-List.list in
    let list = c.in_ok-copies-in-List.field-0 in
    let p = map view list.items in
    let x = c.item-item.result in
    let rest = drop (c.loop-item.item-index + 1) c.args.items.now in
    let next : drop c.loop-item.item-index c.args.items.now ≡ x ∷ rest = drop_more c.args.items.now c.loop-item.item-index x (search rules) ∙ ap (λ y. y ∷ rest) (sym c.item-item.is) in
    let left = lists_of (items_view rest) in
    let first : lists_of (item (view x) (items_view rest)) ≡ option_map (λ ls. p ∷ ls) left =
    ap (λ v. lists_of (item v (items_view rest))) (ap view c.in-List.is ∙ view-List a)
    ∙ ap (λ q. option_map (λ ls. q ∷ ls) left) (values-List a ∙ ap (map view) (sym c.as_slice.ensures) ∙ sym c.in_ok-copies-in-List.ensures) in
    let pushed : lists_in c.push.new.self.items ≡ t ++ p ∷ [] = ap lists_in c.in_ok-push-in-List.ensures.items ∙ map-append (λ q. map view q.items) made (list ∷ []) in
    c.loop-item.invariant ∙ ap (λ xs. option_map (λ ls. t ++ ls) (lists_of (items_view xs))) next
    ∙ ap (option_map (λ ls. t ++ ls)) first ∙ after_one_more t p left
    ∙ ap (λ s. option_map (λ ls. s ++ ls) left) (sym pushed)
