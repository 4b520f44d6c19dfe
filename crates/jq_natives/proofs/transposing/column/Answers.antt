use Rattle.std.proofs.Common.{◌≡◌, ◌∙◌, ◌+◌, ◌++◌, ◌∷◌, [], List, ap, sym, rules, arith, map, option_map, take}
use Rattle.std.proofs.lemmas.List.{map-append, take_all, take_more}
use Rattle.std.specs.Option.{option_copied}
use Rattle.std.specs.Prelude.{slice_get, unwrap_or}
use Rattle.jv_data.specs.Value.{Value, array, items_of, null}
use Rattle.jv_data.specs.View.{items_view, view}
use Rattle.jq_natives.specs.private.Lists.{lists_in}
use Rattle.jq_natives.proofs.ListPlaces.{get-map, item_copied}
use Rattle.jv_data.proofs.shared.Levels.{view-List}
use Rattle.jq_natives.proofs.transposing.column.Goals as goal

pub loop-list-preserved : goal.loop-list-preserved
loop-list-preserved c =
    let lists = c.args.lists.now in
    let i = c.loop-list.list-index in
    let list = c.list-item.result in
    let old = c.loop-list.items.items in
    let v = c.in_ok-item_or_null.field-0 in
    let at = λ (r : List Value). unwrap_or (slice_get r c.args.place) null in
    let next : take (i + 1) lists ≡ take i lists ++ list ∷ [] = take_more lists i list (search rules) ∙ ap (λ r. take i lists ++ r ∷ []) (sym c.list-item.is) in
    let got : option_copied c.get.result ≡ slice_get list.items c.args.place = rw c.deref.ensures.value at (item_copied c.deref.result.now c.args.place c.get.result c.get.ensures.lookup) in
    let item : view v ≡ at (map view list.items) = c.in_ok-item_or_null.ensures ∙ ap (λ o. unwrap_or (option_map view o) null) got ∙ ap (λ o. unwrap_or o null) (sym (get-map view list.items c.args.place)) in
    ap (map view) c.in_ok-push.ensures.items ∙ map-append view old (v ∷ []) ∙ ap (λ w. map view old ++ w ∷ []) item ∙ ap (λ vs. vs ++ at (map view list.items) ∷ []) c.loop-list.invariant
    ∙ sym (ap (λ rs. map at (lists_in rs)) next ∙ ap (map at) (map-append (λ r. map view r.items) (take i lists) (list ∷ [])) ∙ map-append at (lists_in (take i lists)) (map view list.items ∷ []))

pub returns : goal.returns
returns c =
    let lists = c.args.lists.now in
    let a = c.in_ok-from_vec.field-0 in
    let at = λ (r : List Value). unwrap_or (slice_get r c.args.place) null in
    let all : take c.loop-list.list-index lists ≡ lists = take_all c.loop-list.list-index lists (omega arith) in
    view-List a ∙ ap (λ xs. array (items_view xs)) c.in_ok-from_vec.ensures ∙ ap (λ vs. array (items_of vs)) (c.loop-list.invariant ∙ ap (λ rs. map at (lists_in rs)) all)
