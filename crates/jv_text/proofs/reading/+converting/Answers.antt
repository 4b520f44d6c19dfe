use Rattle.std.proofs.Common.{rules, ◌≡◌, [], ◌∷◌, ◌++◌, map, option_map, refl, sym, ap, ◌∙◌, subst, Some, length, arith}
use Rattle.std.proofs.lemmas.List.{map-append, nil_from_length}
use Rattle.std.specs.List.Sorted.{IsStrictlySortedBy}
use Rattle.std.specs.Map.{keys_of}
use Rattle.std.specs.String.{string_cmp, string_cmp_total}
use Rattle.std.specs.Vec.Iter.{into_iter_items}
use Rattle.serde_json.specs.declared.value.Value.{the_lemmas}
use Rattle.serde_json.specs.View.{view as data_view, items_view as data_items, members_view as data_members}
use Rattle.jv_data.proofs.shared.Levels.{members_held, view-Table}
use Rattle.jv_data.specs.View.{view, members_view}
use Rattle.jv_data.specs.Value.{object}
use Rattle.jv_text.specs.Json.{value_of, items_of, members_of}
use Rattle.jv_text.proofs.Fronts.{before_items, before_members, all_items, all_members, items_step, members_step, insert_entry_last, keys-push}
use Rattle.jv_text.proofs.reading.+converting.Goals as goal

pub items_of-loop-item-preserved : goal.items_of-loop-item-preserved
items_of-loop-item-preserved t c =
    let l = c.loop-item in
    let done = map view l.values.items in
    let rest = into_iter_items c.next.new.self in
    let left = ap (λ xs. option_map (before_items done) (items_of (data_items xs))) c.in-Some.ensures.steps.0 in
    let v = c.in_ok-value_of.field-0 in
    let pushed = ap (map view) c.in_ok-push.ensures.items ∙ map-append view l.values.items (v ∷ []) in
    let count = ap length c.in-Some.ensures.steps.0 in
    rw pushed (omega (arith, c.in-Some.ensures.steps.1, count), items_step done (view v) (data_view c.in-Some.item) (data_items rest) _ c.in_ok-value_of.ensures (sym left ∙ l.invariant.1))

pub items_of-returns : goal.items_of-returns
items_of-returns t c =
    let l = c.loop-item in
    let none = nil_from_length (into_iter_items l.item-iterator) (omega (arith, l.invariant.0, c.in-None.ensures.steps.0)) in
    sym l.invariant.1 ∙ ap (λ xs. option_map (before_items (map view l.values.items)) (items_of (data_items xs))) none ∙ ap Some (all_items (map view l.values.items))

pub members_of-loop-key-preserved : goal.members_of-loop-key-preserved
members_of-loop-key-preserved t c =
    let l = c.loop-key in
    let v = c.in_ok-value_of.field-0 in
    let key = c.in-Some.key in
    let rest = c.next.new.self in
    let shown = ap (λ es. option_map (before_members l.values.entries) (members_of (data_members es))) c.in-Some.ensures.steps in
    let keys = l.invariant.0 ∙ ap (λ es. keys_of l.values.entries ++ keys_of es) c.in-Some.ensures.steps in
    let sorted = subst (IsStrictlySortedBy string_cmp) keys c.into_iter-key-iterator.ensures.into_iter_gives.5 in
    let last = c.in_ok-insert.ensures.entries ∙ insert_entry_last string_cmp string_cmp_total l.values.entries key v (keys_of rest) sorted in
    rw last (
      keys ∙ sym (keys-push l.values.entries key v (keys_of rest)),
      members_step l.values.entries key v (data_view c.in-Some.member) (data_members rest) _ _ refl c.in_ok-value_of.ensures (sym shown ∙ l.invariant.1),
    )

pub members_of-returns : goal.members_of-returns
members_of-returns t c =
    let l = c.loop-key in
    sym l.invariant.1 ∙ ap (λ es. option_map (before_members l.values.entries) (members_of (data_members es))) c.in-None.ensures.steps.0 ∙ ap Some (all_members l.values.entries)

pub value_of-returns-in_ok-from_map-in-Object : goal.value_of-returns-in_ok-from_map-in-Object
value_of-returns-in_ok-from_map-in-Object t c =
    let made = c.in_ok-from_map-in-Object in
    let is = view-Table made.field-0 ∙ ap object (members_held made.field-0 ∙ ap members_view made.ensures) in
    let whole : value_of (data_view c.args.json) ≡ option_map object (members_of (data_members c.in-Object.members.entries)) = rw c.in-Object.is (search (rules, the_lemmas)) in
    whole ∙ ap (option_map object) c.in_ok-members_of-in-Object.ensures ∙ ap Some (sym is)
