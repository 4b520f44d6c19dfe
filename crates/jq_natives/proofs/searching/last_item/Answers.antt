use Rattle.std.proofs.Common.{◌≡◌, ◌∙◌, ◌-◌, ap, sym, subst, length, option_map, IfOk}
use Rattle.std.specs.Option.{option_copied}
use Rattle.std.specs.Prelude.{slice_get, unwrap_or}
use Rattle.jv_data.specs.Shared.{items_in}
use Rattle.jv_data.specs.Value.{null}
use Rattle.jv_data.specs.View.{view}
use Rattle.jq_natives.specs.Searching.{last_item}
use Rattle.jq_natives.proofs.ListPlaces.{last_is}
use Rattle.jv_data.proofs.shared.Levels.{view-List}
use Rattle.jq_natives.proofs.searching.last_item.Goals as goal

pub returns-in-List : goal.returns-in-List
returns-in-List c =
    let a = c.in-List.items in
    let last : unwrap_or (option_map view (option_copied c.last.result)) null ≡ last_item (view c.args.places.now) =
    ap (λ o. unwrap_or (option_map view o) null) c.last.ensures.value ∙ ap (λ xs. unwrap_or (option_map view (slice_get xs (length xs - 1))) null) c.as_slice.ensures
    ∙ sym (last_is (items_in a)) ∙ sym (ap last_item (ap view c.in-List.is ∙ view-List a)) in
    subst (λ w. IfOk c.item_or_null.result (λ v. view v ≡ w)) last c.item_or_null.ensures
