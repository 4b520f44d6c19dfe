use Rattle.std.proofs.Common.{◌∙◌, ap, sym, map}
use Rattle.jv_data.proofs.shared.Items.{values_of-items_of}
use Rattle.jv_data.specs.Value.{array, items_of, values_of}
use Rattle.jv_data.specs.View.{items_view, view}
use Rattle.jq_natives.specs.Answers.{count, is_same}
use Rattle.jq_natives.specs.Searching.{places_of}
use Rattle.jq_natives.proofs.ListPlaces.{places-map}
use Rattle.jv_data.proofs.shared.Levels.{view-List}
use Rattle.jq_natives.proofs.searching.item_places.Goals as goal

pub returns : goal.returns
returns c =
    let part = c.args.part.now in
    let items = c.args.items.now in
    let a = c.in_ok-from_vec.field-0 in
    view-List a ∙ ap (λ xs. array (items_view xs)) c.in_ok-from_vec.ensures
    ∙ ap (λ vs. array (items_of vs)) (c.in_ok-places.ensures ∙ ap (map count) (places-map view is_same part items
    ∙ ap (λ ps. places_of is_same ps (map view items)) (sym (values_of-items_of (map view part)))
    ∙ ap (λ is. places_of is_same (values_of (items_view part)) is) (sym (values_of-items_of (map view items)))))
