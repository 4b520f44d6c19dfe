use Rattle.std.proofs.Common.{◌≡◌, ◌∙◌, ◌<◌, ap, sym, rules, length, map, Some, None, Ok}
use Rattle.std.proofs.lemmas.List.{length-map}
use Rattle.jv_data.specs.View.{view}
use Rattle.jv_value.specs.Index.{place_of}
use Rattle.jv_value.specs.Locations.{at}
use Rattle.jv_value.specs.private.Steps.{to_part}
use Rattle.jv_value.proofs.Finds.{item_seen}
use Rattle.jv_value.proofs.Strides.{stride_item}
use Rattle.jv_value.proofs.finding.step_to_item.Goals as goal

pub returns-in-None : goal.returns-in-None
returns-in-None c =
    let xs = c.args.items.now in
    let n = c.args.place.now in
    let missing : place_of (length xs) n ≡ None = search rules in
    stride_item (map view xs) n None (ap (λ m. place_of m n) (length-map xs view) ∙ missing)

pub returns-in-Some : goal.returns-in-Some
returns-in-Some c =
    let xs = c.args.items.now in
    let n = c.args.place.now in
    let i = c.in-Some.index in
    let item = c.index-items-index.result in
    let found : place_of (length xs) n ≡ Some i = search rules in
    let inside : i < length xs = search rules in
    stride_item (map view xs) n (Some i) (ap (λ m. place_of m n) (length-map xs view) ∙ found)
    ∙ ap (λ v. Ok (Some (to_part (at i), v))) (sym (item_seen xs n i item inside c.index-items-index.is found))
