use Rattle.std.proofs.Common.{◌≡◌, ◌∙◌, ◌<◌, ap, sym, rules, map, length, get_or, slice_set, unwrap_or, Some, None}
use Rattle.std.proofs.lemmas.List.{map-set, length-map, get_or_default}
use Rattle.std.proofs.lemmas.Option.{unwrap_or-slice_get}
use Rattle.std.proofs.Math.ListN.{get_or-map}
use Rattle.jv_data.specs.Value.{null}
use Rattle.jv_data.specs.View.{view}
use Rattle.jv_data.specs.declared.values.Val as val
use Rattle.jv_value.specs.Index.{place_of}
use Rattle.jv_value.specs.SetPath.{put_item}
use Rattle.jv_value.proofs.Filled.{placed, unplaced, taken_back}
use Rattle.jv_data.proofs.shared.Levels.{view-Null}
use Rattle.jv_value.proofs.setting.take_at.Goals as goal

pub returns-in-Some-clause-value : goal.returns-in-Some-clause-value
returns-in-Some-clause-value c =
    let i = c.in-Some.index in
    let n = c.args.place.now in
    let xs = c.args.items.now.items in
    let found : place_of (length xs) n ≡ Some i = search rules in
    let inside : i < length xs = search rules in
    let read : c.replace.result ≡ get_or xs i val.Null = c.replace.ensures.value ∙ c.index_mut.ensures.value ∙ get_or_default xs i _ _ inside in
    ap view read ∙ sym (get_or-map view xs i val.Null) ∙ ap (get_or (map view xs) i) view-Null ∙ sym (unwrap_or-slice_get (map view xs) i null)
    ∙ ap (λ o. unwrap_or o null) (sym (placed n (map view xs) i (ap (λ m. place_of m n) (length-map xs view) ∙ found)))

pub returns-in-Some-clause-back : goal.returns-in-Some-clause-back
returns-in-Some-clause-back c = λ p.
    let i = c.in-Some.index in
    let n = c.args.place.now in
    let xs = c.args.items.now.items in
    let found : place_of (length xs) n ≡ Some i = search rules in
    ap (put_item n p) (map-set view xs i c.replace.new.dest ∙ ap (slice_set (map view xs) i) (ap view c.replace.ensures.after ∙ view-Null))
    ∙ taken_back n (map view xs) i p (ap (λ m. place_of m n) (length-map xs view) ∙ found)

pub returns-in-None-clause-value : goal.returns-in-None-clause-value
returns-in-None-clause-value c =
    let n = c.args.place.now in
    let xs = c.args.items.now.items in
    let missing : place_of (length xs) n ≡ None = search rules in
    view-Null ∙ ap (λ o. unwrap_or o null) (sym (unplaced n (map view xs) (ap (λ m. place_of m n) (length-map xs view) ∙ missing)))
