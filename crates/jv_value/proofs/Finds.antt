-- The item of an array at an index.
use Rattle.std.proofs.Common.{◌≡◌, ◌∙◌, ◌<◌, ℕ, ℤ, List, length, map, ap, sym, get_or, unwrap_or, Some}
use Rattle.std.proofs.lemmas.List.{length-map, get_or_default}
use Rattle.std.proofs.lemmas.Option.{unwrap_or-slice_get}
use Rattle.std.proofs.Math.ListN.{get_or-map}
use Rattle.jv_data.specs.Value.{null}
use Rattle.jv_data.specs.View.{view}
use Rattle.jv_data.specs.declared.values.Val.{Val}
use Rattle.jv_value.specs.Index.{item_at, place_of}
use Rattle.jv_value.proofs.Filled.{placed}

-- the item that was read at an index
pub item_seen : (xs : List Val) (n : ℤ) (i : ℕ) (x : Val) → i < length xs → x ≡ get_or xs i x → place_of (length xs) n ≡ Some i → view x ≡ unwrap_or (item_at n (map view xs)) null
item_seen xs n i x inside read found =
    let inside_view : i < length (map view xs) = rw (length-map xs view) inside in
    ap view read ∙ sym (get_or-map view xs i x) ∙ get_or_default (map view xs) i (view x) null inside_view ∙ sym (unwrap_or-slice_get (map view xs) i null)
    ∙ ap (λ o. unwrap_or o null) (sym (placed n (map view xs) i (ap (λ m. place_of m n) (length-map xs view) ∙ found)))
