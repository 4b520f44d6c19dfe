-- The answer for an array and its keys.
use Rattle.std.proofs.Common.{◌≡◌, ◌≢◌, ◌∙◌, ℕ, List, Bool, true, false, Ok, length, map, refl, sym, ap, zip}
use Rattle.std.proofs.lemmas.Bool.{eq-eqb, eqb-true}
use Rattle.std.specs.Prelude.{if◌then◌else◌}
use Rattle.jv_data.specs.Shared.{items_in}
use Rattle.jv_data.specs.Value.{Value, array, values_of}
use Rattle.jv_data.specs.View.{items_view, view}
use Rattle.jv_data.specs.declared.containers.arrays.Array.{Array}
use Rattle.jv_data.specs.declared.values.Val.{Val}
use Rattle.jq_natives.specs.Sorting.{Keyed, keyed_answer, unmatched_keys}
use Rattle.jv_data.proofs.shared.Views.{values-List, length-List}

if_yes : {A : Type 0} (b : Bool) (x y : A) → b ≡ true → (if b then x else y) ≡ x
if_yes true x y e = refl
if_yes false x y e = cc

if_no : {A : Type 0} (b : Bool) (x y : A) → (b ≢ true) → (if b then x else y) ≡ y
if_no true x y h = absurd (h refl)
if_no false x y h = refl

pub keys_match : (f : List Keyed → Value) (text : List ℕ) (a b : Array Val) → length (items_in a) ≡ length (items_in b)
    → keyed_answer f text (array (items_view (items_in a))) (array (items_view (items_in b))) ≡ Ok (f (zip (map view (items_in b)) (map view (items_in a))))
keys_match f text a b e =
    let same : length (values_of (items_view (items_in a))) ≡ length (values_of (items_view (items_in b))) = length-List a ∙ e ∙ sym (length-List b) in
    if_yes _ _ unmatched_keys (eq-eqb _ _ same)
    ∙ ap (λ ks. Ok (f (zip ks (values_of (items_view (items_in a)))))) (values-List b) ∙ ap (λ vs. Ok (f (zip (map view (items_in b)) vs))) (values-List a)

pub keys_differ : (f : List Keyed → Value) (text : List ℕ) (a b : Array Val) → (length (items_in a) ≢ length (items_in b))
    → keyed_answer f text (array (items_view (items_in a))) (array (items_view (items_in b))) ≡ unmatched_keys
keys_differ f text a b h =
    if_no _ (Ok (f (zip (values_of (items_view (items_in b))) (values_of (items_view (items_in a)))))) _ (λ e. h (sym (length-List a) ∙ eqb-true _ _ e ∙ length-List b))
