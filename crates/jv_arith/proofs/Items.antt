-- Items of arrays, as lists of their values.
use Rattle.std.proofs.Common.{◌≡◌, List, [], ◌∷◌, ◌++◌, Bool, not, ◌||◌, filter, map, refl, ap}
use Rattle.std.specs.List.{list_any}
use Rattle.jv_data.proofs.shared.Items.{values_of-items_of}
use Rattle.jv_data.specs.Value.{Value, items_of}
use Rattle.jv_data.specs.View.{view}
use Rattle.jv_data.specs.declared.values.Val.{Val}
use Rattle.jv_arith.specs.Arrays.{joined, left_over, is_among}

pub list_any-map : (p : Value → Bool) (vs : List Val) → list_any p (map view vs) ≡ list_any (λ v. p (view v)) vs
list_any-map p [] = refl
list_any-map p (v ∷ vs) = ap (λ b. p (view v) || b) (list_any-map p vs)

pub joined-items_of : (vs ws : List Value) → joined (items_of vs) (items_of ws) ≡ items_of (vs ++ ws)
joined-items_of vs ws = rw (values_of-items_of vs, values_of-items_of ws) refl

abbrev pub kept : List Value → List Value → List Value
kept ws vs = filter (λ v. not (is_among ws v)) vs

pub left_over-items_of : (vs ws : List Value) → left_over (items_of vs) (items_of ws) ≡ items_of (kept ws vs)
left_over-items_of vs ws = rw (values_of-items_of vs, values_of-items_of ws) refl
