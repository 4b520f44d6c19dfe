-- The list of an array's items.
use Rattle.std.proofs.Common.{◌≡◌, List, [], ◌∷◌, refl, ap}
use Rattle.jv_data.specs.Value.{Value, values_of, items_of}

pub values_of-items_of : (vs : List Value) → values_of (items_of vs) ≡ vs
values_of-items_of [] = refl
values_of-items_of (v ∷ vs) = ap (λ ws. v ∷ ws) (values_of-items_of vs)
