-- The lists in the code's vectors.
use Rattle.std.specs.Prelude.{List, map, Vec}
use Rattle.std.specs.declared.alloc.Global.{Global}
use Rattle.jv_data.specs.Value.{Value}
use Rattle.jv_data.specs.View.{view}
use Rattle.jv_data.specs.declared.values.Val.{Val}

-- the values in each vector
abbrev pub lists_in : List (Vec Val Global) → List (List Value)
lists_in vs = map (λ v. map view v.items) vs
