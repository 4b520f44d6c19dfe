-- How deep values are, if one more is added. A drop ends, since the parts of a value are less deep.
use Rattle.std.proofs.Common.{◌≡◌, List, [], ◌∷◌, ◌++◌, max, arith}
use Rattle.jv_data.proofs.shared.Depths.{depth_of_all, depth_under}
use Rattle.jv_data.proofs.values.Val.TheLaws.{the_size}
use Rattle.jv_data.proofs.Views.{Entry}
use Rattle.jv_data.specs.declared.values.Val.{Val}

pub depth_of_all-last : (vs : List Val) (v : Val) → depth_of_all (vs ++ v ∷ []) ≡ max (depth_of_all vs) (the_size v)
depth_of_all-last [] v = omega arith
depth_of_all-last (w ∷ vs) v = let h = depth_of_all-last vs v in omega arith

pub depth_under-last : (es : List Entry) (e : Entry) → depth_under (es ++ e ∷ []) ≡ max (depth_under es) (the_size e.1)
depth_under-last [] e = omega arith
depth_under-last (d ∷ es) e = let h = depth_under-last es e in omega arith
