-- The members of an object are no deeper than the object, so a recursion on them ends.
use Rattle.std.proofs.Common.{◌≤◌, ℕ, List, [], ◌∷◌, zip, arith}
use Rattle.std.specs.Map.{values_of}
use denote.Param.Weighed.{most}
use Rattle.jv_data.proofs.Names.{Texts}
use Rattle.jv_data.proofs.Views.{Entry}
use Rattle.jv_data.proofs.values.Val.TheLaws.{the_size}
use Rattle.jv_data.specs.Shared.{entries_held}
use Rattle.jv_data.specs.declared.containers.members.Members.{Members}
use Rattle.jv_data.specs.declared.containers.members.Members.TheVariants.{Few, Many}
use Rattle.jv_data.specs.declared.values.Val.{Val}
use Rattle.jv_data.specs.declared.values.Val.TheShapes.{weighed-Val-Table-0-at-5}

-- the depth of the deepest of the values
abbrev pub depth_of_all : List Val → ℕ
depth_of_all vs = most the_size vs

abbrev pub depth_under : List Entry → ℕ
depth_under es = most the_size (values_of es)

depth_under-zip : (ns : Texts) (vs : List Val) → depth_under (zip ns vs) ≤ depth_of_all vs
depth_under-zip [] vs = omega arith
depth_under-zip (n ∷ ns) [] = omega arith
depth_under-zip (n ∷ ns) (v ∷ vs) = let h = depth_under-zip ns vs in omega arith

pub depth_held : (m : Members Val) → depth_under (entries_held m) ≤ weighed-Val-Table-0-at-5.weight Val the_size m
depth_held (Few names values) = let h = depth_under-zip names.value.texts.items values.items in omega arith
depth_held (Many entries) = omega arith
