-- The meaning of a `Val` as a value.
use Rattle.std.specs.Prelude.{List, [], ◌∷◌, map, String}
use Rattle.std.specs.declared.alloc.Global.{Global}
use Rattle.jv_data.specs.Shared.{text_in, items_in, entries_in}
use Rattle.jv_data.specs.Text.{text_of}
use Rattle.jv_data.specs.Value.{Value, null, boolean, number, string, array, object, Items, Members, no_members, member, items_of}
use Rattle.jv_data.specs.declared.values.Val.{Val, fold-Val}
use Rattle.jv_data.specs.declared.values.Val.TheOpen.{Val-F}

abbrev pub members_of : List (String Global × Value) → Members
members_of [] = no_members
members_of (e ∷ es) = member (text_of e.0) e.1 (members_of es)

-- one level; each `Val` inside is already its value
abbrev pub view_step : Val-F Value → Value
view_step Val-F.Null = null
view_step (Val-F.Bool b) = boolean b
view_step (Val-F.Num n) = number n
view_step (Val-F.Text t) = string (text_in t)
view_step (Val-F.List a) = array (items_of (items_in a))
view_step (Val-F.Table o) = object (members_of (entries_in o))

abbrev pub view : Val → Value
view = fold-Val Value view_step

abbrev pub items_view : List Val → Items
items_view vs = items_of (map view vs)

abbrev pub members_view : List (String Global × Val) → Members
members_view es = members_of (map (λ e. (e.0, view e.1)) es)
