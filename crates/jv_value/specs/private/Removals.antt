-- What is left of a value while its parts are gone into one by one.
use Rattle.std.specs.Prelude.{◌≡◌, ◌++◌, ◌∷◌, [], ℕ, List, map, Option, MatchOption, String}
use Rattle.std.specs.BTreeMap.{get}
use Rattle.std.specs.String.{string_cmp}
use Rattle.std.specs.declared.alloc.Global.{Global}
use Rattle.jv_data.specs.Held.{members_in}
use Rattle.jv_data.specs.View.{view}
use Rattle.jv_data.specs.declared.values.Val.{Val}
use Rattle.jv_data.specs.Members.{put}
use Rattle.jv_data.specs.Text.{text_of}
use Rattle.jv_data.specs.Value.{Value, array, items_of, object, Members}
use Rattle.jv_value.specs.DeletePaths.{following, members_left, without_locations}
use Rattle.jv_value.specs.Locations.{Location, key}
use Rattle.jv_value.specs.private.Groups.{Group, Groups, held_in}
use Rattle.jv_value.specs.private.ItemGroups.{apart, groups_in, groups_left}
use Rattle.jv_value.specs.private.Locations.{locations_in}
use Rattle.jv_value.specs.declared.removing.ItemGroup.{ItemGroup}
use Rattle.jv_value.specs.declared.removing.Open.{Open}
use Rattle.jv_value.specs.declared.removing.Open.TheVariants as open_one

-- the array of these items and what is left of the items in the groups
abbrev pub items_with : List Value → List ItemGroup → Value
items_with vs gs = array (items_of (vs ++ groups_left (groups_in gs)))

-- w is the object of what is left of the members without the locations in the groups, for any such locations
abbrev pub GroupsLeave : Groups → Members → Value → Type 0
GroupsLeave groups ms w = (qs : List Location) → ((s : String Global) → following (key (text_of s)) qs ≡ held_in (get string_cmp groups s)) → object (members_left qs ms) ≡ w

-- ns is left of the members ms without the locations in the member s, which are g
abbrev pub LeavesMember : List ℕ → List Location → Members → Members → Type 0
LeavesMember s g ms ns = (qs : List Location) → following (key s) qs ≡ g → members_left (apart (key s) qs) ns ≡ members_left qs ms

-- left of the members ms without the locations in the member s, which are g, are ns, and if a part was taken out, what is left of it at s
abbrev pub TakesMember : List ℕ → List Location → Option Val → (ms ns : Members) → Type 0
TakesMember s g part ms ns = MatchOption part (LeavesMember s g ms ns) (λ v. LeavesMember s g ms (put s (without_locations g (view v)) ns))

-- w is left of the container if v is left of its part
abbrev pub Leaves : Open → Value → Value → Type 0
Leaves (open_one.Items left groups) v w = items_with (map view left.items ++ v ∷ []) groups.rest.items ≡ w
Leaves (open_one.Members ms groups name) v w = GroupsLeave groups (put (text_of name) v (members_in ms)) w

-- w is left of the first of several containers, each of which has the next one as its part, if v is left of the last one's part
abbrev pub AllLeave : List Open → Value → Value → Type 0
AllLeave [] v w = v ≡ w
AllLeave (o ∷ os) v w = (u : Value) × AllLeave os v u × Leaves o u w

-- what is left with v in the old containers is left with the part without the locations in the new ones
abbrev pub GoesOn : List Open → Value → List Open → Val × Group → Type 0
GoesOn old v new r = (w : Value) → AllLeave old v w → AllLeave new (without_locations (locations_in r.1.items) (view r.0)) w
