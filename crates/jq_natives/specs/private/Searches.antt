-- What a search in a container finds.
use Rattle.std.specs.Prelude.{List, Bool, ◌&&◌, ◌||◌}
use Rattle.std.specs.List.{list_any}
use Rattle.jv_data.specs.Held.{members_in}
use Rattle.jv_data.specs.View.{items_view, members_view, view}
use Rattle.jv_data.specs.declared.values.Val.{Val}
use Rattle.jv_data.specs.Value.{values_of}
use Rattle.jq_natives.specs.Containment.{contained_in, items_contained, members_contained}
use Rattle.jq_natives.specs.declared.containment.Search.{Search}
use Rattle.jq_natives.specs.declared.containment.Search.TheVariants.{Items, Item, Members}
use Rattle.jq_natives.specs.declared.containment.Step.{Step}
use Rattle.jq_natives.specs.declared.containment.Step.TheVariants.{Answer, Next, Deeper}

-- whether the value is contained in one of the items
abbrev pub in_one_of : Val → List Val → Bool
in_one_of part wholes = list_any (contained_in (view part)) (values_of (items_view wholes))

-- the answer of a search
abbrev pub found_by : Search → Bool
found_by (Items parts wholes) = items_contained (items_view parts.now) (items_view wholes.now)
found_by (Item part untried parts wholes) = in_one_of part.now untried.now && items_contained (items_view parts.now) (items_view wholes.now)
found_by (Members parts wholes) = members_contained (members_view parts) (members_in wholes.now)

-- the answer of a search after the answer for a part that it waits for
abbrev pub after : Search → Bool → Bool
after (Items parts wholes) b = b && items_contained (items_view parts.now) (items_view wholes.now)
after (Item part untried parts wholes) b = (b || in_one_of part.now untried.now) && items_contained (items_view parts.now) (items_view wholes.now)
after (Members parts wholes) b = b && members_contained (members_view parts) (members_in wholes.now)

abbrev pub leads_to : Step → Bool
leads_to (Answer b) = b
leads_to (Next search) = found_by search
leads_to (Deeper inner outer) = after outer (found_by inner)
