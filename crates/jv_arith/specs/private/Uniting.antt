-- A union of objects whose members are united one by one.
use Rattle.std.specs.Prelude.{◌≡◌, Option, MatchOption}
use Rattle.std.specs.Borrow.{Bor}
use Rattle.jv_data.specs.Held.{members_in}
use Rattle.jv_data.specs.View.{members_view}
use Rattle.jv_data.specs.declared.containers.objects.Object.{Object}
use Rattle.jv_data.specs.declared.values.Val.{Val}
use Rattle.jv_data.specs.Members.{member_or_null, put}
use Rattle.jv_data.specs.Text.{text_of}
use Rattle.jv_data.specs.Value.{Value, object, Members, no_members, member}
use Rattle.jv_arith.specs.Objects.{deep_union, united}
use Rattle.jv_arith.specs.declared.objects.Open.{Open}
use Rattle.jv_arith.specs.declared.objects.Step.{Step}
use Rattle.jv_arith.specs.declared.objects.Step.TheVariants.{Done, Deeper}

-- the members of ns put into ms from the first on, each united with the value that is there by then
abbrev pub unite_all : Members → Members → Members
unite_all ms no_members = ms
unite_all ms (member k v ns) = unite_all (put k (united (member_or_null k ms) v) ms) ns

-- the members of a union after the union that it waits for
abbrev pub after : Open → Members → Members
after o ms = unite_all (put (text_of o.key) (object ms) (members_in o.members)) (members_view o.rest)

abbrev pub leads_to : Step → Members
leads_to (Done members) = members_in members
leads_to (Deeper outer left right) = after outer (deep_union (members_in left) (members_in right.now))

-- the union of v and w is that of the two objects that were found, or w if none were
abbrev pub IsUnion : Option (Object Val × Bor (Object Val)) → (v w : Value) → Type 0
IsUnion found v w = MatchOption found (w ≡ united v w) (λ pair. object (deep_union (members_in pair.0) (members_in pair.1.now)) ≡ united v w)
