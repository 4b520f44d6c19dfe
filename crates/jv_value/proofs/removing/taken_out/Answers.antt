use Rattle.std.proofs.Common.{◌≡◌, ◌∙◌, ap, sym, refl, rules, true, false, Some, None}
use Rattle.std.specs.Str.{chars}
use Rattle.jv_data.specs.Held.{members_in}
use Rattle.std.proofs.lemmas.List.{nil_from_length}
use Rattle.jv_data.proofs.shared.Levels.{members_held}
use Rattle.jv_data.specs.Shared.{entries_in}
use Rattle.jv_data.specs.Value.{no_members}
use Rattle.jv_data.specs.View.{view, members_view}
use Rattle.jv_data.specs.Members.{member_at, put, without}
use Rattle.jv_value.specs.DeletePaths.{names_itself, without_locations}
use Rattle.jv_value.specs.private.Locations.{locations_in}
use Rattle.jv_value.proofs.Ascending.{left_absent, left_present}
use Rattle.jv_value.proofs.removing.taken_out.Goals as goal

pub returns-then-len-eq0 : goal.returns-then-len-eq0
returns-then-len-eq0 c = λ qs f.
    let s = chars c.args.name.now in
    let members = c.args.members.now in
    let ms = members_in members in
    let none : ms ≡ no_members = members_held members ∙ ap members_view (nil_from_length (entries_in members) (search rules)) in
    left_absent s qs (locations_in c.args.locations.now) ms ms c.len.ensures.ordered f (ap (member_at s) none) (none ∙ ap (without s) (sym none))

pub returns-in-None : goal.returns-in-None
returns-in-None c = λ qs f.
    let s = chars c.args.name.now in
    let ms = members_in c.args.members.now in
    let rest = members_in c.remove.new.self in
    let none : member_at s ms ≡ None = search rules in
    let taken : rest ≡ without s ms = search rules in
    left_absent s qs (locations_in c.args.locations.now) ms rest c.len.ensures.ordered f none taken

pub returns-then-names_itself : goal.returns-then-names_itself
returns-then-names_itself c = λ qs f.
    let s = chars c.args.name.now in
    let ms = members_in c.args.members.now in
    let rest = members_in c.remove.new.self in
    let g = locations_in c.args.locations.now in
    let found : member_at s ms ≡ Some (view c.in-Some.part) = search rules in
    let taken : rest ≡ without s ms = search rules in
    let gone : names_itself g ≡ true = sym c.names_itself.ensures ∙ c.if-names_itself.true in
    left_present s qs g ms rest rest (view c.in-Some.part) c.len.ensures.ordered f found taken (rw gone refl)

pub returns-else-names_itself : goal.returns-else-names_itself
returns-else-names_itself c = λ qs f.
    let s = chars c.args.name.now in
    let ms = members_in c.args.members.now in
    let rest = members_in c.remove.new.self in
    let g = locations_in c.args.locations.now in
    let v = view c.in-Some.part in
    let found : member_at s ms ≡ Some v = search rules in
    let taken : rest ≡ without s ms = search rules in
    let stays : names_itself g ≡ false = sym c.names_itself.ensures ∙ c.if-names_itself.false in
    left_present s qs g ms (put s (without_locations g v) rest) rest v c.len.ensures.ordered f found taken (rw stays refl)
