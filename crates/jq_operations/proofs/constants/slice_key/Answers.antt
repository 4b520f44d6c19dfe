use Rattle.std.proofs.Common.{◌≡◌, ◌∙◌, string_bytes}
use Rattle.jv_data.specs.Held.{members_in}
use Rattle.jv_data.proofs.shared.Levels.{view-Table}
use Rattle.jv_data.specs.Value.{no_members}
use Rattle.jv_data.specs.View.{view}
use Rattle.jq_operations.proofs.SliceKeys.{slice_members}
use Rattle.jq_operations.proofs.constants.slice_key.Goals as goal

pub returns : goal.returns
returns c =
    let made = c.in_ok-bounds.bounds in
    let first = c.insert.new.self in
    let second = c.insert-2.new.self in
    let empty : members_in made ≡ no_members = c.in_ok-bounds.ensures in
    view-Table second
    ∙ slice_members (string_bytes c.in_ok-from_str.field-0) (string_bytes c.in_ok-from_str-2.field-0) (members_in made) (members_in first) (members_in second) (view c.args.start) (view c.args.end)
    c.in_ok-from_str.ensures.ok c.in_ok-from_str-2.ensures.ok empty c.in_ok-insert.ensures.ok c.in_ok-insert-2.ensures.ok
