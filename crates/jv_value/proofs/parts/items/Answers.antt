use Rattle.std.proofs.Common.{◌∙◌, ap, sym, map, Ok}
use Rattle.jv_data.proofs.shared.Items.{values_of-items_of}
use Rattle.jv_data.specs.Shared.{items_in}
use Rattle.jv_data.specs.View.{view}
use Rattle.jv_value.specs.Parts.{parts_of}
use Rattle.jv_data.proofs.shared.Levels.{view-List, view-Table}
use Rattle.jv_value.proofs.parts.items.Goals as goal

pub returns-in_ok-copies-in-List : goal.returns-in_ok-copies-in-List
returns-in_ok-copies-in-List c =
    let a = c.in-List.items in
    ap (λ v. parts_of (view v)) c.in-List.is ∙ ap parts_of (view-List a)
    ∙ ap Ok (values_of-items_of (map view (items_in a)) ∙ ap (map view) (sym c.as_slice.ensures) ∙ sym c.in_ok-copies-in-List.ensures)

pub returns-in_ok-member_copies-in-Table : goal.returns-in_ok-member_copies-in-Table
returns-in_ok-member_copies-in-Table c =
    let o = c.in-Table.members in
    ap (λ v. parts_of (view v)) c.in-Table.is ∙ ap parts_of (view-Table o)
    ∙ ap Ok (sym c.in_ok-member_copies-in-Table.ensures)
