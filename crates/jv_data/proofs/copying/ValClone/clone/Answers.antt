use Rattle.std.proofs.Common.{◌∙◌, ap, sym}
use Rattle.jv_data.proofs.shared.Levels.{view-Table}
use Rattle.jv_data.specs.Value.{object}
use Rattle.jv_data.proofs.copying.ValClone.clone.Goals as goal

pub returns-in_ok-share-in-Table : goal.returns-in_ok-share-in-Table
returns-in_ok-share-in-Table c =
    let members = c.in-Table.members in
    let copy = c.in_ok-share-in-Table.field-0 in
    record { cases = rw c.in-Table.is (view-Table copy ∙ ap object c.in_ok-share-in-Table.ensures.members ∙ sym (view-Table members)) }
