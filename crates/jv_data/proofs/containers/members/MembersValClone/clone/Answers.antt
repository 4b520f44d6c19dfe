use Rattle.std.proofs.Common.{◌∙◌, inr, map, string_bytes, ap}
use Rattle.jv_data.proofs.Members.{same_parts}
use Rattle.jv_data.proofs.Shares.{same_members}
use Rattle.jv_data.specs.View.{view}
use Rattle.jv_data.proofs.containers.members.MembersValClone.clone.Goals as goal

pub returns-in_ok-copies-in-Few : goal.returns-in_ok-copies-in-Few
returns-in_ok-copies-in-Few c =
    let names = ap (λ n. map string_bytes n.texts.items) c.in_ok-clone-in-Few.ensures.cases in
    let values = c.in_ok-copies-in-Few.ensures ∙ ap (map view) c.as_slice.ensures.value in
    record { cases = rw c.in-Few.is (same_parts c.in_ok-clone-in-Few.field-0.value.texts.items c.in-Few.names.value.texts.items c.in_ok-copies-in-Few.field-0.items c.in-Few.values.items names values) }

pub returns-in_ok-clone-in-Many : goal.returns-in_ok-clone-in-Many
returns-in_ok-clone-in-Many c = record { cases = rw c.in-Many.is (same_members c.in-Many.map c.in_ok-clone-in-Many.field-0 (inr c.in_ok-clone-in-Many.ensures.cases)) }
