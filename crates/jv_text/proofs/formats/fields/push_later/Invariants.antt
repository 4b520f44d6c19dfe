use Rattle.std.proofs.Common.{◌≡◌, drop}
use Rattle.jv_data.specs.Text.{text_of}
use Rattle.jv_data.specs.View.{items_view}
use Rattle.jv_text.specs.private.Appending.{appended}
use Rattle.jv_text.specs.private.Rows.{later_fields}
use Rattle.jv_text.proofs.formats.fields.push_later.Given as goal

-- the result depends on the remaining items
abbrev pub invariant-loop-item : goal.invariant-loop-item
invariant-loop-item l =
    appended (text_of l.initial.out) (later_fields l.row (items_view l.items)) ≡ appended (text_of l.out) (later_fields l.row (items_view (drop l.item-index l.items)))
