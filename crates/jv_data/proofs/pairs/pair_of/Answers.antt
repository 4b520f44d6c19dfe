use Rattle.std.proofs.Common.{◌∙◌, rules}
use Rattle.jv_data.specs.Shared.{bytes_in}
use Rattle.jv_data.proofs.shared.Levels.{view-Table, view-Text}
use Rattle.jv_data.proofs.Utf8.{utf8-cmp}
use Rattle.jv_data.proofs.shared.Views.{text_utf8}
use Rattle.jv_data.proofs.Views.{first_decides}
use Rattle.jv_data.proofs.pairs.pair_of.Goals as goal

pub returns-in-Text-Text : goal.returns-in-Text-Text
returns-in-Text-Text c =
    rw (c.in-Text-Text.is-0, c.in-Text-Text.is-1, view-Text c.in-Text-Text.x, view-Text c.in-Text-Text.y)
    ((rw (c.as_str.ensures, c.as_str-in-Text-Text.ensures) at c.cmp-in-Text-Text.ensures) ∙ utf8-cmp (bytes_in c.in-Text-Text.x) (bytes_in c.in-Text-Text.y) (text_utf8 c.in-Text-Text.x) (text_utf8 c.in-Text-Text.y))

pub returns-in-Equal : goal.returns-in-Equal
returns-in-Equal c =
    rw (c.in-Table-Table.is-0, c.in-Table-Table.is-1, view-Table c.in-Table-Table.xs, view-Table c.in-Table-Table.ys, ← c.order_keys.ensures, c.in-Equal.is)
    (search rules)

pub returns-in_default-order_keys : goal.returns-in_default-order_keys
returns-in_default-order_keys c =
    rw (c.in-Table-Table.is-0, c.in-Table-Table.is-1, view-Table c.in-Table-Table.xs, view-Table c.in-Table-Table.ys, ← c.order_keys.ensures)
    (first_decides c.order_keys.result _ c.in_default-order_keys.not-Equal)
