use Rattle.std.proofs.Common.{rules}
use Rattle.jv_data.proofs.shared.Levels.{view-Null, view-Text}
use Rattle.jv_value.proofs.setting.take_slice.Goals as goal

pub returns-in-Null : goal.returns-in-Null
returns-in-Null c = rw (c.in-Null.is, view-Null, c.requires) (search rules)

pub returns-in_err-part-in-Text : goal.returns-in_err-part-in-Text
returns-in_err-part-in-Text c = rw (c.in-Text.is, view-Text c.in-Text.text, c.requires) (search rules)
