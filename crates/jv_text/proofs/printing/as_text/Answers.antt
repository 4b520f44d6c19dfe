use Rattle.std.proofs.Common.{◌∙◌, ap, sym}
use Rattle.std.specs.Str.{chars}
use Rattle.jv_data.proofs.shared.Levels.{view-Text}
use Rattle.jv_data.specs.View.{view}
use Rattle.jv_text.specs.Printed.{bytes_or, text_of_value}
use Rattle.jv_text.proofs.Spelt.{bytes_or-Text}
use Rattle.jv_text.proofs.printing.as_text.Goals as goal

pub returns-in-Text-clause-bytes : goal.returns-in-Text-clause-bytes
returns-in-Text-clause-bytes c = λ other. ap (λ v. bytes_or other (view v)) c.in-Text.is ∙ bytes_or-Text other c.in-Text.text ∙ sym c.as_str.ensures

pub returns-in-Text-clause-characters : goal.returns-in-Text-clause-characters
returns-in-Text-clause-characters c = ap (λ v. text_of_value (view v)) c.in-Text.is ∙ ap text_of_value (view-Text c.in-Text.text) ∙ ap chars (sym c.as_str.ensures)
