use Rattle.std.proofs.Common.{◌≡◌, subst, IfOk}
use Rattle.jv_data.specs.Value.{string}
use Rattle.jv_data.specs.View.{view}
use Rattle.jv_data.proofs.shared.Ascii.{ascii_chars}
use Rattle.jv_data.proofs.raising.message.Goals as goal

pub returns : goal.returns
returns c = subst (λ cs. IfOk c.from_text.result (λ v. view v ≡ string cs)) (ascii_chars _ c.requires) c.from_text.ensures
