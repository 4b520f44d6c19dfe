use Rattle.std.proofs.Common.{◌≡◌, ◌∙◌, rules, ap, sym}
use Rattle.jv_data.proofs.shared.Levels.{view-Text}
use Rattle.jv_data.proofs.shared.Views.{bytes_back}
use Rattle.jv_data.specs.Shared.{bytes_in}
use Rattle.jv_data.specs.View.{view}
use Rattle.jq_meaning.specs.Builtins.{halt_bytes}
use Rattle.jq_operations.proofs.halts.halt_bytes.Goals as goal

pub returns-in_ok-extend_from_slice-in-Text : goal.returns-in_ok-extend_from_slice-in-Text
returns-in_ok-extend_from_slice-in-Text c =
    let copied : c.extend_from_slice.new.self.items ≡ bytes_in c.in-Text.text = search rules in
    copied ∙ sym (ap halt_bytes (view-Text c.in-Text.text) ∙ bytes_back c.in-Text.text) ∙ sym (ap (λ v. halt_bytes (view v)) c.in-Text.is)
