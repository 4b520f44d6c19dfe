use Rattle.std.proofs.Common.{◌∙◌, ap, sym, subst}
use Rattle.jv_data.specs.Fails.{FailsAs}
use Rattle.jv_data.specs.View.{view}
use Rattle.jq_natives.specs.Reading.{fromjson_of, read_answer, value_read}
use Rattle.jv_data.proofs.shared.Levels.{view-Text}
use Rattle.jv_data.proofs.shared.Views.{bytes_back}
use Rattle.jq_natives.proofs.reading.fromjson.Goals as goal

pub returns-in-Ok : goal.returns-in-Ok
returns-in-Ok c =
    let t = c.in-Text.text in
    ap fromjson_of (ap view c.in-Text.is ∙ view-Text t) ∙ ap value_read (bytes_back t ∙ sym c.as_str.ensures ∙ sym c.as_bytes.ensures.value) ∙ ap read_answer c.in-Ok.ensures

pub returns-in-Err : goal.returns-in-Err
returns-in-Err c =
    let t = c.in-Text.text in
    let read = ap fromjson_of (ap view c.in-Text.is ∙ view-Text t) ∙ ap value_read (bytes_back t ∙ sym c.as_str.ensures ∙ sym c.as_bytes.ensures.value) in
    subst (FailsAs c.unreadable.result) (sym read) (c.unreadable.ensures _ c.in-Err.ensures)
