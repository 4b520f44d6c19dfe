use Rattle.std.proofs.Common.{◌≡◌, ◌∙◌, ap, sym, subst, Some, None, Err}
use Rattle.std.specs.Result.{IfOk}
use Rattle.std.specs.Str.{chars}
use Rattle.jv_data.proofs.shared.Levels.{view-Null}
use Rattle.jv_data.specs.View.{view}
use Rattle.jv_text.specs.Formats.{format_named, text_in}
use Rattle.jq_ast.specs.Named.{name_of}
use Rattle.jq_operations.specs.Outputs.{Inserts}
use Rattle.jq_operations.proofs.Inserting.{known_format, no_format}
use Rattle.jq_operations.proofs.texts.text_in_format.Goals as goal

pub returns-in-Some : goal.returns-in-Some
returns-in-Some c =
    let n = name_of c.args.format.now in
    let v = view c.args.value.now in
    let f = c.in-Some.known in
    let found : Some f ≡ format_named n = sym c.in-Some.is ∙ c.format_of.ensures ∙ ap (λ bs. format_named (chars bs)) c.as_str.ensures.value in
    subst (λ t. IfOk c.insert.result (λ i. Inserts (chars c.args.front.now) t (chars c.args.back.now) i))
    (known_format n f v found) (c.insert.ensures (text_in f v) c.format.ensures)

pub returns-in-None : goal.returns-in-None
returns-in-None c =
    let n = name_of c.args.format.now in
    let v = view c.args.value.now in
    let missing : None ≡ format_named n = sym c.in-None.is ∙ c.format_of.ensures ∙ ap (λ bs. format_named (chars bs)) c.as_str.ensures.value in
    sym (no_format n v missing) ∙ ap Err (sym view-Null)
