use Rattle.std.proofs.Common.{◌∙◌, ap, sym}
use Rattle.std.proofs.lemmas.Map.Text.{is_eq-slice_cmp}
use Rattle.std.specs.Str.{bytes_eq}
use Rattle.jv_data.proofs.shared.Views.{text_utf8}
use Rattle.jv_data.specs.Kind.{kind_name}
use Rattle.jv_data.specs.Shared.{bytes_in, text_in}
use Rattle.jv_data.specs.View.{view}
use Rattle.jv_data.proofs.shared.Ascii.{ascii_same_as}
use Rattle.jq_single.proofs.finding.is_kind.Goals as goal

pub returns : goal.returns
returns c =
    let t = c.args.text.now in
    c.eq.ensures ∙ ap (bytes_eq c.kind_name.result.now) c.as_str.ensures
    ∙ ascii_same_as c.kind_name.result.now (bytes_in t) c.kind_name.ensures.ascii (text_utf8 t)
    ∙ ap (λ k. bytes_eq k (text_in t)) c.kind_name.ensures.name
    ∙ sym (is_eq-slice_cmp (kind_name (view c.args.value.now)) (text_in t))
