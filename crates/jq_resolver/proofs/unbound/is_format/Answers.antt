use Rattle.std.proofs.Common.{◌≡◌, ◌∙◌, Some, None, ap, chars, sym}
use Rattle.jv_text.specs.Formats.{format_named}
use Rattle.jq_ast.specs.Bound.{is_format, means_format}
use Rattle.jq_tree.specs.Names.{to_format}
use Rattle.jq_resolver.specs.private.Waiting.{reference_at}
use Rattle.jq_resolver.proofs.unbound.is_format.Goals as goal

pub returns-in-Some : goal.returns-in-Some
returns-in-Some c =
    let name = c.as_str.result.now in
    let named : format_named (chars name) ≡ Some c.in-Some.found = sym c.format_of.ensures ∙ c.in-Some.is in
    let reference : reference_at c.args.used.sort c.args.used.name.now ≡ to_format (chars name) =
    ap (λ s. reference_at s c.args.used.name.now) c.in-Format.is ∙ ap (λ bs. to_format (chars bs)) (sym c.as_str.ensures.value) in
    c.eq.ensures ∙ ap (is_format c.args.format) (sym named) ∙ ap (means_format c.args.format) (sym reference)

pub returns-in-None : goal.returns-in-None
returns-in-None c =
    let name = c.as_str.result.now in
    let named : format_named (chars name) ≡ None = sym c.format_of.ensures ∙ c.in-None.is in
    let reference : reference_at c.args.used.sort c.args.used.name.now ≡ to_format (chars name) =
    ap (λ s. reference_at s c.args.used.name.now) c.in-Format.is ∙ ap (λ bs. to_format (chars bs)) (sym c.as_str.ensures.value) in
    ap (is_format c.args.format) (sym named) ∙ ap (means_format c.args.format) (sym reference)
