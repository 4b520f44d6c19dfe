use Rattle.std.proofs.Common.{◌≡◌, ◌∙◌, ap, rules}
use Rattle.jv_data.specs.View.{view}
use Rattle.jq_ast.specs.Leaves.{literal_of, operator_of}
use Rattle.jq_ast.specs.Named.{named}
use Rattle.jq_meaning.specs.Continuations.{value_of_literal}
use Rattle.jq_meaning.specs.Runs.{plain}
use Rattle.jq_single.proofs.Calls.{kind_told, named-Literal, type_run}
use Rattle.jq_single.proofs.contexts.Context.call_compared.Goals as goal

pub returns-in-Builtin-Native-TypeName-empty : goal.returns-in-Builtin-Native-TypeName-empty
returns-in-Builtin-Native-TypeName-empty c =
    let p = c.args.self.now in
    let v = view c.args.value.now in
    let l = c.in-Call-Literal.constant in
    let b = c.in-Builtin-Native-TypeName-empty in
    let constant : view c.value.result.now ≡ value_of_literal (literal_of l) = search rules in
    kind_told p (operator_of c.args.operator) (named c.args.left.now) (named c.args.right.now) (literal_of l) v c.kind_told.result (ap named c.in-Call-Literal.is-1 ∙ named-Literal l)
    (λ inputs level. (rw (b.field-0-is, b.field-0-0-is) at b.ensures) inputs level (plain v) ∙ type_run p inputs level b.field-1.now v b.len_below) (rw constant at c.kind_told.ensures)
