use Rattle.std.proofs.Common.{◌≡◌, ◌∙◌, Ok, sym, ap}
use Rattle.jq_ast.specs.Named.{named, name_of}
use Rattle.jq_ast.proofs.shared.Forms.{named-Text, named-Break, named-Object}
use Rattle.jq_tree.specs.Tree as form
use Rattle.jq_operations.specs.Pieces.{named_pieces}
use Rattle.jq_state.specs.Inputs.{inputs_of}
use Rattle.jq_state.specs.Items.{item_of}
use Rattle.jq_state.specs.Steps.{named_entries}
use Rattle.jq_transitions.proofs.Moving.{with_inputs}
use Rattle.jq_transitions.proofs.evaluating.enter.Goals as goal

pub enter_object-requires-clause-tree : goal.enter_object-requires-clause-tree
enter_object-requires-clause-tree c =
    ap named c.in-Object.is ∙ named-Object c.in-Object.entries ∙ ap (λ es. form.object (named_entries es)) (sym c.as_slice-in-Object.ensures.value)

pub returns-in-Text : goal.returns-in-Text
returns-in-Text c =
    let f = form.text (name_of c.in-Text.format) (named_pieces c.as_slice.result.now c.in-Text.last) in
    let is : named c.args.tree.now ≡ f = ap named c.in-Text.is ∙ named-Text c.in-Text.format c.in-Text.pieces c.in-Text.last
    ∙ ap (λ ps. form.text (name_of c.in-Text.format) (named_pieces ps c.in-Text.last)) (sym c.as_slice.ensures.value) in
    with_inputs c.args.state.now c.enter_text.new.state c.args.scope c.args.input (named c.args.tree.now) f (inputs_of c.args.inputs.now) c.enter_text.result is c.enter_text.ensures

pub returns-in-Object : goal.returns-in-Object
returns-in-Object c =
    let f = form.object (named_entries c.as_slice-in-Object.result.now) in
    let is : named c.args.tree.now ≡ f =
    ap named c.in-Object.is ∙ named-Object c.in-Object.entries ∙ ap (λ es. form.object (named_entries es)) (sym c.as_slice-in-Object.ensures.value) in
    with_inputs c.args.state.now c.enter_object.new.state c.args.scope c.args.input (named c.args.tree.now) f (inputs_of c.args.inputs.now) c.enter_object.result is c.enter_object.ensures

pub returns-in-Break : goal.returns-in-Break
returns-in-Break c =
    let f = form.break (name_of c.in-Break.name) in
    let is : named c.args.tree.now ≡ f = ap named c.in-Break.is ∙ named-Break c.in-Break.name in
    let s = c.args.state.now in
    with_inputs s s c.args.scope c.args.input (named c.args.tree.now) f (inputs_of c.args.inputs.now) (Ok c.enter_break.result) is (c.enter_break.ensures (item_of c.args.input))
