use Rattle.std.proofs.Common.{◌∙◌, sym, ap, subst}
use Rattle.jv_data.specs.View.{view}
use Rattle.jq_ast.specs.Named.{named}
use Rattle.jq_meaning.specs.Runs.{Item, plain}
use Rattle.jq_state.specs.Inputs.{inputs_of}
use Rattle.jq_state.specs.declared.items.Item as items
use Rattle.jq_state.proofs.shared.Items.{absent}
use Rattle.jq_engine.specs.private.Leading.{Leads, at_filter}
use Rattle.jq_engine.proofs.tails.tail_or_whole.Goals as goal

pub returns-then-tries : goal.returns-then-tries
returns-then-tries c =
    let inputs = inputs_of c.args.inputs.now in
    let s = c.args.state.now in
    let x = c.args.input.now in
    subst (λ (y : Item). Leads inputs (at_filter inputs s (named c.args.tree.now) c.args.scope y) c.run_whole.new.state c.in_ok-progress.progress) (sym (absent x (c.tries.ensures c.if-tries.true) ∙ ap (λ (z : items.Item). plain (view z.value)) (sym c.taken-value.ensures)))
    c.in_ok-progress.ensures
