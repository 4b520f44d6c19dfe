use Rattle.std.proofs.Common.{refl}
use Rattle.jq_ast.specs.Named.{named}
use Rattle.jq_state.specs.Inputs.{inputs_of}
use Rattle.jq_state.specs.Items.{item_of}
use Rattle.jq_engine.specs.private.Leading.{at_filter}
use Rattle.jq_engine.proofs.RangesAtOnce.{enters_at}
use Rattle.jq_engine.proofs.ranges.enter_filter.Goals as goal

pub returns : goal.returns
returns c =
    let inputs = inputs_of c.args.inputs.now in
    enters_at inputs (at_filter inputs c.args.state.now (named c.args.tree.now) c.args.scope (item_of c.args.input)) _ c.enter.new.state c.enter.result refl c.enter.ensures
