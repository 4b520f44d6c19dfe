use Rattle.std.proofs.Common.{rules, sym}
use Rattle.jq_builders.proofs.Levels.{names_take}
use Rattle.jq_builders.proofs.definitions.parameter_names.Goals as goal

pub loop-parameter-preserved : goal.loop-parameter-preserved
loop-parameter-preserved c =
    let e = names_take c.deref-parameter-items.result.now c.loop-parameter.parameter-index c.parameter-item.result c.parameter-item.is c.loop-parameter-test.true in
    search (rules, sym e, c.loop-parameter.invariant, c.in_ok-names.ensures)
