use Rattle.std.proofs.Common.{◌<◌}
use Rattle.jq_ast.specs.Named.{named}
use Rattle.jq_state.specs.Environments.{count_of}
use Rattle.jq_state.specs.Inputs.{inputs_of}
use Rattle.jq_state.specs.Items.{item_of}
use Rattle.jq_engine.specs.private.Leading.{Advances, at_filter}
use Rattle.jq_engine.proofs.tails.evaluate.Given as goal

-- the machine has advanced to this filter
abbrev pub invariant-tails : goal.invariant-tails
invariant-tails l = record {
  env : l.scope.env < count_of l.state.nodes;
  run : Advances
      (at_filter (inputs_of l.inputs) l.initial.state (named l.initial.tree) l.initial.scope (item_of l.initial.input))
      (at_filter (inputs_of l.inputs) l.state (named l.tree) l.scope (item_of l.input));
}

abbrev pub decreases-tails : goal.decreases-tails
decreases-tails l = l.left
