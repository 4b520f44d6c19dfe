use Rattle.std.proofs.Common.{◌∙◌, ap, not}
use Rattle.jq_ast.specs.Named.{named}
use Rattle.jq_inputs.specs.private.Counts.{is_zero}
use Rattle.jq_inputs.proofs.Whole.{reads_is}
use Rattle.jq_inputs.proofs.plans.reads_inputs.Goals as goal

pub returns : goal.returns
returns c =
    let e = rw c.nothing.ensures at c.survey-count.ensures.count in
    ap not (c.is_zero.ensures ∙ ap is_zero e) ∙ reads_is (named c.args.tree.now)
