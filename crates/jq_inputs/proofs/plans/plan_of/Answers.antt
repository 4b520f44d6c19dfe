use Rattle.std.proofs.Common.{◌∙◌, sym}
use Rattle.jq_ast.specs.Named.{named}
use Rattle.jq_inputs.proofs.Whole.{planned_fold, planned_other, planned_slurp, planned_per_input}
use Rattle.jq_inputs.proofs.plans.plan_of.Goals as goal

pub returns-then-has_fold_shape : goal.returns-then-has_fold_shape
returns-then-has_fold_shape c =
    let e = rw c.nothing.ensures at c.has_fold_shape.ensures in
    planned_fold c.args.null c.args.slurp (named c.args.tree.now) c.if-null.true (sym e ∙ c.if-has_fold_shape.true)

pub returns-else-has_fold_shape : goal.returns-else-has_fold_shape
returns-else-has_fold_shape c =
    let e = rw c.nothing.ensures at c.has_fold_shape.ensures in
    planned_other c.args.null c.args.slurp (named c.args.tree.now) c.if-null.true (sym e ∙ c.if-has_fold_shape.false)

pub returns-then-slurp : goal.returns-then-slurp
returns-then-slurp c = planned_slurp c.args.null c.args.slurp (named c.args.tree.now) c.if-null.false c.if-slurp.true

pub returns-else-slurp : goal.returns-else-slurp
returns-else-slurp c = planned_per_input c.args.null c.args.slurp (named c.args.tree.now) c.if-null.false c.if-slurp.false
