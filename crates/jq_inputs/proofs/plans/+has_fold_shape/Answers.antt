use Rattle.std.proofs.Common.{rules}
use Rattle.jq_inputs.proofs.Levels.{shape-Define}
use Rattle.jq_inputs.proofs.plans.+has_fold_shape.Goals as goal

pub returns-in-Define : goal.returns-in-Define
returns-in-Define t c = rw (c.in-Define.is, shape-Define c.args.hidden c.in-Define.function c.in-Define.rest) (search rules)
