use Rattle.std.proofs.Common.{refl}
use Rattle.jq_ast.specs.Named.{named}
use Rattle.jq_transitions.proofs.Moving.{still, evaluates}
use Rattle.jq_transitions.proofs.evaluating.waiting.run_combining.Goals as goal

pub returns : goal.returns
returns c = (
  still c.args.scope.env c.push.ensures.envs c.requires,
  λ inputs.
      evaluates c.args.state.now c.push.new.self (named c.args.part.now) c.args.scope inputs c.push.ensures.envs refl (c.in_ok-push.ensures.frames inputs) (c.in_ok-push.ensures.forks inputs),
)
