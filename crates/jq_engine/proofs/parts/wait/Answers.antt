use Rattle.std.proofs.Common.{◌∙◌, ◌<◌, refl, sym, ap, subst}
use Rattle.jq_ast.specs.Named.{named}
use Rattle.jq_meaning.specs.machine.State.{moves}
use Rattle.jq_state.specs.Environments.{count_of}
use Rattle.jq_state.proofs.shared.Transitions.{evaluates}
use Rattle.jq_engine.specs.private.Leading.{here}
use Rattle.jq_engine.proofs.parts.wait.Goals as goal

pub returns : goal.returns
returns c inputs before e =
    let pushed = c.in_ok-push.ensures in
    let fits = subst (λ ns. c.args.scope.env < count_of ns) (sym pushed.envs) c.requires in
    let same = evaluates c.args.state.now c.push.new.self (named c.args.part.now) c.args.scope inputs pushed.envs refl (pushed.frames inputs) (pushed.forks inputs) in
    record { from = before; advances = here; steps = λ f. (fits, e ∙ ap moves same) }
