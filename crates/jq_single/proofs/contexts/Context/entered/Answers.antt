use Rattle.std.proofs.Common.{◌∙◌, ◌-◌, ap, arith, sym}
use Rattle.jq_ast.specs.Named.{named}
use Rattle.jq_meaning.specs.Meaning.{below}
use Rattle.jq_single.proofs.Calls.{body_runs}
use Rattle.jq_single.specs.private.Scopes.{scope_env}
use Rattle.jq_single.proofs.contexts.Context.entered.Goals as goal

pub returns-in-Body : goal.returns-in-Body
returns-in-Body c = λ inputs level x.
    let p = c.args.self.now in
    let body = named c.in-Body.body.now in
    (rw c.in-Body.is at c.requires) inputs level x ∙ ap (λ z. below p.depth body z level x) (sym (c.scope_of_call-scope.ensures inputs))
    ∙ sym (body_runs (scope_env inputs c.scope_of_call-scope.result) p.depth (p.depth - 1) level body x (omega (arith, c.if-self-gt0.true)))
