use Rattle.std.proofs.Common.{refl}
use Rattle.jq_ast.proofs.shared.Forms.{named-Keyed, named-KeyedVariable}
use Rattle.jq_state.specs.declared.next.Next.TheVariants.{Evaluate}
use Rattle.jq_transitions.proofs.Comings.{came}
use Rattle.jq_transitions.proofs.receiving.patterns.match_members.Goals as goal

pub returns-in_ok-push-in-Keyed : goal.returns-in_ok-push-in-Keyed
returns-in_ok-push-in-Keyed c =
    let e = c.in_ok-push-in-Keyed.ensures in
    came c.args.state.now c.push.new.self (Evaluate c.deref.result c.args.scope c.plain-input.result) e.envs c.requires e.frames e.forks
    (λ inputs. rw (
      c.in-Some.ensures.cases.0,
      c.in-Keyed.is,
      named-Keyed,
      c.in_ok-new-in-Keyed.ensures.ok,
      c.into_inner-tasks.ensures,
      c.plain-input.ensures,
      c.in_ok-copy-in-Keyed.ensures,
      c.deref.ensures,
    ) refl)

pub returns-in_ok-remaining-in-KeyedVariable : goal.returns-in_ok-remaining-in-KeyedVariable
returns-in_ok-remaining-in-KeyedVariable c =
    let h = rw (c.in_ok-part-in-KeyedVariable.ensures, c.in_ok-key-in-KeyedVariable.ensures, c.in_ok-remaining-in-KeyedVariable.ensures.tasks, c.in_ok-remaining-in-KeyedVariable.ensures.binder) at c.match_named.ensures in
    rw (c.in-Some.ensures.cases.0, c.in-KeyedVariable.is, named-KeyedVariable) h
