use Rattle.std.proofs.Common.{refl}
use Rattle.jq_ast.specs.Named.{named}
use Rattle.jq_state.specs.Links.{scope_in}
use Rattle.jq_state.specs.Views.{envs_in}
use Rattle.jq_fold_steps.proofs.Closed.{closing-frames}
use Rattle.jq_fold_steps.proofs.taking.take_input.Goals as goal

pub returns-in_ok-push_source-in-Nothing-clause-frames : goal.returns-in_ok-push_source-in-Nothing-clause-frames
returns-in_ok-push_source-in-Nothing-clause-frames c =
    λ inputs. rw (c.in_ok-push_source-in-Nothing.ensures.frames inputs, c.in_ok-fork.ensures.frames inputs, c.in_ok-fork.ensures.envs, c.requires.frames inputs, c.in-Nothing.is) refl

pub returns-in_ok-push_source-in-Nothing-clause-forks : goal.returns-in_ok-push_source-in-Nothing-clause-forks
returns-in_ok-push_source-in-Nothing-clause-forks c =
    λ inputs. rw (c.in_ok-push_source-in-Nothing.ensures.forks inputs, c.in_ok-fork.ensures.forks inputs, c.in_ok-push.ensures.items, c.new-cell.ensures.items, c.plain.ensures, c.requires.frames inputs, c.requires.forks inputs) refl

pub returns-in_ok-push_source-in-Each-clause-frames : goal.returns-in_ok-push_source-in-Each-clause-frames
returns-in_ok-push_source-in-Each-clause-frames c =
    λ inputs. rw (
      c.in_ok-push_source-in-Each.ensures.frames inputs,
      c.in_ok-push_closing-in-Each.ensures.frames inputs,
      c.in_ok-push_closing-in-Each.ensures.envs,
      c.in_ok-fork.ensures.frames inputs,
      c.in_ok-fork.ensures.envs,
      c.requires.frames inputs,
      c.in-Each.is,
      closing-frames c.args.parts.closing (named c.in-Each.extract.now) (scope_in (envs_in inputs c.args.state.now) c.args.scope),
    ) refl

pub returns-in_ok-push_source-in-Each-clause-forks : goal.returns-in_ok-push_source-in-Each-clause-forks
returns-in_ok-push_source-in-Each-clause-forks c =
    λ inputs. rw (c.in_ok-push_source-in-Each.ensures.forks inputs, c.in_ok-push_closing-in-Each.ensures.forks inputs, c.in_ok-fork.ensures.forks inputs, c.in_ok-push.ensures.items, c.new-cell.ensures.items, c.plain.ensures, c.requires.frames inputs, c.requires.forks inputs) refl
