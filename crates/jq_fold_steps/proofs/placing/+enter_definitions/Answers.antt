use Rattle.std.proofs.Common.{◌∙◌, ap, sym}
use Rattle.jq_ast.proofs.shared.Forms.{named-Define}
use Rattle.jq_ast.specs.Named.{named}
use Rattle.jq_state.specs.Nodes.{env_at}
use Rattle.jq_state.specs.Views.{envs_in}
use Rattle.jq_folds.specs.Folding.{fold_in}
use Rattle.jq_fold_steps.proofs.placing.+enter_definitions.Goals as goal

pub returns-in_ok-place-in-Define-clause-frames : goal.returns-in_ok-place-in-Define-clause-frames
returns-in_ok-place-in-Define-clause-frames t c = λ inputs. c.in_ok-place-in-Define.ensures.frames inputs ∙ c.in_ok-inner-in-Define.ensures.frames inputs

pub returns-in_ok-place-in-Define-clause-forks : goal.returns-in_ok-place-in-Define-clause-forks
returns-in_ok-place-in-Define-clause-forks t c = λ inputs. c.in_ok-place-in-Define.ensures.forks inputs ∙ c.in_ok-inner-in-Define.ensures.forks inputs

pub returns-in_ok-place-in-Define-clause-placed : goal.returns-in_ok-place-in-Define-clause-placed
returns-in_ok-place-in-Define-clause-placed t c = λ inputs.
    let e = env_at (envs_in inputs c.args.state.now) c.args.env in
    let inner = ap (fold_in (named c.in-Define.rest.value)) (rw c.deref.ensures at c.in_ok-inner-in-Define.ensures.env inputs) in
    let form = ap (λ u. fold_in u e) (ap named c.in-Define.is ∙ named-Define c.in-Define.function c.in-Define.rest) in
    (rw c.deref-in-Define.ensures at c.in_ok-place-in-Define.ensures.placed inputs) ∙ inner ∙ sym form
