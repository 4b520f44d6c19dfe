use Rattle.std.proofs.Common.{◌∙◌, refl, rules}
use Rattle.jq_fold_steps.proofs.entering.enter.Goals as goal

pub returns-clause-entered : goal.returns-clause-entered
returns-clause-entered c = record {
  depth = refl;
  level = refl;
  within = search rules;
  frames = λ inputs. c.in_ok-parts.ensures.frames inputs ∙ c.in_ok-state.ensures.frames inputs;
  forks = λ inputs. c.in_ok-parts.ensures.forks inputs ∙ c.in_ok-state.ensures.forks inputs;
}
