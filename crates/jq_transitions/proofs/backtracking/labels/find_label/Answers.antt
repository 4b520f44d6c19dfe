use Rattle.std.proofs.Common.{◌∙◌, sym, ap}
use Rattle.jq_meaning.specs.Runs.{none}
use Rattle.jq_meaning.specs.machine.Machine.{find_label}
use Rattle.jq_meaning.specs.machine.Stack.{cut}
use Rattle.jq_meaning.specs.machine.State.{state, go_back, moves}
use Rattle.jq_state.specs.Links.{scope_in}
use Rattle.jq_state.specs.Steps.{step_in}
use Rattle.jq_state.specs.Views.{envs_in, frames_in, without_first}
use Rattle.jq_transitions.proofs.Cutting.{shorter}
use Rattle.jq_transitions.proofs.backtracking.labels.find_label.Goals as goal

pub returns-in-Some-found-clause-frames : goal.returns-in-Some-found-clause-frames
returns-in-Some-found-clause-frames c inputs fs =
    let s = c.frames.state in
    c.frames.invariant.frames inputs fs
    ∙ ap (λ k. find_label c.args.level k fs) (c.in-Some.ensures.frames inputs)
    ∙ c.in-Some-found.ensures (scope_in (envs_in inputs s) c.in-Some.field-0-1) (without_first (frames_in inputs s)) fs
    ∙ ap (λ k. moves (state go_back k (cut c.in-Some-found.height fs))) (sym (c.skip.ensures.frames inputs))

pub returns-in-Some-found-clause-forks : goal.returns-in-Some-found-clause-forks
returns-in-Some-found-clause-forks c inputs = c.skip.ensures.forks inputs ∙ c.frames.invariant.forks inputs

pub frames-smaller : goal.frames-smaller
frames-smaller c =
    let s = c.frames.state in
    shorter (frames_in none s) (frames_in none c.skip.new.self) (step_in c.in-Some.step.now (scope_in (envs_in none s) c.in-Some.field-0-1)) (c.in-Some.ensures.frames none) (c.skip.ensures.frames none)

pub frames-preserved : goal.frames-preserved
frames-preserved c =
    let s = c.frames.state in
    record {
      nodes = c.skip.ensures.envs ∙ c.frames.invariant.nodes;
      frames = λ inputs fs. c.frames.invariant.frames inputs fs
          ∙ ap (λ k. find_label c.args.level k fs) (c.in-Some.ensures.frames inputs)
          ∙ c.in_default-found.ensures (scope_in (envs_in inputs s) c.in-Some.field-0-1) (without_first (frames_in inputs s)) fs
          ∙ ap (λ k. find_label c.args.level k fs) (sym (c.skip.ensures.frames inputs));
      forks = λ inputs. c.skip.ensures.forks inputs ∙ c.frames.invariant.forks inputs;
    }

pub returns-clause-frames : goal.returns-clause-frames
returns-clause-frames c inputs fs = c.frames.invariant.frames inputs fs ∙ ap (λ k. find_label c.args.level k fs) (c.in_default.ensures.none inputs)
