use Rattle.std.proofs.Common.{◌∙◌, sym, ap}
use Rattle.jq_meaning.specs.Runs.{none}
use Rattle.jq_meaning.specs.machine.Machine.{find_handler}
use Rattle.jq_state.specs.Environments.{envs_of}
use Rattle.jq_state.specs.Links.{scope_in}
use Rattle.jq_state.specs.Steps.{step_in}
use Rattle.jq_state.specs.Views.{envs_in, frames_in, without_first}
use Rattle.jq_transitions.specs.private.Handling.{handled}
use Rattle.jq_transitions.proofs.Cutting.{shorter}
use Rattle.jq_transitions.proofs.backtracking.handlers.find_handler.Goals as goal

pub returns-in-Some-found-clause-frames : goal.returns-in-Some-found-clause-frames
returns-in-Some-found-clause-frames c inputs v fs =
    let s = c.frames.state in
    let h = c.in-Some-found.handler in
    c.frames.invariant.frames inputs v fs
    ∙ ap (λ k. find_handler v k fs) (c.in-Some.ensures.frames inputs)
    ∙ c.in-Some-found.ensures.frames (envs_in inputs s) v (without_first (frames_in inputs s)) fs
    ∙ ap (λ k. handled (envs_in inputs s) h v k fs) (sym (c.skip.ensures.frames inputs))
    ∙ ap (λ ns. handled (envs_of inputs ns) h v (frames_in inputs c.skip.new.self) fs) c.frames.invariant.nodes

pub returns-in-Some-found-clause-forks : goal.returns-in-Some-found-clause-forks
returns-in-Some-found-clause-forks c inputs = c.skip.ensures.forks inputs ∙ c.frames.invariant.forks inputs

pub frames-smaller : goal.frames-smaller
frames-smaller c =
    let s = c.frames.state in
    shorter (frames_in none s) (frames_in none c.skip.new.self) (step_in c.in-Some.step.now (scope_in (envs_in none s) c.in-Some.scope)) (c.in-Some.ensures.frames none) (c.skip.ensures.frames none)

pub frames-preserved : goal.frames-preserved
frames-preserved c =
    let s = c.frames.state in
    record {
      nodes = c.skip.ensures.envs ∙ c.frames.invariant.nodes;
      frames = λ inputs v fs. c.frames.invariant.frames inputs v fs
          ∙ ap (λ k. find_handler v k fs) (c.in-Some.ensures.frames inputs)
          ∙ c.in_default-found.ensures.frames (envs_in inputs s) v (without_first (frames_in inputs s)) fs
          ∙ ap (λ k. find_handler v k fs) (sym (c.skip.ensures.frames inputs));
      forks = λ inputs. c.skip.ensures.forks inputs ∙ c.frames.invariant.forks inputs;
    }

pub returns-clause-frames : goal.returns-clause-frames
returns-clause-frames c inputs v fs = c.frames.invariant.frames inputs v fs ∙ ap (λ k. find_handler v k fs) (c.in_default.ensures.none inputs)
