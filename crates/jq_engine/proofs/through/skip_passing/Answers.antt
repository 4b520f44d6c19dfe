use Rattle.jq_meaning.specs.Runs.{none}
use Rattle.jq_state.specs.Views.{frames_in}
use Rattle.jq_engine.specs.private.Leading.{here}
use Rattle.jq_engine.proofs.Leading.{and_then}
use Rattle.jq_engine.proofs.PassedOn.{fewer, same_item, skips}
use Rattle.jq_engine.proofs.through.skip_passing.Goals as goal

pub frames-init : goal.frames-init
frames-init c = record { run = λ inputs x. here }

pub frames-smaller : goal.frames-smaller
frames-smaller c = fewer (frames_in none c.frames.state) (frames_in none c.skip.new.self) (c.passes_first.ensures c.frames-test.true none) (c.skip.ensures.frames none)

pub frames-preserved : goal.frames-preserved
frames-preserved c = record {
  run = λ inputs x. and_then (c.frames.invariant.run inputs x) (skips inputs c.frames.state c.skip.new.self x (c.passes_first.ensures c.frames-test.true inputs) (c.skip.ensures.frames inputs) (c.skip.ensures.forks inputs));
}

pub returns : goal.returns
returns c inputs x = same_item inputs c.args.state.now c.frames.state c.trim.new.self x (c.frames.invariant.run inputs x) (c.trim.ensures.frames inputs) (c.trim.ensures.forks inputs)
