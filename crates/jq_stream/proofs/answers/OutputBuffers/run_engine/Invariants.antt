use Rattle.std.proofs.Common.{◌≡◌, List}
use Rattle.jq_meaning.specs.Runs.{Run, Item, before}
use Rattle.jq_engine.specs.Engine.{IsRest}
use Rattle.jq_stream.proofs.Turning.{IsTurning}
use Rattle.jq_stream.proofs.answers.OutputBuffers.run_engine.Given as goal

-- the first outputs were printed, the others remain, and no output failed
abbrev pub invariant-loop-turn : goal.invariant-loop-turn
invariant-loop-turn g l = record {
  turning : (r : Run Item) → IsRest l.fn.engine r → (done : List Item) × (rest : Run Item) × (r ≡ before done rest) × IsRest l.engine rest
      × IsTurning l.style done l.fn.self l.self l.fn.outputs.bytes l.outputs.bytes;
  unfailed : l.outputs.failures ≡ l.fn.outputs.failures;
}
