use Rattle.std.proofs.Common.{◌≡◌, ℕ, List, ◌++◌}
use Rattle.jq_stream.specs.private.Answering.{IsPrinted}
use Rattle.jq_stream.proofs.answers.OutputBuffers.print_pieces.Given as goal

-- the first bytes were printed, the rest remains, and no output failed
abbrev pub invariant-loop-piece : goal.invariant-loop-piece
invariant-loop-piece g l = record {
  printed : (done : List ℕ) × (l.fn.printer ≡ done ++ l.printer)
      × IsPrinted done l.fn.self l.self l.fn.outputs.bytes l.outputs.bytes;
  last : l.self.last ≡ l.fn.self.last;
  unfailed : l.outputs.failures ≡ l.fn.outputs.failures;
}
