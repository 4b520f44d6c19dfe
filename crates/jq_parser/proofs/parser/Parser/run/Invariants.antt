use Rattle.jq_parser.specs.private.Parsing.{next_of, ahead, waiting}
use Rattle.jq_parser.proofs.Whole.{begun, Leads, left}
use Rattle.jq_parser.proofs.parser.Parser.run.Given as goal

abbrev pub invariant-loop-mode : goal.invariant-loop-mode
invariant-loop-mode l = Leads (begun (ahead l.initial.self)) (next_of l.mode (waiting l.self) (ahead l.self))

abbrev pub decreases-loop-mode : goal.decreases-loop-mode
decreases-loop-mode l = left (next_of l.mode (waiting l.self) (ahead l.self))
