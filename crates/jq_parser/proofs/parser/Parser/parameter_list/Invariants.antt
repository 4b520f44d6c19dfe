use Rattle.std.proofs.Common.{◌≡◌, map, length}
use Rattle.jq_builders.specs.Views.{parameter_of}
use Rattle.jq_parser.specs.private.Parsing.{ahead}
use Rattle.jq_parser.proofs.Loops.{Reads}
use Rattle.jq_parser.proofs.parser.Parser.parameter_list.Given as goal

abbrev pub invariant-loop-parameter : goal.invariant-loop-parameter
invariant-loop-parameter l = (l.self.frames ≡ l.initial.self.frames) × Reads (ahead l.initial.self) (map parameter_of l.parameters.items) (ahead l.self)

abbrev pub decreases-loop-parameter : goal.decreases-loop-parameter
decreases-loop-parameter l = length (ahead l.self)
