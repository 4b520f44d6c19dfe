use Rattle.jq_state.specs.Listed.{bindings_in, is_sought, NoneFrom}
use Rattle.jq_state.proofs.Chaining.{InChain}
use Rattle.jq_state.proofs.programs.ProgramBindings.last.Given as goal

abbrev pub invariant-loop-at : goal.invariant-loop-at
invariant-loop-at l = record {
  chain : InChain l.bucket l.self.items.items l.at;
  none : NoneFrom (is_sought l.sought) (bindings_in l.self) l.at l.end;
}

abbrev pub decreases-loop-at : goal.decreases-loop-at
decreases-loop-at l = l.at
