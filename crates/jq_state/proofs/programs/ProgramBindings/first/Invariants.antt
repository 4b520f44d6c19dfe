use Rattle.std.proofs.Common.{MatchOption}
use Rattle.jq_state.specs.Listed.{bindings_in, is_sought, NoneFrom}
use Rattle.jq_state.specs.Nodes.{program_binding}
use Rattle.jq_state.proofs.Chaining.{InChain, IsFirstFrom}
use Rattle.jq_state.proofs.programs.ProgramBindings.first.Given as goal

abbrev pub invariant-loop-at : goal.invariant-loop-at
invariant-loop-at l = record {
  chain : InChain l.bucket l.self.items.items l.at;
  found : MatchOption l.first (NoneFrom (is_sought l.sought) (bindings_in l.self) l.at l.end)
      (λ r. IsFirstFrom (is_sought l.sought) (bindings_in l.self) l.at l.end r.0 (program_binding r.1.now));
}

abbrev pub decreases-loop-at : goal.decreases-loop-at
decreases-loop-at l = l.at
