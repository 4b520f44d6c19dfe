use Rattle.std.proofs.Common.{◌↔◌, map, ◌+◌, ◌≤◌, drop}
use Rattle.jq_lexer.specs.Views.{token_of}
use Rattle.jq_tree.specs.Token.{TooNested}
use Rattle.jq_syntax.proofs.Nesting.{NestedAfter}
use Rattle.jq_syntax.proofs.limits.is_too_nested.Given as goal

-- the result depends on the remaining tokens
abbrev pub invariant-loop-token : goal.invariant-loop-token
invariant-loop-token l =
    (TooNested (map token_of l.tokens) ↔ NestedAfter l.opened l.closed (map token_of (drop l.token-index l.tokens)))
    × (l.opened ≤ l.closed + 256) × (l.opened ≤ l.token-index) × (l.closed ≤ l.token-index)
