use Rattle.std.proofs.Common.{◌≡◌, ◌++◌, []}
use Rattle.jv_text.specs.PrintedTokens.{open_tokens}
use Rattle.jv_text.proofs.pieces.write_some.Given as goal

-- what is written, and then what is open, stays the same
abbrev pub invariant-loop : goal.invariant-loop
invariant-loop g l = g.W.Tokens.written l.out ++ open_tokens l.opened.items [] ≡ g.W.Tokens.written l.fn.out ++ open_tokens l.fn.opened.items []
